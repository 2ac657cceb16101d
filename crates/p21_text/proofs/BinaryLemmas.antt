-- The longest binary at the front of a text.
use Rattle.std.proofs.Common.{◌≡◌, ℕ, suc, ◌+◌, ◌-◌, ◌*◌, ◌<◌, ◌≤◌, inl, List, [], ◌∷◌, ◌++◌, length, get_or, take, refl, sym, ap, ◌∙◌, arith, append_assoc}
use Rattle.std.specs.List.{AllByRecursion}
use Rattle.std.proofs.Math.Logic.{∥∥₁_elim}
use Rattle.std.proofs.Math.Bridge.{le_prop}
use Rattle.std.proofs.lemmas.List.{length-append, take_more, get_or_at}
use Rattle.p21_text.specs.Spelling.{IsBinary, NotBefore}
use Rattle.p21_text.specs.Spelling as token
use Rattle.p21_text.specs.Tokens.{Front}
use Rattle.p21_text.specs.Runs.{IsRun, IsHexByte}
use Rattle.p21_text.proofs.Splits.{take_front}
use Rattle.p21_text.proofs.RunLemmas.{run_longest, run_exact, hex_by_range, range_of_hex}
use Rattle.p21_text.proofs.Shapes.{Shape, front_by, none_by}
use Rattle.p21_text.proofs.Groups.{only_binary, tail_is}

binary_all : (s : List ℕ) → IsBinary s → AllByRecursion IsHexByte s
binary_all [] h = absurd h
binary_all (b ∷ []) h = (hex_by_range b (inl (omega arith, omega arith)), tt)
binary_all (b ∷ c ∷ s) h = (hex_by_range b (inl (h.0, omega arith)), h.2)

not_quote : IsHexByte 34 → ⊥
not_quote h = let ranges = range_of_hex 34 h.0 h.1 in omega arith

-- what a binary says of the bytes after its first quote
binary_parts : (tail front behind : List ℕ) → 34 ∷ tail ≡ front ++ behind → Shape front behind → (s : List ℕ) × (tail ≡ s ++ (34 ∷ behind)) × IsBinary s × (length front ≡ 1 + length s + 1)
binary_parts tail front behind g k =
    let u = only_binary 34 tail front behind g refl k in
    let rest : tail ≡ (u.0 ++ 34 ∷ []) ++ behind = tail_is 34 34 tail (u.0 ++ 34 ∷ []) front behind g u.1 in
    (u.0, rest ∙ append_assoc u.0 (34 ∷ []) behind, u.2, omega (arith, ap length u.1, length-append u.0 (34 ∷ [])))

pub binary_front : (tail : List ℕ) (n : ℕ) → IsRun IsHexByte tail n → n < length tail → get_or tail n 0 ≡ 34 → IsBinary (take n tail) → Front (34 ∷ tail) (1 + n + 1) (token.binary (take n tail))
binary_front tail n r h quote b = front_by (34 ∷ tail) (1 + n + 1) (token.binary (take n tail)) (omega arith) (spelled, b) longest where
  spelled : take (1 + n + 1) (34 ∷ tail) ≡ 34 ∷ (take n tail ++ 34 ∷ [])
  spelled =
      let one : 1 + n + 1 ≡ suc (n + 1) = omega arith in
      rw one (ap (λ t. 34 ∷ t) (take_more tail n 0 h ∙ ap (λ c. take n tail ++ c ∷ []) quote))

  longest : (front behind : List ℕ) → 34 ∷ tail ≡ front ++ behind → Shape front behind → length front ≤ 1 + n + 1
  longest front behind g s =
      let u = binary_parts tail front behind g s in
      let short : length u.0 ≤ n = run_longest IsHexByte tail n r u.0 (34 ∷ behind) u.1 (binary_all u.0 u.2) in
      omega (arith, u.3)

-- the digits are no binary's, or no quote stands after them
pub binary_none : (tail : List ℕ) (n : ℕ) → IsRun IsHexByte tail n → (n < length tail → get_or tail n 0 ≡ 34 → IsBinary (take n tail) → ⊥) → Front (34 ∷ tail) 0 token.bad
binary_none tail n r none = none_by (34 ∷ tail) (λ h. cc) none_here where
  none_here : (front behind : List ℕ) → 34 ∷ tail ≡ front ++ behind → Shape front behind → ⊥
  none_here front behind g s =
      let u = binary_parts tail front behind g s in
      let exact : length u.0 ≡ n = run_exact IsHexByte tail n r u.0 (34 ∷ behind) u.1 (binary_all u.0 u.2) not_quote in
      let long : length tail ≡ length u.0 + suc (length behind) = ap length u.1 ∙ length-append u.0 (34 ∷ behind) in
      let same : take n tail ≡ u.0 = ap (λ k. take k tail) (sym exact) ∙ take_front tail u.0 (34 ∷ behind) u.1 in
      let quote : get_or tail n 0 ≡ 34 = ap (λ t. get_or t n 0) u.1 ∙ get_or_at u.0 34 behind 0 n exact in
      none (omega arith) quote (rw same u.2)

-- what a count of the bits needs
pub record Bounds (s : List ℕ) : Type 0 where
  pub some : 0 < length s
  pub digit : 48 ≤ get_or s 0 0
  pub padded : get_or s 0 0 - 48 ≤ 4 * (length s - 1)

binary_bounds : (s : List ℕ) → IsBinary s → Bounds s
binary_bounds [] h = absurd h
binary_bounds (b ∷ []) h = record { some = omega arith; digit = omega arith; padded = omega arith }
binary_bounds (b ∷ c ∷ s) h = (let low = h.0 in let high = h.1 in record { some = omega arith; digit = omega arith; padded = omega arith })

pub bounds_of : (s : List ℕ) → ∥ IsBinary s ∥₁ → Bounds s
bounds_of s h = ∥∥₁_elim h (hlevel le_prop) (binary_bounds s)
