-- The bits of a binary.
use Rattle.std.proofs.Common.{◌≡◌, ℕ, ◌+◌, ◌-◌, ◌<◌, ◌≤◌, List, [], ◌∷◌, ◌++◌, length, get_or, drop, sym, ap, ◌∙◌, append_assoc, arith}
use Rattle.std.proofs.Math.Logic.{∥∥₁_elim}
use Rattle.std.proofs.Math.Bridge.{le_prop}
use Rattle.std.proofs.lemmas.List.{drop-append-le, drop_more}
use Rattle.p21_text.specs.Spelling.{IsBinary}
use Rattle.p21_rules.specs.Bits.{bits, hex_value, nibble, nibbles}
use Rattle.p21_rules.specs.Code.{bytes_code, scalar_code, value_code}
use Rattle.p21_rules.specs.Value.{binary}

-- the first digit of a binary with further ones
pub record Unused (s : List ℕ) : Type 0 where
  pub least : 48 ≤ get_or s 0 0
  pub most : get_or s 0 0 ≤ 51

unused : (s : List ℕ) → IsBinary s → Unused s
unused [] h = absurd h
unused (b ∷ []) h = record { least = omega arith; most = omega arith }
unused (b ∷ c ∷ s) h = record { least = h.0; most = h.1 }

pub unused_of : (s : List ℕ) → ∥ IsBinary s ∥₁ → Unused s
unused_of s h = ∥∥₁_elim h (hlevel le_prop) (unused s)

-- those of the first further digit come first
pub first_bits : (s : List ℕ) → 2 ≤ length s → get_or s 0 0 ≤ 51 → drop (get_or s 0 0 - 48) (nibble (hex_value (get_or s 1 0))) ++ nibbles (drop 2 s) ≡ bits s
first_bits [] l m = absurd (omega arith)
first_bits (b ∷ []) l m = absurd (omega arith)
first_bits (b ∷ c ∷ s) l m = sym (drop-append-le (b - 48) (nibble (hex_value c)) (nibbles s) (omega arith))

-- ---- as bytes

-- one item more was added
pub item_more : (xs : List ℕ) (k b : ℕ) (code new all rest : List ℕ) → k < length xs → b ≡ get_or xs k 0 → new ≡ code ++ scalar_code b → code ++ bytes_code (drop k xs ++ rest) ≡ all → new ++ bytes_code (drop (k + 1) xs ++ rest) ≡ all
item_more xs k b code new all rest l e n h =
    let behind = bytes_code (drop (k + 1) xs ++ rest) in
    ap (λ m. m ++ behind) n
    ∙ append_assoc code (scalar_code b) behind
    ∙ ap (λ i. code ++ bytes_code (i ∷ (drop (k + 1) xs ++ rest))) e
    ∙ ap (λ m. code ++ bytes_code (m ++ rest)) (sym (drop_more xs k 0 l))
    ∙ h

-- a tag, the first bits and those of the other digits are the code of the binary
pub bits_pushed : (body old tag mid new : List ℕ) (value from : ℕ) → 2 ≤ length body → get_or body 0 0 ≤ 51 → value ≡ hex_value (get_or body 1 0) → from ≡ get_or body 0 0 - 48 → tag ≡ old ++ 6 ∷ []
    → mid ++ bytes_code (nibbles (drop 2 body)) ≡ tag ++ bytes_code (drop from (nibble value) ++ nibbles (drop 2 body)) → new ≡ mid ++ bytes_code (nibbles (drop 2 body)) → new ≡ old ++ value_code (binary (bits body))
bits_pushed body old tag mid new value from long most v f t m n =
    n
    ∙ m
    ∙ ap (λ k. tag ++ bytes_code (drop k (nibble value) ++ nibbles (drop 2 body))) f
    ∙ ap (λ u. tag ++ bytes_code (drop (get_or body 0 0 - 48) (nibble u) ++ nibbles (drop 2 body))) v
    ∙ ap (λ l. tag ++ bytes_code l) (first_bits body long most)
    ∙ ap (λ l. l ++ bytes_code (bits body)) t
    ∙ append_assoc old (6 ∷ []) (bytes_code (bits body))
