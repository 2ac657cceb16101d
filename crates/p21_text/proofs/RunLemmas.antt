-- Runs of bytes: how a loop finds one, and that there is one only.
use Rattle.std.proofs.Common.{◌≡◌, ℕ, zero-le, one-add, Bool, true, false, ◌+◌, ◌-◌, ◌<◌, ◌≤◌, ◌⊎◌, inl, inr, List, [], ◌∷◌, ◌++◌, length, get_or, take, drop, refl, sym, ◌∙◌, subst, arith}
use Rattle.std.specs.List.{AllByRecursion, prefix_len}
use Rattle.std.proofs.lemmas.Bool.Decides.{nat_tests}
use Rattle.std.proofs.lemmas.Bool.{false≢true}
use Rattle.p21_text.specs.Values.{hex_digit}
use Rattle.p21_text.proofs.FoundLemmas.{hex_digit_of}
use Rattle.p21_text.specs.ItemShapes.{hex_byte}
use Rattle.std.proofs.lemmas.List.{take_more, drop_more, drop_all, length-take-le}
use Rattle.p21_text.specs.Items.{IsHexDigit}
use Rattle.p21_text.specs.Items as items
use Rattle.p21_text.specs.Spelling.{NotBefore}
use Rattle.p21_text.specs.Runs.{IsRun, IsHexByte}
use Rattle.p21_text.proofs.Splits.{cut}

-- two lists that hold P, one after the other
pub all_append : (P : ℕ → Type 0) (a b : List ℕ) → AllByRecursion P a → AllByRecursion P b → AllByRecursion P (a ++ b)
all_append P [] b h k = k
all_append P (x ∷ a) b h k = (h.0, all_append P a b h.1 k)

pub all_more : (P : ℕ → Type 0) (xs : List ℕ) (i : ℕ) → i < length xs → AllByRecursion P (take i xs) → P (get_or xs i 0) → AllByRecursion P (take (i + 1) xs)
all_more P xs i h each here = rw (take_more xs i 0 h) (all_append P (take i xs) (get_or xs i 0 ∷ []) each (here, tt))

-- the byte at place i is no P, or there is none
pub stops_at : (P : ℕ → Type 0) (xs : List ℕ) (i : ℕ) → i < length xs → ¬ (P (get_or xs i 0)) → NotBefore P (drop i xs)
stops_at P xs i h here = rw (drop_more xs i 0 h) here

pub stops_end : (P : ℕ → Type 0) (xs : List ℕ) (i : ℕ) → length xs ≤ i → NotBefore P (drop i xs)
stops_end P xs i h = let none : drop i xs ≡ [] = drop_all i xs h in rw none tt

pub run_to : (P : ℕ → Type 0) (xs : List ℕ) (i : ℕ) → i < length xs → AllByRecursion P (take i xs) → ¬ (P (get_or xs i 0)) → IsRun P xs i
run_to P xs i h each here = record { fits = omega arith; each = each; stops = stops_at P xs i h here }

pub run_all : (P : ℕ → Type 0) (xs : List ℕ) (n : ℕ) → n ≡ length xs → AllByRecursion P (take n xs) → IsRun P xs n
run_all P xs n e each = record { fits = omega arith; each = each; stops = stops_end P xs n (omega arith) }

-- of two fronts of one text, the one that holds P is no longer than the one at which P stops
pub front_longest : (P : ℕ → Type 0) (a b c d : List ℕ) → a ++ b ≡ c ++ d → AllByRecursion P c → NotBefore P b → length c ≤ length a
front_longest P a b [] d e each stops = zero-le
front_longest P [] b (y ∷ c) d e each stops = absurd (stop b y (c ++ d) e stops each.0) where
  stop : (b : List ℕ) (y : ℕ) (rest : List ℕ) → b ≡ y ∷ rest → NotBefore P b → P y → ⊥
  stop [] y rest e k p = cc
  stop (x ∷ b) y rest e k p = k (subst P (sym (let same : x ≡ y = cc in same)) p)
front_longest P (x ∷ a) b (y ∷ c) d e each stops =
    let tails : a ++ b ≡ c ++ d = cc in
    let shorter : length c ≤ length a = front_longest P a b c d tails each.1 stops in
    omega arith

pub run_longest : (P : ℕ → Type 0) (text : List ℕ) (n : ℕ) → IsRun P text n → (front behind : List ℕ) → text ≡ front ++ behind → AllByRecursion P front → length front ≤ n
run_longest P text n r front behind e each =
    subst (λ k. length front ≤ k) (length-take-le n text r.fits) (front_longest P (take n text) (drop n text) front behind (sym (cut text n) ∙ e) each r.stops)

-- two runs are one
pub run_exact : (P : ℕ → Type 0) (text : List ℕ) (n : ℕ) → IsRun P text n → (front behind : List ℕ) → text ≡ front ++ behind → AllByRecursion P front → NotBefore P behind → length front ≡ n
run_exact P text n r front behind e each stops =
    let long : length front ≤ n = run_longest P text n r front behind e each in
    let short : length (take n text) ≤ length front = front_longest P front behind (take n text) (drop n text) (sym e ∙ cut text n) r.each stops in
    omega (arith, length-take-le n text r.fits)

-- the bytes that are digits to the base 16
pub hex_by_range : (b : ℕ) → ((48 ≤ b) × (b ≤ 57)) ⊎ (((65 ≤ b) × (b ≤ 70)) ⊎ ((97 ≤ b) × (b ≤ 102))) → IsHexByte b
hex_by_range b (inl h) = (b - 48, items.digit (omega arith) (omega arith))
hex_by_range b (inr (inl h)) = (b - 55, items.upper (omega arith) (omega arith) (omega arith))
hex_by_range b (inr (inr h)) = (b - 87, items.lower (omega arith) (omega arith) (omega arith))

pub range_of_hex : (b v : ℕ) → IsHexDigit b v → ((48 ≤ b) × (b ≤ 57)) ⊎ (((65 ≤ b) × (b ≤ 70)) ⊎ ((97 ≤ b) × (b ≤ 102)))
range_of_hex b v (items.digit e h) = inl (omega arith, omega arith)
range_of_hex b v (items.upper e h k) = inr (inl (omega arith, omega arith))
range_of_hex b v (items.lower e h k) = inr (inr (omega arith, omega arith))

-- the code's test of such a byte
test_of_hex : (b v : ℕ) → IsHexDigit b v → hex_byte b ≡ true
test_of_hex b v h = elim (range_of_hex b v h) [
  | inl r ↦ grind (arith, nat_tests)
  | inr (inl r) ↦ grind (arith, nat_tests)
  | inr (inr r) ↦ grind (arith, nat_tests)
]

-- what passes a test from the front on, one element more
prefix_more : (P : ℕ → Type 0) (p : ℕ → Bool) → ((b : ℕ) → p b ≡ true → P b) → ((b : ℕ) → P b → p b ≡ true) → (b : ℕ) (text : List ℕ) → IsRun P text (prefix_len p text) → (v : Bool) → p b ≡ v → IsRun P (b ∷ text) (prefix_len p (b ∷ text))
prefix_more P p holds passes b text r true e = rw (e, one-add) (record { fits = (let fits = r.fits in omega arith); each = (holds b e, r.each); stops = r.stops })
prefix_more P p holds passes b text r false e = rw e (record { fits = zero-le; each = tt; stops = λ h. false≢true (sym e ∙ passes b h) })

prefix_run : (P : ℕ → Type 0) (p : ℕ → Bool) → ((b : ℕ) → p b ≡ true → P b) → ((b : ℕ) → P b → p b ≡ true) → (text : List ℕ) → IsRun P text (prefix_len p text)
prefix_run P p holds passes [] = record { fits = zero-le; each = tt; stops = tt }
prefix_run P p holds passes (b ∷ text) = prefix_more P p holds passes b text (prefix_run P p holds passes text) (p b) refl

pub hex_run_is : (text : List ℕ) (n : ℕ) → n ≡ prefix_len hex_byte text → IsRun IsHexByte text n
hex_run_is text n e = rw e (prefix_run IsHexByte hex_byte (λ b h. (hex_digit b, hex_digit_of b h)) (λ b h. test_of_hex b h.0 h.1) text)
