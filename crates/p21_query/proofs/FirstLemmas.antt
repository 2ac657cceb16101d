-- The first element that is as wanted, looked for from a place on.
use Rattle.std.proofs.Common.{◌≡◌, ◌+◌, ◌<◌, ◌≤◌, ℕ, List, None, Some, length, slice_get, sym, subst, ◌∙◌, ◌⊎◌, inl, inr, arith}
use Rattle.std.proofs.lemmas.Bool.{cases_lt}
use Rattle.std.proofs.lemmas.Option.{slice_get_within, get_or_from_slice_get}
use Rattle.p21_query.specs.First.{IsFirst}

-- of all before a place Q holds
abbrev pub Passed : {X : Type 0} → (X → Type 0) → List X → ℕ → ℕ → Type 0
Passed {X} Q xs from to = (i : ℕ) (x : X) → from ≤ i → i < to → slice_get xs i ≡ Some x → Q x

-- of all where the list ends there
pub passed_all : {X : Type 0} (P Q : X → Type 0) (xs : List X) (from to : ℕ) → length xs ≤ to → Passed Q xs from to → IsFirst P Q xs from None
passed_all P Q xs from to end passed = λ i x low here. passed i x low (let within = slice_get_within xs i x here in omega arith) here

pub found_first : {X : Type 0} (P Q : X → Type 0) (xs : List X) (from n : ℕ) (x : X) → from ≤ n → slice_get xs n ≡ Some x → P x → Passed Q xs from n → IsFirst P Q xs from (Some n)
found_first P Q xs from n x low here p passed = ((low, (x, (here, p))), passed)

same_element : {X : Type 0} (xs : List X) (n : ℕ) (x y : X) → slice_get xs n ≡ Some x → slice_get xs n ≡ Some y → x ≡ y
same_element xs n x y a b = sym (get_or_from_slice_get xs n x x a) ∙ get_or_from_slice_get xs n y x b

-- and of the one there
pub passed_further : {X : Type 0} (Q : X → Type 0) (xs : List X) (from n : ℕ) (x : X) → slice_get xs n ≡ Some x → Q x → Passed Q xs from n → Passed Q xs from (n + 1)
passed_further {X} Q xs from n x here q passed = λ i y low high there. at i y low high there (cases_lt i n)
  where
    at : (i : ℕ) (y : X) → from ≤ i → i < n + 1 → slice_get xs i ≡ Some y → (i < n) ⊎ (n ≤ i) → Q y
    at i y low high there (inl less) = passed i y low less there
    at i y low high there (inr more) = let same : i ≡ n = omega arith in subst Q (same_element xs n x y here (subst (λ (k : ℕ). slice_get xs k ≡ Some y) same there)) q
