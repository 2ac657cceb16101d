-- The order of texts, from a place on.
use Rattle.std.proofs.Common.{◌≡◌, ℕ, ◌+◌, ◌-◌, ◌<◌, ◌≤◌, List, [], ◌∷◌, length, drop, get_or, refl, ap, sym, ◌∙◌, arith, add-one, drop-cons, suc, min, length-drop, cond}
use Rattle.std.proofs.lemmas.Bool.Decides.{nat_tests}
use Rattle.std.specs.Cmp.Lexicographic.{slice_cmp}
use Rattle.std.specs.Ordering.{nat_cmp, ordering_then}

pub order_step : (xs ys : List ℕ) (i : ℕ) → i < length xs → i < length ys → slice_cmp nat_cmp (drop i xs) (drop i ys) ≡ ordering_then (nat_cmp (get_or xs i 0) (get_or ys i 0)) (slice_cmp nat_cmp (drop (i + 1) xs) (drop (i + 1) ys))
order_step xs ys i h k = rw (drop-cons xs i 0 h, drop-cons ys i 0 k, add-one) refl

pub cmp_shift : (a b n : ℕ) → n ≤ a → n ≤ b → nat_cmp (a - n) (b - n) ≡ nat_cmp a b
cmp_shift a b n h k = grind (arith, nat_tests)

pub order_lengths : (xs ys : List ℕ) (n : ℕ) → n ≡ 0 → min (length xs) (length ys) ≡ n → slice_cmp nat_cmp xs ys ≡ nat_cmp (length xs) (length ys)
order_lengths [] [] n z h = refl
order_lengths [] (y ∷ ys) n z h = grind (arith, nat_tests)
order_lengths (x ∷ xs) [] n z h = grind (arith, nat_tests)
order_lengths (x ∷ xs) (y ∷ ys) n z h = absurd (omega arith)

pub order_end : (xs ys : List ℕ) (n : ℕ) → n ≡ min (length xs) (length ys) → slice_cmp nat_cmp (drop n xs) (drop n ys) ≡ nat_cmp (length xs) (length ys)
order_end xs ys n h =
    let e = order_lengths (drop n xs) (drop n ys) 0 refl (simp (length-drop {A = ℕ}) (omega arith)) in
    e ∙ simp (length-drop {A = ℕ}) (cmp_shift (length xs) (length ys) n (omega arith) (omega arith))
