-- Integers as reals.
use Rattle.std.proofs.Common.{◌≡◌, ℕ, zero, suc, ◌+◌, ◌*◌, ◌<◌, ◌≤◌, ◌^◌, refl, ap, sym, ◌∙◌, subst, arith, Bool, true, false, ℤ, pos, negsuc, Option, Some, None, cond}
use mathlib.Core.Bool.{◌&&◌, ◌||◌, beq, not}
use lib.Dec.{T, ltb, eqb, ltb→lt, lt→ltb, eqb→eq, leb, le→leb}
use lib.Ieee.{Float, nan, inf, fin, lt, eq, up, down, below, level, binary64, of_int, prec}
use lib.Ieee.Fits.{down_pos, eq→eqb}
use Rattle.std.proofs.Math.Nat.{lt_of_mul-lt-mul_right, mul-lt-mul_of_pos_right, eq_of_mul-eq-mul_right}
use Rattle.std.proofs.lemmas.Int.{ints}
use Rattle.std.proofs.Common.{◌≤ℤ◌}
use lib.Ieee.Exact.{HasValue}
use lib.Ieee.Back.{round_whole}
use Rattle.std.specs.Ordering.{float_partial_cmp}
use Rattle.std.specs.declared.cmp.Ordering.TheVariants.{Less, Equal, Greater}
use Rattle.p21_values.specs.Numbers.{exact}

same_test : (b c : Bool) → (T b → T c) → (T c → T b) → b ≡ c
same_test true true f g = refl
same_test true false f g = absurd (f tt)
same_test false true f g = absurd (g tt)
same_test false false f g = refl

ltb_scale : (a b d : ℕ) → 0 < d → ltb (a * d) (b * d) ≡ ltb a b
ltb_scale a b d h =
    same_test (ltb (a * d) (b * d)) (ltb a b)
    (λ t. lt→ltb a b (lt_of_mul-lt-mul_right d (ltb→lt (a * d) (b * d) t)))
    (λ t. lt→ltb (a * d) (b * d) (mul-lt-mul_of_pos_right (ltb→lt a b t) h))

zero_scale : (d : ℕ) → 0 ≡ 0 * d
zero_scale d = omega arith

sum_scale : (a b d : ℕ) → a * d + b * d ≡ (a + b) * d
sum_scale a b d = omega arith

eqb_scale : (a b d : ℕ) → 0 < d → eqb (a * d) (b * d) ≡ eqb a b
eqb_scale a b d h =
    same_test (eqb (a * d) (b * d)) (eqb a b)
    (λ t. eq→eqb (eq_of_mul-eq-mul_right d h a b (eqb→eq (a * d) (b * d) t)))
    (λ t. eq→eqb (ap (λ x. x * d) (eqb→eq a b t)))

below_scale : (s t : Bool) (a b d : ℕ) → 0 < d → below s (a * d) t (b * d) ≡ below s a t b
below_scale false false a b d h = ltb_scale a b d h
below_scale false true a b d h = refl
below_scale true false a b d h = ap (ltb 0) (sum_scale a b d) ∙ ap (λ x. ltb x ((a + b) * d)) (zero_scale d) ∙ ltb_scale 0 (a + b) d h
below_scale true true a b d h = ltb_scale b a d h

level_scale : (s t : Bool) (a b d : ℕ) → 0 < d → level s (a * d) t (b * d) ≡ level s a t b
level_scale s t a b d h = ap (λ x. x && (beq s t || eqb (a * d) 0)) (eqb_scale a b d h) ∙ ap (λ x. eqb a b && (beq s t || eqb (a * d) x)) (zero_scale d) ∙ ap (λ x. eqb a b && (beq s t || x)) (eqb_scale a 0 d h)

left_is : (x m n d k : ℕ) → x * 1 ≡ n * d → x * k ≡ n * 1 * k * d
left_is x m n d k h =
    let q : x ≡ n * d = omega arith in
    let p = ap (λ y. y * k) q in
    omega (arith, p)

right_is : (x d : ℕ) → x * d ≡ x * 1 * d
right_is x d = omega arith

lt_as : (s : Bool) (n : ℕ) (x y : Float) → HasValue x s n 1 → lt x y ≡ lt (fin s n (pos 0)) y
unfolding lt
lt_as s n nan y h = absurd h
lt_as s n (inf u) y h = absurd h
lt_as s n (fin u m e) nan h = refl
lt_as s n (fin u m e) (inf t) h = refl
lt_as s n (fin u m e) (fin t k d) h =
    ap (λ v. below v (m * up e * down d) t (k * up d * down e)) h.0
    ∙ ap (λ v. below s v t (k * up d * down e)) (left_is (m * up e) m n (down e) (down d) h.1)
    ∙ ap (λ v. below s (n * 1 * down d * down e) t v) (right_is (k * up d) (down e))
    ∙ below_scale s t (n * 1 * down d) (k * up d * 1) (down e) (down_pos e)

gt_as : (s : Bool) (n : ℕ) (x y : Float) → HasValue x s n 1 → lt y x ≡ lt y (fin s n (pos 0))
unfolding lt
gt_as s n nan y h = absurd h
gt_as s n (inf u) y h = absurd h
gt_as s n (fin u m e) nan h = refl
gt_as s n (fin u m e) (inf t) h = refl
gt_as s n (fin u m e) (fin t k d) h =
    ap (λ v. below t (k * up d * down e) v (m * up e * down d)) h.0
    ∙ ap (λ v. below t (k * up d * down e) s v) (left_is (m * up e) m n (down e) (down d) h.1)
    ∙ ap (λ v. below t v s (n * 1 * down d * down e)) (right_is (k * up d) (down e))
    ∙ below_scale t s (k * up d * 1) (n * 1 * down d) (down e) (down_pos e)

eq_as : (s : Bool) (n : ℕ) (x y : Float) → HasValue x s n 1 → eq x y ≡ eq (fin s n (pos 0)) y
unfolding eq
eq_as s n nan y h = absurd h
eq_as s n (inf u) y h = absurd h
eq_as s n (fin u m e) nan h = refl
eq_as s n (fin u m e) (inf t) h = refl
eq_as s n (fin u m e) (fin t k d) h =
    ap (λ v. level v (m * up e * down d) t (k * up d * down e)) h.0
    ∙ ap (λ v. level s v t (k * up d * down e)) (left_is (m * up e) m n (down e) (down d) h.1)
    ∙ ap (λ v. level s (n * 1 * down d * down e) t v) (right_is (k * up d) (down e))
    ∙ level_scale s t (n * 1 * down d) (k * up d * 1) (down e) (down_pos e)

order_as : (s : Bool) (n : ℕ) (x y : Float) → HasValue x s n 1 → float_partial_cmp x y ≡ float_partial_cmp (fin s n (pos 0)) y
order_as s n x y h =
    ap (λ b. cond b (Some Less) (cond (eq x y) (Some Equal) (cond (lt y x) (Some Greater) None))) (lt_as s n x y h)
    ∙ ap (λ b. cond (lt (fin s n (pos 0)) y) (Some Less) (cond b (Some Equal) (cond (lt y x) (Some Greater) None))) (eq_as s n x y h)
    ∙ ap (λ b. cond (lt (fin s n (pos 0)) y) (Some Less) (cond (eq (fin s n (pos 0)) y) (Some Equal) (cond b (Some Greater) None))) (gt_as s n x y h)

-- an integer of at most 53 bits is a real of the same order
pub order_exact : (a : ℤ) (y : Float) → negsuc 9007199254740991 ≤ℤ a → a ≤ℤ pos 9007199254740992 → float_partial_cmp (of_int binary64 a) y ≡ float_partial_cmp (exact a) y
unfolding of_int
order_exact (pos n) y h k = order_as false n (of_int binary64 (pos n)) y (round_whole binary64 false n (omega (arith, ints, k)))
order_exact (negsuc n) y h k = order_as true (suc n) (of_int binary64 (negsuc n)) y (round_whole binary64 true (suc n) (omega (arith, ints, h)))

pub equal_exact : (a : ℤ) (y : Float) → negsuc 9007199254740991 ≤ℤ a → a ≤ℤ pos 9007199254740992 → eq (of_int binary64 a) y ≡ eq (exact a) y
unfolding of_int
equal_exact (pos n) y h k = eq_as false n (of_int binary64 (pos n)) y (round_whole binary64 false n (omega (arith, ints, k)))
equal_exact (negsuc n) y h k = eq_as true (suc n) (of_int binary64 (negsuc n)) y (round_whole binary64 true (suc n) (omega (arith, ints, h)))
