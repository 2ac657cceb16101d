-- Arithmetic.
use Rattle.std.specs.Prelude.{ℕ, ℤ, int_div, unsigned_abs, pos, negsuc, neg_ℤ, ◌+ℤ◌, ◌-ℤ◌, ◌*ℤ◌, ◌%◌, ◌^◌, nat_lt, nat_eq, int_lt, if◌then◌else◌, ◌&&◌, Bool, true, false, Option, Some, None, not}
use Rattle.std.specs.Int.{int_rem_euclid}
use Rattle.std.specs.Float.{Float, binary64, float_is_finite, float_with_sign}
use Rattle.std.specs.Float.Ieee
use Rattle.p21_values.specs.Plain.{Val, nothing, truth, whole, number, text, bits, member, instance, typed, several}
use Rattle.p21_values.specs.Logic.{truth_of}
use Rattle.p21_values.specs.Ends.{Outcome, gives, not_computed}
use Rattle.p21_values.specs.declared.truth.Truth.{Truth}
use Rattle.p21_values.specs.declared.truth.Truth.TheVariants.{Unknown}
use Rattle.p21_values.specs.declared.arithmetic.Arithmetic.{Arithmetic}
use Rattle.p21_values.specs.declared.arithmetic.Arithmetic.TheVariants.{Add, Subtract, Multiply, Divide}
use Rattle.p21_values.specs.declared.arithmetic.Division.{Division}
use Rattle.p21_values.specs.declared.arithmetic.Division.TheVariants.{Quotient, Remainder}

-- whether an integer is in the range of 64 bits
abbrev pub in_range : ℤ → Bool
in_range (pos n) = nat_lt n (2 ^ 63)
in_range (negsuc n) = nat_lt n (2 ^ 63)

-- an integer is a value only if it is in that range
abbrev pub integer_of : ℤ → Outcome Val
integer_of n = if in_range n then gives (whole n) else not_computed

-- a real is a value only if it is finite; else there is `?`
abbrev pub real_of : Float → Val
real_of x = if float_is_finite x then number x else nothing

-- the real that is nearest to an integer
abbrev pub nearest : ℤ → Float
nearest n = Ieee.of_int binary64 n

-- arithmetic of reals
abbrev pub of_reals : Arithmetic → Float → Float → Float
of_reals Add x y = Ieee.add binary64 x y
of_reals Subtract x y = Ieee.sub binary64 x y
of_reals Multiply x y = Ieee.mul binary64 x y
of_reals Divide x y = Ieee.div binary64 x y

-- arithmetic of integers: a quotient is a real
abbrev pub of_integers : Arithmetic → ℤ → ℤ → Outcome Val
of_integers Add a b = integer_of (a +ℤ b)
of_integers Subtract a b = integer_of (a -ℤ b)
of_integers Multiply a b = integer_of (a *ℤ b)
of_integers Divide a b = gives (real_of (Ieee.div binary64 (nearest a) (nearest b)))

-- arithmetic of numbers, and `?` of other values
abbrev pub with_integer : Arithmetic → ℤ → Val → Outcome Val
with_integer op a (whole b) = of_integers op a b
with_integer op a (number y) = gives (real_of (of_reals op (nearest a) y))
with_integer op a _ = gives nothing

abbrev pub with_real : Arithmetic → Float → Val → Outcome Val
with_real op x (whole b) = gives (real_of (of_reals op x (nearest b)))
with_real op x (number y) = gives (real_of (of_reals op x y))
with_real op x _ = gives nothing

abbrev pub arithmetic_of : Arithmetic → Val → Val → Outcome Val
arithmetic_of op (whole a) w = with_integer op a w
arithmetic_of op (number x) w = with_real op x w
arithmetic_of op _ w = gives nothing

-- MOD has the sign of the divisor
abbrev pub modulo : ℤ → ℤ → ℤ
modulo a b = if (int_lt b (pos 0) && not (nat_eq (unsigned_abs (int_rem_euclid a b)) 0)) then (int_rem_euclid a b +ℤ b) else int_rem_euclid a b

-- DIV cuts off toward 0; by 0 there is `?`
abbrev pub divided : Division → ℤ → ℤ → Outcome Val
divided Quotient a b = if nat_eq (unsigned_abs b) 0 then gives nothing else integer_of (int_div a b)
divided Remainder a b = if nat_eq (unsigned_abs b) 0 then gives nothing else gives (whole (modulo a b))

-- DIV and MOD of integers, and `?` of other values
abbrev pub division_of : Division → Val → Val → Outcome Val
division_of op (whole a) (whole b) = divided op a b
division_of op _ _ = gives nothing

-- the number with the other sign
abbrev pub negated_of : Val → Outcome Val
negated_of (whole n) = integer_of (neg_ℤ n)
negated_of (number x) = gives (number (Ieee.neg x))
negated_of _ = gives nothing

-- a number is itself
abbrev pub number_of : Val → Val
number_of (whole n) = whole n
number_of (number x) = number x
number_of _ = nothing

-- ABS
abbrev pub absolute_of : Val → Outcome Val
absolute_of (whole n) = integer_of (pos (unsigned_abs n))
absolute_of (number x) = gives (number (float_with_sign false x))
absolute_of _ = gives nothing

-- SQRT is a real; of a negative number there is `?`
abbrev pub root_of : Val → Val
root_of (whole n) = real_of (Ieee.sqrt binary64 (nearest n))
root_of (number x) = real_of (Ieee.sqrt binary64 x)
root_of _ = nothing

-- ODD
abbrev pub odd_of : Val → Truth
odd_of (whole n) = truth_of (nat_eq (unsigned_abs n % 2) 1)
odd_of _ = Unknown
