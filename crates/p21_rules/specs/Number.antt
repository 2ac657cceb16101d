-- The decimal value of a number, however it is spelled.
use Rattle.std.specs.Prelude.{ℕ, ◌+◌, ◌-◌, ◌^◌, ◌<◌, ◌||◌, ◌==◌, if◌then◌else◌, Bool, false, List, [], ◌∷◌, ◌++◌, length}
use Rattle.p21_text.specs.Spelling.{decimal_from}
use Rattle.p21_rules.specs.Value.{Value, number}

-- the bytes before the first of this kind, or all
abbrev pub before_first : ℕ → List ℕ → List ℕ
before_first c [] = []
before_first c (b ∷ bs) = if b == c then [] else b ∷ before_first c bs

-- those after it, or none
abbrev pub behind_first : ℕ → List ℕ → List ℕ
behind_first c [] = []
behind_first c (b ∷ bs) = if b == c then bs else behind_first c bs

-- the first byte is `-`
abbrev pub is_negative : List ℕ → Bool
is_negative [] = false
is_negative (b ∷ bs) = b == 45

-- without a sign in front
abbrev pub unsigned : List ℕ → List ℕ
unsigned [] = []
unsigned (b ∷ bs) = if b == 43 || b == 45 then bs else b ∷ bs

-- digits from the first that is not 0 on
abbrev pub behind_zeros : List ℕ → List ℕ
behind_zeros [] = []
behind_zeros (b ∷ bs) = if b == 48 then behind_zeros bs else b ∷ bs

-- a digit in front of others; in front of none a 0 is left out
abbrev pub in_front : ℕ → List ℕ → List ℕ
in_front b [] = if b == 48 then [] else b ∷ []
in_front b (c ∷ cs) = b ∷ c ∷ cs

-- digits up to the last that is not 0
abbrev pub before_zeros : List ℕ → List ℕ
before_zeros [] = []
before_zeros (b ∷ bs) = in_front b (before_zeros bs)

-- how many zeros stand after that
abbrev pub zeros_behind : List ℕ → ℕ
zeros_behind ds = length ds - length (before_zeros ds)

-- digits, after `-` in a negative number
abbrev pub signed : Bool → List ℕ → List ℕ
signed minus ds = if minus then 45 ∷ ds else ds

-- a number by its digits and the power of ten of the last one; zero has neither a sign nor a power
abbrev pub scaled : Bool → List ℕ → ℕ → ℕ → Value
scaled minus [] up down = number [] 0 0
scaled minus (d ∷ ds) up down = number (signed minus (d ∷ ds)) (up - down) (down - up)

-- The number of these digits before the point and those after it, times a power of ten. Zeros in front and after say nothing of its value but the power
-- of ten of the last digit that is not 0.
abbrev pub decimal : Bool → List ℕ → List ℕ → ℕ → ℕ → Value
decimal minus whole fraction up down = scaled minus (behind_zeros (before_zeros (whole ++ fraction))) (up + zeros_behind (whole ++ fraction)) (down + length fraction)

-- an integer: all its digits stand before the point
abbrev pub integer_of : List ℕ → Value
integer_of s = decimal (is_negative s) (unsigned s) [] 0 0

-- the value of an exponent without its sign
abbrev pub size_of : List ℕ → ℕ
size_of e = decimal_from 0 (unsigned e)

-- the power of ten that it is, where it is not negative
abbrev pub up_of : List ℕ → ℕ
up_of e = if is_negative e then 0 else size_of e

-- how far below 0 it is, where it is negative
abbrev pub down_of : List ℕ → ℕ
down_of e = if is_negative e then size_of e else 0

-- a real's sign and digits before the point
abbrev pub whole_of : List ℕ → List ℕ
whole_of s = before_first 46 (before_first 69 s)

-- its digits between the point and the `E`
abbrev pub fraction_of : List ℕ → List ℕ
fraction_of s = behind_first 46 (before_first 69 s)

-- what stands after the `E`
abbrev pub exponent_of : List ℕ → List ℕ
exponent_of s = behind_first 69 s

-- a real: its digits before the point and after it, times the power of ten after the `E`
abbrev pub real_of : List ℕ → Value
real_of s = decimal (is_negative (whole_of s)) (unsigned (whole_of s)) (fraction_of s) (up_of (exponent_of s)) (down_of (exponent_of s))

-- its exponent is below 10^17 and above -10^17
abbrev pub IsNear : List ℕ → Type 0
IsNear s = size_of (exponent_of s) < 10 ^ 17
