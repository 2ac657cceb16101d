-- Numbers.
use Rattle.std.specs.Prelude.{ℕ, suc, ℤ, pos, negsuc, true, false}
use Rattle.std.specs.Float.{Float}
use Rattle.std.specs.Float.Ieee

-- an integer as a real number, without rounding
abbrev pub exact : ℤ → Float
exact (pos n) = Ieee.fin false n (pos 0)
exact (negsuc n) = Ieee.fin true (suc n) (pos 0)
