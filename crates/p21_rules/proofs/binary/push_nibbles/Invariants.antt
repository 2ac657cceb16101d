use Rattle.std.proofs.Common.{◌≡◌, ◌++◌, drop}
use Rattle.p21_rules.specs.Bits.{nibbles}
use Rattle.p21_rules.specs.Code.{bytes_code}
use Rattle.p21_rules.proofs.binary.push_nibbles.Given as goal

abbrev pub invariant-loop-digit : goal.invariant-loop-digit
invariant-loop-digit l = l.code.items ++ bytes_code (nibbles (drop l.digit-index l.digits)) ≡ l.initial.code.items ++ bytes_code (nibbles l.digits)
