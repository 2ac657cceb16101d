use Rattle.std.proofs.Common.{◌≡◌, ◌++◌, List, ℕ, drop}
use Rattle.p21_rules.specs.Bits.{nibble}
use Rattle.p21_rules.specs.Code.{bytes_code}
use Rattle.p21_rules.proofs.binary.push_nibble.Given as goal

-- with the bits that are left, those that follow all of them follow
abbrev pub invariant-loop-place : goal.invariant-loop-place
invariant-loop-place l = (rest : List ℕ) → l.code.items ++ bytes_code (drop l.place (nibble l.value) ++ rest) ≡ l.initial.code.items ++ bytes_code (drop l.from (nibble l.value) ++ rest)
