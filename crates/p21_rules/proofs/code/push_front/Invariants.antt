use Rattle.std.proofs.Common.{◌≡◌, ◌++◌, List, ℕ, drop}
use Rattle.p21_rules.specs.Code.{bytes_code}
use Rattle.p21_rules.proofs.code.push_front.Given as goal

-- with the bytes that are left, those that follow all of them follow
abbrev pub invariant-loop-byte : goal.invariant-loop-byte
invariant-loop-byte l = (rest : List ℕ) → l.code.items ++ bytes_code (drop l.byte-index l.bytes ++ rest) ≡ l.initial.code.items ++ bytes_code (l.bytes ++ rest)
