use Rattle.std.proofs.Common.{◌≡◌, ◌++◌, drop}
use Rattle.p21_rules.specs.Code.{bytes_code}
use Rattle.p21_rules.proofs.code.push_bytes.Given as goal

abbrev pub invariant-loop-byte : goal.invariant-loop-byte
invariant-loop-byte l = l.code.items ++ bytes_code (drop l.byte-index l.bytes) ≡ l.initial.code.items ++ bytes_code l.bytes
