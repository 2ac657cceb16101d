use Rattle.std.proofs.Common.{◌≡◌, ◌++◌, drop, string_bytes}
use Rattle.p21_json.specs.Spelled.{text_of}
use Rattle.p21_json.proofs.characters.push_bytes.Given as goal

abbrev pub invariant-loop-byte : goal.invariant-loop-byte
invariant-loop-byte l = string_bytes l.text ++ text_of (drop l.byte-index l.bytes) ≡ string_bytes l.initial.text ++ text_of l.bytes
