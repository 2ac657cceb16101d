use Rattle.std.proofs.Common.{◌≡◌, ◌++◌, length, string_bytes}
use Rattle.p21_json.specs.Numerals.{with_fraction}
use Rattle.p21_json.specs.Spelled.{text_of}
use Rattle.p21_json.proofs.numerals.push_fraction.Given as goal

abbrev pub invariant-loop-first : goal.invariant-loop-first
invariant-loop-first l = string_bytes l.text ++ text_of (with_fraction l.rest) ≡ string_bytes l.initial.text ++ text_of (with_fraction l.digits)

abbrev pub decreases-loop-first : goal.decreases-loop-first
decreases-loop-first l = length l.rest
