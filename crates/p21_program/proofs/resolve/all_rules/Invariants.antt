use Rattle.std.proofs.Common.{◌≡◌, map, take}
use Rattle.p21_program.specs.Spans.{all_spans}
use Rattle.p21_program.proofs.resolve.all_rules.Given as goal

abbrev pub invariant-loop-one : goal.invariant-loop-one
invariant-loop-one l = map (λ r. r.span) l.resolved.rules.items ≡ all_spans (take l.one-index l.found)
