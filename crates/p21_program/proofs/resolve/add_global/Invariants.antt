use Rattle.std.proofs.Common.{◌≡◌, ◌++◌, map}
use Rattle.std.specs.Prelude.{replicate}
use Rattle.p21_program.proofs.resolve.add_global.Given as goal

abbrev pub invariant-loop-domain_rule : goal.invariant-loop-domain_rule
invariant-loop-domain_rule l = map (λ r. r.span) l.all.rules.items ≡ map (λ r. r.span) l.initial.all.rules.items ++ replicate l.domain_rule-index l.found.span
