use Rattle.std.proofs.Common.{◌≡◌}
use Rattle.p21_values.specs.Plain.{bare, plain}
use Rattle.p21_values.proofs.value.Value.bare.Given as goal

abbrev pub invariant-loop-value : goal.invariant-loop-value
invariant-loop-value l = bare (plain l.value) ≡ bare (plain l.self)
