use Rattle.std.proofs.Common.{◌≡◌, ◌++◌, map, replicate}
use Rattle.p21_values.specs.Plain.{plain, nothing}
use Rattle.p21_evaluate.proofs.evaluation.widen.Given as goal

abbrev pub invariant-loop-n : goal.invariant-loop-n
invariant-loop-n l = map plain l.slots.items ≡ map plain l.fn.slots.items ++ replicate l._n nothing
