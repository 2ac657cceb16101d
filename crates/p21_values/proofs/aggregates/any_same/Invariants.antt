use Rattle.std.proofs.Common.{◌≡◌, drop, map}
use Rattle.p21_values.specs.Aggregates.{any_of}
use Rattle.p21_values.specs.Logic.{or_of}
use Rattle.p21_values.specs.Plain.{plain}
use Rattle.p21_values.specs.Same.{same_of}
use Rattle.p21_values.proofs.aggregates.any_same.Given as goal

abbrev pub invariant-loop-other : goal.invariant-loop-other
invariant-loop-other g l =
    g.I.Instances.known l.instances →
    or_of l.any (any_of (same_of (g.I.Instances.same l.instances) (plain l.value)) (map plain (drop l.other-index l.values)))
    ≡ any_of (same_of (g.I.Instances.same l.instances) (plain l.value)) (map plain l.values)
