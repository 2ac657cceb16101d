use Rattle.std.proofs.Common.{arith, map}
use Rattle.p21_values.specs.Plain.{plain}
use Rattle.p21_values.proofs.SameLemmas.{below_at}
use Rattle.p21_values.proofs.SetLemmas.{gathered_next}
use Rattle.p21_values.proofs.sets.gathered.Goals as goal

pub bounds-values-place : goal.bounds-values-place
bounds-values-place c = below_at _ _ _ c.requires c.loop-place-test.true

pub offset_bounds-values-place : goal.offset_bounds-values-place
offset_bounds-values-place c = let h = below_at _ _ _ c.requires c.loop-place-test.true in omega (arith, h)

pub loop-place-preserved : goal.loop-place-preserved
loop-place-preserved c =
    gathered_next c.args.values.now c.args.places.now c.loop-place.place-index c.index-values-place.result (map plain c.loop-place.found.items) (map plain c.push_shared.new.found.items) c.loop-place-test.true c.requires c.index-values-place.is c.in_ok-push_shared.ensures c.loop-place.invariant
