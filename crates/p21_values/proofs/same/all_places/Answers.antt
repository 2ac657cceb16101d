use Rattle.p21_values.proofs.SameLemmas.{places_step}
use Rattle.p21_values.proofs.same.all_places.Goals as goal

pub loop-at-preserved : goal.loop-at-preserved
loop-at-preserved c = places_step c.args.values.now c.loop-at.places.items c.push.new.self.items c.loop-at.at c.in_ok-push.ensures.items c.loop-at-test.true c.loop-at.invariant
