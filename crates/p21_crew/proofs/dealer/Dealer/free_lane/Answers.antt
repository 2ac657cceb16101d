use Rattle.std.proofs.Common.{◌∙◌}
use Rattle.p21_crew.proofs.UnderwayLemmas.{goes_then}
use Rattle.p21_crew.proofs.dealer.Dealer.free_lane.Goals as goal

pub loop-lane-preserved : goal.loop-lane-preserved
loop-lane-preserved g c =
    let before = c.loop-lane.invariant in (
      goes_then g.C.Cuts.cuts g.A.Gathers.holds c.args.self.now c.loop-lane.self c.has_little.new.self before.0 c.has_little.ensures.goes,
      c.has_little.ensures.desk ∙ before.1,
    )

pub returns-then-has_room-clause-goes : goal.returns-then-has_room-clause-goes
returns-then-has_room-clause-goes g c =
    goes_then g.C.Cuts.cuts g.A.Gathers.holds c.args.self.now c.loop-lane.self c.has_little.new.self c.loop-lane.invariant.0 c.has_little.ensures.goes
