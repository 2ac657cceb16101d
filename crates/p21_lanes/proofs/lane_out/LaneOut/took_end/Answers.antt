-- The end is in no list of items that is kept.
use Rattle.std.proofs.Common.{◌∙◌}
use Rattle.p21_lanes.proofs.ParcelLemmas.{received_end}
use Rattle.p21_lanes.proofs.lane_out.LaneOut.took_end.Goals as goal

pub returns : goal.returns
returns g c = let self = c.args.self.now in self.end_taken ∙ received_end _ _ self.kept
