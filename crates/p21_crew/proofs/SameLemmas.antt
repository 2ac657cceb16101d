-- The ends of a lane are the same ends at three moments.
use Rattle.std.proofs.Common.{◌∙◌}
use Rattle.p21_lanes.specs.declared.lane_in.LaneIn.{LaneIn}
use Rattle.p21_lanes.specs.declared.lane_out.LaneOut.{LaneOut}
use Rattle.p21_lanes.specs.LaneIn.{SameIn}
use Rattle.p21_lanes.specs.LaneOut.{SameOut}

module _ {T : Type 0} where
  pub same_in-then : (a b c : LaneIn T) → SameIn a b → SameIn b c → SameIn a c
  same_in-then a b c f g = ((g.0.0 ∙ f.0.0, g.0.1 ∙ f.0.1, g.0.2 ∙ f.0.2, g.0.3 ∙ f.0.3), g.1 ∙ f.1)

  pub same_out-then : (a b c : LaneOut T) → SameOut a b → SameOut b c → SameOut a c
  same_out-then a b c f g = ((g.0.0 ∙ f.0.0, g.0.1 ∙ f.0.1, g.0.2 ∙ f.0.2, g.0.3 ∙ f.0.3), g.1 ∙ f.1)
