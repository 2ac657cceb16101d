-- The two ends of a lane.
use Rattle.rtrb.specs.Ring.{IsPair}
use Rattle.p21_lanes.specs.declared.lane_in.LaneIn.{LaneIn}
use Rattle.p21_lanes.specs.declared.lane_out.LaneOut.{LaneOut}

module _ {T : Type 0} where
  -- the two ends that one call of `lane` made
  abbrev pub IsLane : LaneIn T → LaneOut T → Type 0
  IsLane i o = IsPair i.producer o.consumer
