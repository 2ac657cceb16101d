-- What a contract sees of a receipt.
use Rattle.std.specs.Prelude.{◌≡◌, true, List}
use Rattle.p21_lanes.specs.declared.receipt.Receipt.{Receipt}
use Rattle.p21_lanes.specs.History.{messages}
use Rattle.p21_lanes.specs.LaneIn.{sent, accepted}
use Rattle.p21_lanes.specs.LaneOut.{received}

module _ {T : Type 0} where
  -- the items that went through the lane, in order
  abbrev pub passed : Receipt T → List T
  passed r = accepted r.lane_in

  -- the items that went through the lane were sent and received, in order, and then the end, and nothing after it
  abbrev pub IsEnded : Receipt T → Type 0
  IsEnded r = (sent r.lane_in ≡ messages (passed r) true) × (received r.lane_out ≡ messages (passed r) true)
