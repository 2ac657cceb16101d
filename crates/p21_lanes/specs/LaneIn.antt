-- What a contract sees of the end of a lane that offers items.
use Rattle.std.specs.Prelude.{◌≡◌, ℕ, Bool, List, length}
use Rattle.rtrb.specs.Ring.{sent as pushed, producer_capacity, SameProducer}
use Rattle.p21_lanes.specs.declared.lane_in.LaneIn.{LaneIn}
use Rattle.p21_lanes.specs.History.{Message, messages_in, items_of, has_end}

module _ {T : Type 0} where
  -- the messages that were sent, oldest first
  abbrev pub sent : LaneIn T → List (Message T)
  sent i = messages_in (pushed i.producer)

  -- the items that were accepted, oldest first
  abbrev pub accepted : LaneIn T → List T
  accepted i = items_of (sent i)

  -- whether the end was sent
  abbrev pub was_ended : LaneIn T → Bool
  was_ended i = has_end (sent i)

  -- how many messages were accepted since the lane was made: the items, and the end if it was sent
  abbrev pub message_count : LaneIn T → ℕ
  message_count i = length (sent i)

  -- how many places the lane has
  abbrev pub lane_capacity : LaneIn T → ℕ
  lane_capacity i = producer_capacity i.producer

  -- the same end of the same lane, at two moments
  abbrev pub SameIn : LaneIn T → LaneIn T → Type 0
  SameIn old new = SameProducer old.producer new.producer

  -- nothing that a contract sees of the end has changed
  abbrev pub IsUnchangedIn : LaneIn T → LaneIn T → Type 0
  IsUnchangedIn old new = SameIn old new × (sent new ≡ sent old)
