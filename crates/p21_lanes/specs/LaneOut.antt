-- What a contract sees of the end of a lane that takes items.
use Rattle.std.specs.Prelude.{◌≡◌, Bool, true, false, List, [], ◌∷◌, ◌++◌, if◌then◌else◌}
use Rattle.rtrb.specs.Ring.{received as popped, SameConsumer}
use Rattle.std.specs.Vec.Iter.{into_iter_items}
use Rattle.p21_lanes.specs.declared.lane_out.LaneOut.{LaneOut}
use Rattle.p21_lanes.specs.declared.lane_out.Taken.{Taken}
use Rattle.p21_lanes.specs.declared.lane_out.Taken.TheVariants.{Item as TakenItem, Ended, Nothing}
use Rattle.p21_lanes.specs.History.{Message, Item, End, messages_in, without_last, items_of, has_end}

module _ {T : Type 0} where
  -- The messages that were received, oldest first: of items that left the ring together those that are kept to be taken next do not
  -- count yet.
  abbrev pub received : LaneOut T → List (Message T)
  received o = without_last (messages_in (popped o.consumer)) (into_iter_items o.together)

  -- the items that were taken, oldest first
  abbrev pub taken : LaneOut T → List T
  taken o = items_of (received o)

  -- whether the end was taken
  abbrev pub took_end : LaneOut T → Bool
  took_end o = has_end (received o)

  -- the same end of the same lane, at two moments
  abbrev pub SameOut : LaneOut T → LaneOut T → Type 0
  SameOut old new = SameConsumer old.consumer new.consumer

  -- nothing that a contract sees of the end has changed
  abbrev pub IsUnchangedOut : LaneOut T → LaneOut T → Type 0
  IsUnchangedOut old new = SameOut old new × (received new ≡ received old)

  -- an item, or the first Ended, adds its message at the back of what was received; Ended again and Nothing add nothing
  abbrev pub Took : Taken T → LaneOut T → LaneOut T → Type 0
  Took (TakenItem x) old new =
      (received new ≡ received old ++ Item x ∷ []) × (taken new ≡ taken old ++ x ∷ [])
      × (took_end old ≡ false) × (took_end new ≡ false)
  Took Ended old new =
      (received new ≡ (if took_end old then received old else (received old ++ End ∷ [])))
      × (taken new ≡ taken old) × (took_end new ≡ true)
  Took Nothing old new = (received new ≡ received old) × (took_end old ≡ false)
