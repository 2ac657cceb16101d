-- What a worker owes to the dealer.
use Rattle.std.specs.Prelude.{◌≡◌, true}
use Rattle.std.specs.List.{AllZip}
use Rattle.p21_lanes.specs.declared.lane_in.LaneIn.{LaneIn}
use Rattle.p21_lanes.specs.declared.lane_out.LaneOut.{LaneOut}
use Rattle.p21_lanes.specs.LaneIn.{accepted, was_ended, SameIn}
use Rattle.p21_lanes.specs.LaneOut.{taken, took_end, SameOut}
use Rattle.p21_crew.specs.declared.returned.Returned.{Returned}
use Rattle.p21_crew.specs.declared.returned.Returned.TheVariants.{Value, NoMemory}

module _ {P O : Type 0} where
  -- what is sent back for a piece: a value that is stated of it, or the mark, which claims nothing
  abbrev pub IsReturned : (P → O → Type 0) → P → Returned O → Type 0
  IsReturned stated p (Value o) = stated p o
  IsReturned stated p NoMemory = Unit {0}

  -- A worker that was given the ends `pieces` and `results` hands them back: it took all pieces and their end, and sent back one
  -- result for each piece, in order, and then the end.
  pub record IsDone (stated : P → O → Type 0) (pieces : LaneOut P) (results : LaneIn (Returned O)) (pieces_after : LaneOut P) (results_after : LaneIn (Returned O)) : Type 0 where
    pub same_pieces : SameOut pieces pieces_after
    pub same_results : SameIn results results_after
    pub end_taken : took_end pieces_after ≡ true
    pub end_sent : was_ended results_after ≡ true
    pub returned : AllZip (IsReturned stated) (taken pieces_after) (accepted results_after)
