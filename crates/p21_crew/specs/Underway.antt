-- What is known between the steps of the dealer.
use Rattle.std.specs.Prelude.{◌≡◌, ℕ, ◌+◌, ◌<◌, ◌≤◌, false, All, List, [], ◌++◌, length, map, Option, Some, None}
use Rattle.p21_lanes.specs.LaneIn.{accepted}
use Rattle.p21_lanes.specs.LaneOut.{taken, took_end}
use Rattle.p21_desk.specs.Dealt.{waiting_at}
use Rattle.p21_desk.specs.Dealing.{share}
use Rattle.p21_crew.specs.Each.{EachAt}
use Rattle.p21_crew.specs.declared.returned.Returned.TheVariants.{Value}
use Rattle.p21_crew.specs.declared.flight.Flight.{Flight}
use Rattle.p21_crew.specs.declared.dealer.Dealer.{Dealer}

module _ {C P : Type 0} where
  -- where the tail was not found, what the cutter gives from now on stands after the pieces that were cut; else these are all
  abbrev pub IsCut : (C → List P → ℕ → Type 0) → C → C → List P → Option ℕ → Type 0
  IsCut cuts first now pieces None = (rest : List P) (tail : ℕ) → cuts now rest tail → cuts first (pieces ++ rest) tail
  IsCut cuts first now pieces (Some tail) = cuts first pieces tail

module _ {P O W K : Type 0} where
  -- A lane was sent its share of the pieces dealt, and its results that were taken are its share of what was gathered.
  pub record LaneStands (work : W) (dealt : List ℕ) (done : List P) (outs : List O) (lane : ℕ) (f : Flight P O W K) : Type 0 where
    pub sent : accepted f.pieces ≡ share dealt lane done
    pub back : taken f.results ≡ map (λ o. Value o) (share dealt lane outs)
    pub begun : took_end f.results ≡ false
    pub works : f.worker.promise.work.value ≡ work

module _ {P O W K C A : Type 0} where
  -- The pieces `done` are dealt to so many lanes, and `outs` is gathered.
  pub record Underway (cuts : C → List P → ℕ → Type 0) (holds : A → List O → Type 0) (first : C) (work : W) (size : ℕ) (d : Dealer P O W C A K) (done : List P) (outs : List O) : Type 0 where
    pub as_many : d.desk.lanes ≡ size
    pub one_each : length d.desk.dealt ≡ length done
    pub of_lanes : All (λ lane. lane < d.desk.lanes) d.desk.dealt
    pub gathered : d.desk.joined ≡ length outs
    pub within : length outs ≤ length done
    pub lanes : EachAt (LaneStands work d.desk.dealt done outs) 0 d.flights.items
    pub holds_outs : holds d.gatherer outs
    pub cut : IsCut cuts first d.cutter (done ++ d.batch.items) d.tail

  -- whatever was dealt and gathered before, more is now
  abbrev pub Goes : (C → List P → ℕ → Type 0) → (A → List O → Type 0) → Dealer P O W C A K → Dealer P O W C A K → Type 0
  Goes cuts holds old new =
      (first : C) (work : W) (size : ℕ) (done : List P) (outs : List O) → Underway cuts holds first work size old done outs
      → (after : List P) × (gathered : List O) × Underway cuts holds first work size new after gathered

  -- all pieces are dealt, all results gathered, and the tail was found there
  abbrev pub IsWhole : Dealer P O W C A K → ℕ → Type 0
  IsWhole d tail = (d.batch.items ≡ []) × (d.desk.joined ≡ length d.desk.dealt) × (d.tail ≡ Some tail)

  -- a lane has room for the pieces that were cut
  abbrev pub HasRoom : Dealer P O W C A K → ℕ → Type 0
  HasRoom d lane = (lane < d.desk.lanes) × (waiting_at d.desk lane + length (d.batch.items) ≤ d.desk.capacity)
