-- A lane whose worker has just begun.
use Rattle.std.specs.Prelude.{◌≡◌, false, []}
use Rattle.p21_lanes.specs.LaneIn.{accepted}
use Rattle.p21_lanes.specs.LaneOut.{taken, took_end}
use Rattle.p21_crew.specs.declared.flight.Flight.{Flight}
use Rattle.p21_crew.specs.Landing.{Works}

-- nothing was sent to the lane and nothing taken from it, and its worker does this work
pub record IsFresh {P O W K : Type 0} (work : W) (f : Flight P O W K) : Type 0 where
  pub sent : accepted f.pieces ≡ []
  pub back : taken f.results ≡ []
  pub begun : took_end f.results ≡ false
  pub works : Works work f
