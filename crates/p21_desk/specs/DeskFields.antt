-- What is true of every desk.
use Rattle.std.specs.Prelude.{◌≡◌, ℕ, ◌<◌, ◌≤◌, ◌==◌, All, List, length, drop, count_by, slice_index}

-- The numbers that are kept for the lanes are those of the pieces that wait, and none is above the capacity.
pub record IsKept (lanes capacity : ℕ) (dealt : List ℕ) (joined : ℕ) (waiting : List ℕ) : Type 0 where
  pub of_lanes : All (λ lane. lane < lanes) dealt
  pub joined_dealt : joined ≤ length dealt
  pub one_each : length waiting ≡ lanes
  pub counted : (lane : ℕ) → lane < lanes → slice_index waiting lane ≡ count_by (λ l. l == lane) (drop joined dealt)
  pub window : (lane : ℕ) → lane < lanes → slice_index waiting lane ≤ capacity
