-- What a contract sees of the desk: which lane each piece went to, and how many pieces were joined.
use Rattle.std.specs.Prelude.{ℕ, ◌==◌, List, drop, count_by}

-- The pieces are numbered from 0 in the order in which they were dealt, and are joined in this order.
pub record Dealt : Type 0 where
  -- how many lanes there are
  pub lanes : ℕ
  -- how many pieces may wait on one lane
  pub capacity : ℕ
  -- the lane of each piece that was dealt
  pub dealt : List ℕ
  -- how many of these pieces were joined
  pub joined : ℕ

-- how many pieces wait on a lane: dealt to it, and not yet joined
abbrev pub waiting_at : Dealt → ℕ → ℕ
waiting_at d lane = count_by (λ l. l == lane) (drop d.joined d.dealt)
