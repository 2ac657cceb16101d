-- What a worker gave of results.
use Rattle.std.specs.Prelude.{List, ◌++◌}
use Rattle.p21_lanes.specs.LaneIn.{accepted}
use Rattle.p21_crew.specs.declared.outbox.Outbox.{Outbox}
use Rattle.p21_crew.specs.declared.returned.Returned.{Returned}

-- the results that were sent, and after them those that are sent next
abbrev pub results_of : {O : Type 0} → Outbox O → List (Returned O)
results_of o = accepted o.lane ++ o.unsent.items
