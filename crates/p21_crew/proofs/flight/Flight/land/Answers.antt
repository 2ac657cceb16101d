-- A worker that has ended has sent the end of its results, and it was taken.
use Rattle.std.proofs.Common.{inl, inr}
use Rattle.p21_crew.proofs.flight.Flight.land.Goals as goal

pub unreachable-requires-in_default-settle : goal.unreachable-requires-in_default-settle
unreachable-requires-in_default-settle g c =
    let sent = c.join-worked.ensures.end_sent in
    let taken = c.drain-is_clean.ensures.lane.1 in
    elim c.in_default-settle.ensures.refused [ inl e ↦ cc | inr e ↦ cc ]
