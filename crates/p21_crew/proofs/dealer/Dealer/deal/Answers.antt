use Rattle.std.proofs.Common.{◌<◌, ◌++◌, replicate, refl, ap, ◌∙◌, arith, length}
use Rattle.p21_lanes.specs.LaneIn.{accepted}
use Rattle.p21_crew.proofs.UnderwayLemmas.{underway_dealt}
use Rattle.p21_crew.proofs.dealer.Dealer.deal.Goals as goal

pub returns : goal.returns
returns g c first work size done outs stands =
    let d = c.free_lane.new.self in
    let lanes = d.lanes in
    let len = d.flights.ok.0 in
    let before = c.in-Some.ensures.goes first work size done outs stands in
    let less : c.in-Some.lane < length d.flights.items = omega (arith, c.in-Some.ensures.lane) in
    (before.0 ++ d.batch.items, before.1, underway_dealt g.C.Cuts.cuts g.A.Gathers.holds first work size d _ before.0 before.1 c.in-Some.lane c.index_mut-flight.result.now _ before.2 c.in-Some.ensures.lane.0 less c.index_mut-flight.ensures.value (c.send_together.ensures.accepted ∙ ap (λ b. accepted c.index_mut-flight.result.now.pieces ++ b.items) c.replace-batch.ensures.value) refl refl (c.in_ok-deal_pieces.ensures.dealt ∙ ap (λ n. record d.desk { dealt = d.desk.dealt ++ replicate n c.in-Some.lane }) (c.len.ensures ∙ d.batch.ok.0)) refl refl (ap (λ b. b.items) c.replace-batch.ensures.after ∙ c.in_ok-next.ensures.items) refl refl)
