use Rattle.std.proofs.Common.{◌<◌, refl, ap, arith, length}
use Rattle.p21_lanes.specs.History.{items_of, has_end}
use Rattle.p21_crew.proofs.UnderwayLemmas.{underway_same}
use Rattle.p21_crew.proofs.dealer.Dealer.ready.Goals as goal

pub returns-clause-goes : goal.returns-clause-goes
returns-clause-goes g c first work size done outs stands =
    let d = c.args.self.now in
    let lanes = d.lanes in
    let len = d.flights.ok.0 in
    let less : c.args.lane < length d.flights.items = omega (arith, c.requires) in
    (done, outs, underway_same g.C.Cuts.cuts g.A.Gathers.holds first work size d _ done outs c.args.lane c.index_mut.result.now _ stands less c.index_mut.ensures.value refl (ap items_of c.ready-places.ensures.1) (ap has_end c.ready-places.ensures.1) refl refl refl refl refl refl refl)
