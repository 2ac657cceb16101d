use Rattle.std.proofs.Common.{◌<◌, ◌++◌, [], ◌∷◌, refl, ap, ◌∙◌, arith, length}
use Rattle.p21_lanes.specs.LaneOut.{taken}
use Rattle.p21_lanes.specs.History.{items_of, has_end}
use Rattle.p21_crew.proofs.UnderwayLemmas.{underway_same, underway_gathered}
use Rattle.p21_crew.proofs.dealer.Dealer.gather_next.Goals as goal

pub returns-in_ok-gather-in-Item-Value : goal.returns-in_ok-gather-in-Item-Value
returns-in_ok-gather-in-Item-Value g c first work size done outs stands =
    let d = c.args.self.now in
    let lanes = d.lanes in
    let len = d.flights.ok.0 in
    let less : c.in-Some.lane < length d.flights.items = omega (arith, c.in-Some.ensures.lane) in
    (done, outs ++ c.in-Item-Value.out ∷ [], underway_gathered g.C.Cuts.cuts g.A.Gathers.holds first work size d _ done outs c.in-Item-Value.out c.in-Some.lane c.index_mut.result.now _ stands (c.in-Some.ensures.some.0 refl) c.in-Some.ensures.next less c.index_mut.ensures.value refl (c.in-Item-Value.ensures.took.1 ∙ ap (λ o. taken c.index_mut.result.now.results ++ o ∷ []) c.in-Item-Value.field-0-is) c.in-Item-Value.ensures.took.3 refl c.joined.ensures refl refl refl refl (c.in_ok-gather-in-Item-Value.ensures outs stands.holds_outs))

pub returns-in-Nothing : goal.returns-in-Nothing
returns-in-Nothing g c first work size done outs stands =
    let d = c.args.self.now in
    let lanes = d.lanes in
    let len = d.flights.ok.0 in
    let less : c.in-Some.lane < length d.flights.items = omega (arith, c.in-Some.ensures.lane) in
    (done, outs, underway_same g.C.Cuts.cuts g.A.Gathers.holds first work size d _ done outs c.in-Some.lane c.index_mut.result.now _ stands less c.index_mut.ensures.value refl (ap items_of c.in-Nothing.ensures.took.0) (ap has_end c.in-Nothing.ensures.took.0) refl refl refl refl refl refl refl)
