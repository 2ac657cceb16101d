use Rattle.std.proofs.Common.{[], ◌∷◌, ◌++◌, sym, ap, subst, ◌∙◌, append_assoc}
use Rattle.std.specs.Vec.Iter.{into_iter_items, into_iter_len}
use Rattle.p21_crew.specs.Landing.{AreLanded}
use Rattle.p21_crew.proofs.LandingLemmas.{none_left, landed_more}
use Rattle.p21_crew.proofs.landing.land_all.Goals as goal

pub loop-flight-preserved : goal.loop-flight-preserved
loop-flight-preserved g c =
    let before = c.loop-flight.invariant in (
      before.0 ++ c.in-Some.flight ∷ [],
      append_assoc before.0 (c.in-Some.flight ∷ []) (into_iter_items c.next.new.self) ∙ (ap (λ left. before.0 ++ left) (sym c.in-Some.ensures.cases.0) ∙ before.1),
      λ whole.
          let landed = before.2 (c.keep-is_whole.ensures.whole whole) in
          rw (c.keep-is_whole.ensures.receipts whole, c.keep-is_whole.ensures.returned whole) (landed_more g.W.Work.stated before.0 c.loop-flight.all.receipts.items c.loop-flight.all.returned.items c.in-Some.flight c.land-landed.result.receipt c.land-landed.result.returned landed c.land-landed.ensures.receipt (c.land-landed.ensures.returned (c.keep-is_whole.ensures.clean whole)) c.land-landed.ensures.read),
    )

pub returns-then-is_whole : goal.returns-then-is_whole
returns-then-is_whole g c =
    let before = c.loop-flight.invariant in
    let left = c.loop-flight.left in
    let all = none_left before.0 (into_iter_items left) c.args.flights.items (into_iter_len left) left.rest.ok.0 c.in_default.ensures.cases.0 before.1 in
    subst (λ flights. AreLanded g.W.Work.stated flights c.loop-flight.all.receipts.items c.loop-flight.all.returned.items) all (before.2 c.if-is_whole.true)
