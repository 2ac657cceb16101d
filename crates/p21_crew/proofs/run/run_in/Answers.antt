use Rattle.std.proofs.Common.{◌≡◌, [], length, refl, sym, ap, ◌∙◌}
use Rattle.p21_crew.proofs.RunLemmas.{underway_first, run_whole}
use Rattle.p21_crew.proofs.run.run_in.Goals as goal

pub returns : goal.returns
returns g c =
    let cuts = g.C.Cuts.cuts in
    let holds = g.A.Gathers.holds in
    let work = c.args.work.now in
    let d = c.run-dealt.new.self in
    let first = underway_first cuts holds work c.args.lanes _ c.in_ok-flights.ensures.fresh (ap (λ s. s.lanes) c.in_ok-desk.ensures) (ap (λ s. s.dealt) c.in_ok-desk.ensures) (ap (λ s. s.joined) c.in_ok-desk.ensures) c.in_ok-batch.ensures.items refl c.requires in
    let last = c.in_ok-tail.ensures.goes c.args.cutter work c.args.lanes [] [] first in
    let count : length d.flights.items ≡ d.desk.lanes = sym d.flights.ok.0 ∙ d.lanes in
    let whole = run_whole cuts holds g.W.Work.stated c.args.cutter work c.args.lanes d last.0 last.1 c.in_ok-tail.tail c.in_ok-landed.landed.receipts.items c.in_ok-landed.landed.returned.items last.2 c.in_ok-tail.ensures.whole c.in_ok-landed.ensures count in
    (last.0, last.1, whole.0, rw c.into_dealt.ensures.dealt whole.1, last.2.holds_outs)
