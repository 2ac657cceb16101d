use Rattle.p21_crew.proofs.UnderwayLemmas.{goes_then}
use Rattle.p21_crew.proofs.dealer.Dealer.run.Goals as goal

pub returns-in-Some-whole-clause-goes : goal.returns-in-Some-whole-clause-goes
returns-in-Some-whole-clause-goes g c =
    let cuts = g.C.Cuts.cuts in
    let holds = g.A.Gathers.holds in
    let gathers = goes_then cuts holds c.args.self.now c.loop.self c.gather.new.self c.loop.invariant c.in_ok-gathered.ensures in
    goes_then cuts holds c.args.self.now c.gather.new.self c.cut.new.self gathers c.in_ok-cut.ensures

pub loop-preserved : goal.loop-preserved
loop-preserved g c =
    let cuts = g.C.Cuts.cuts in
    let holds = g.A.Gathers.holds in
    let gathers = goes_then cuts holds c.args.self.now c.loop.self c.gather.new.self c.loop.invariant c.in_ok-gathered.ensures in
    let cut = goes_then cuts holds c.args.self.now c.gather.new.self c.cut.new.self gathers c.in_ok-cut.ensures in
    goes_then cuts holds c.args.self.now c.cut.new.self c.deal.new.self cut c.in_ok-dealt.ensures
