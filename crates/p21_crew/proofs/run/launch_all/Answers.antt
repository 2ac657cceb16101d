use Rattle.std.proofs.Common.{arith}
use Rattle.p21_crew.proofs.FreshLemmas.{fresh_more}
use Rattle.p21_crew.proofs.run.launch_all.Goals as goal

pub loop-number-preserved : goal.loop-number-preserved
loop-number-preserved g c =
    let before = c.loop-number.invariant in
    let old = c.loop-number.flights.ok.0 in
    let new = c.join_crew.new.flights.ok.0 in
    let more = fresh_more c.args.work.now c.launch-started.result c.loop-number.flights.items c.join_crew.new.flights.items c.in_default.ensures.started c.in_default.ensures.joined c.launch-started.ensures.pieces c.launch-started.ensures.results c.launch-started.ensures.work before.1 in
    (omega (arith, before.0, more.1), more.0)
