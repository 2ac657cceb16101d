use Rattle.std.proofs.Common.{◌≡◌, length, arith}
use Rattle.p21_rules.proofs.InverseLemmas.{none_seen}
use Rattle.p21_rules.proofs.inverse.none_counted.Goals as goal

pub returns : goal.returns
returns c =
    let end = c.loop.auto.index-end in
    let past = c.loop-test.false in
    let made = c.loop.invariant.long in
    let long : length c.loop.all.items ≡ length c.args.rules.now = omega arith in
    none_seen c.args.schema.now c.args.rules.now c.loop.all.items long c.loop.invariant.empty
