use Rattle.std.proofs.Common.{◌<◌, ◌≤◌, length, arith}
use Rattle.p21_values.specs.Plain.{codes}
use Rattle.p21_values.proofs.AggregateLemmas.{codes_more}
use Rattle.p21_values.proofs.characters.add_codes.Goals as goal

pub loop-at-preserved : goal.loop-at-preserved
loop-at-preserved c =
    let h : c.args.from ≤ c.loop-at.at = omega arith in
    let lt : c.loop-at.at < length (codes c.args.text.now) = omega arith in
    codes_more (codes c.args.text.now) c.args.made.now.items c.loop-at.made.items c.push.new.self.items c.args.from c.loop-at.at c.code_at.result h lt c.in_ok-push.ensures.items c.code_at.ensures c.loop-at.invariant
