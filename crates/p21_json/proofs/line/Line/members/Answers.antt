use Rattle.std.proofs.Common.{◌≤◌, ◌<◌, min, length, take, arith}
use Rattle.p21_tree.specs.Views.{plain_instance}
use Rattle.p21_json.proofs.DeclaredLemmas.{there}
use Rattle.p21_json.proofs.InstanceLemmas.{members_end, members_step}
use Rattle.p21_json.proofs.WrittenLemmas.{ended, further}
use Rattle.p21_json.proofs.line.Line.members.Goals as goal

pub loop-position-preserved : goal.loop-position-preserved
loop-position-preserved c = λ os a q.
    let i = plain_instance c.args.instance.now in
    let p = c.loop-position.position in
    let within : p < length os = omega arith in
    let at = there os p within in
    further (c.loop-position.invariant os a q) (members_step i os c.args.params.now p at.0 c.index-params-position.result at.1 (omega arith) c.index-params-position.is) (c.in_ok-member.ensures os at.0 a at.1)

pub returns : goal.returns
returns c = λ os a q.
    let low : min (length os) (length c.args.params.now) ≤ c.loop-position.position = omega arith in
    ended (c.loop-position.invariant os a q) (members_end (plain_instance c.args.instance.now) (take c.loop-position.position os) os c.args.params.now c.loop-position.position low)
