use Rattle.std.proofs.Common.{List, [], ap, map, subst, sym}
use Rattle.std.proofs.lemmas.List.{take_all}
use Rattle.p21_tree.specs.Sentence.{Instance}
use Rattle.p21_tree.specs.Views.{plain_instance}
use Rattle.p21_json.specs.Lines.{AreLines, none}
use Rattle.p21_json.proofs.LineLemmas.{known_of, lines_more}
use Rattle.p21_json.proofs.lines.write_lines.Goals as goal

pub push_line-requires : goal.push_line-requires
push_line-requires c = known_of c.args.terms.now c.args.instances.now c.loop-instance.instance-index c.instance-item.result c.requires c.loop-instance-test.true c.instance-item.is

pub loop-instance-init : goal.loop-instance-init
loop-instance-init c = subst (AreLines c.args.terms.now []) (sym c.new-text.ensures.items) none

pub loop-instance-preserved : goal.loop-instance-preserved
loop-instance-preserved c =
    let made = c.in_ok-text.ensures in
    lines_more c.args.terms.now c.args.instances.now c.loop-instance.instance-index c.instance-item.result c.loop-instance.text.items made.0 c.in_ok-text.text.items c.loop-instance-test.true c.instance-item.is c.loop-instance.invariant made.1.0 made.1.1

pub returns : goal.returns
returns c =
    let all = ap (map plain_instance) (take_all c.loop-instance.instance-index c.args.instances.now c.loop-instance-test.false) in
    subst (λ (is : List Instance). AreLines c.args.terms.now is c.loop-instance.text.items) all c.loop-instance.invariant
