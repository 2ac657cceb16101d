use Rattle.std.proofs.Common.{Ok, Err, refl}
use Rattle.p21_tree.specs.Plain.{plain_all}
use Rattle.p21_check.proofs.WalkLemmas.{go_on, stop, at_end, listed, nothing_among}
use Rattle.p21_check.proofs.walk.+walk.Goals as goal

pub loop-item-preserved : goal.loop-item-preserved
loop-item-preserved g t c found h =
    let s = c.args.schema.now in
    let named = g.J.NameJudge.named c.args.judge.now in
    let v = c.elements-of_first.result in
    let w = c.elements-of_second.result in
    let d = c.item-item.result in
    c.loop-item.invariant found (go_on s named v w c.deref-item-items.result.now c.loop-item.item-index d found c.loop-item-test.true c.item-item.is c.in_default-walk.ensures h)

pub returns-in-Err : goal.returns-in-Err
returns-in-Err g t c =
    let s = c.args.schema.now in
    let named = g.J.NameJudge.named c.args.judge.now in
    let v = c.elements-of_first.result in
    let w = c.elements-of_second.result in
    let xs = c.deref-item-items.result.now in
    let f = c.in-Err.found in
    listed s named c.args.first c.args.second v w c.args.param.now c.in-Items.items xs (Err f) c.in-Items.is c.deref-item-items.ensures.value c.elements-of_first.ensures c.elements-of_second.ensures
    (c.loop-item.invariant (Err f) (stop s named v w xs c.loop-item.item-index c.item-item.result f c.loop-item-test.true c.item-item.is c.in-Err.ensures))

pub returns-after-loop-item : goal.returns-after-loop-item
returns-after-loop-item g t c =
    let s = c.args.schema.now in
    let named = g.J.NameJudge.named c.args.judge.now in
    let v = c.elements-of_first.result in
    let w = c.elements-of_second.result in
    let xs = c.deref-item-items.result.now in
    listed s named c.args.first c.args.second v w c.args.param.now c.in-Items.items xs (Ok tt) c.in-Items.is c.deref-item-items.ensures.value c.elements-of_first.ensures c.elements-of_second.ensures
    (c.loop-item.invariant (Ok tt) (at_end s named v w xs c.loop-item.item-index c.loop-item-test.false))

pub returns-then-is_nothing-4 : goal.returns-then-is_nothing-4
returns-then-is_nothing-4 g t c =
    let s = c.args.schema.now in
    let named = g.J.NameJudge.named c.args.judge.now in
    let v = c.elements-of_first.result in
    let w = c.elements-of_second.result in
    let xs = c.in-Items.items.items in
    listed s named c.args.first c.args.second v w c.args.param.now c.in-Items.items xs (Ok tt) c.in-Items.is refl c.elements-of_first.ensures c.elements-of_second.ensures
    (nothing_among s named v (plain_all xs) (c.is_nothing-in-Items.ensures.0 c.if-is_nothing-3.true), nothing_among s named w (plain_all xs) (c.is_nothing-then-is_nothing-3.ensures.0 c.if-is_nothing-4.true))
