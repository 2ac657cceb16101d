use Rattle.std.proofs.lemmas.List.{take_all}
use Rattle.p21_express.specs.Index.{IsSelectAt}
use Rattle.p21_express.proofs.PositionLemmas.{no_positions, name_more}
use Rattle.p21_express.proofs.checks.cycles.selects_among.Goals as goal

pub loop-name-init : goal.loop-name-init
loop-name-init c = λ s h. rw c.new-found.ensures.items (no_positions (IsSelectAt s))

pub loop-name-preserved : goal.loop-name-preserved
loop-name-preserved c = λ s h. rw c.in_ok-add.ensures (name_more (IsSelectAt s) c.args.names.now c.loop-name.name-index c.name-item.result c.deref.result.now c.loop-name.found.items c.select_at.result c.loop-name-test.true c.name-item.is c.deref.ensures.value (c.select_at.ensures s h) (c.loop-name.invariant s h))

pub returns : goal.returns
returns c = λ s h. rw (take_all c.loop-name.name-index c.args.names.now c.loop-name-test.false) at (c.loop-name.invariant s h)
