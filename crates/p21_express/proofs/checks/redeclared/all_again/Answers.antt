use Rattle.std.proofs.Common.{[]}
use Rattle.p21_express.specs.Again.{plain_again}
use Rattle.p21_express.proofs.AgainLemmas.{again_explicit_of, again_explicit_of_joins, again_derived_of, again_derived_of_joins, told_step}
use Rattle.p21_express.proofs.checks.redeclared.all_again.Goals as goal

pub loop-i-preserved : goal.loop-i-preserved
loop-i-preserved c = rw c.in_ok-add.ensures (told_step plain_again again_explicit_of again_explicit_of_joins c.args.entity.now.attributes.items c.loop-i.i c.attribute-item.result [] c.loop-i.all.items c.again_of.result (rw c.deref-attribute-items.ensures.value at c.loop-i-test.true) (rw c.deref-attribute-items.ensures.value at c.attribute-item.is) (rw c.deref-in-loop-i.ensures.value at c.again_of.ensures) c.loop-i.invariant)

pub loop-i-2-preserved : goal.loop-i-2-preserved
loop-i-2-preserved c = rw c.in_ok-add-2.ensures (told_step plain_again again_derived_of again_derived_of_joins c.args.entity.now.derived.items c.loop-i-2.i c.derived-item.result (again_explicit_of c.args.entity.now.attributes.items) c.loop-i-2.all.items c.again_of-in-loop-i-2.result (rw c.deref-derived-items.ensures.value at c.loop-i-2-test.true) (rw c.deref-derived-items.ensures.value at c.derived-item.is) (rw c.deref-in-loop-i-2-2.ensures.value at c.again_of-in-loop-i-2.ensures) c.loop-i-2.invariant)
