use Rattle.std.proofs.lemmas.List.{take_all}
use Rattle.p21_express.proofs.AgainLemmas.{found_in, new_derived_of, new_derived_of_joins, not_in_more}
use Rattle.p21_express.proofs.checks.owners.derives.Goals as goal

pub returns-then-is_new : goal.returns-then-is_new
returns-then-is_new c = found_in new_derived_of new_derived_of_joins c.args.entity.now.derived.items c.loop-derived.derived-index c.derived-item.result c.args.name.now (rw c.deref-derived-items.ensures.value at c.loop-derived-test.true) (rw c.deref-derived-items.ensures.value at c.derived-item.is) (rw (c.if-is_new.true, c.deref.ensures.value) at c.is_new.ensures)

pub loop-derived-preserved : goal.loop-derived-preserved
loop-derived-preserved c = not_in_more new_derived_of new_derived_of_joins c.args.entity.now.derived.items c.loop-derived.derived-index c.derived-item.result c.args.name.now (rw c.deref-derived-items.ensures.value at c.loop-derived-test.true) (rw c.deref-derived-items.ensures.value at c.derived-item.is) c.loop-derived.invariant (rw (c.if-is_new.false, c.deref.ensures.value) at c.is_new.ensures)

pub returns : goal.returns
returns c = rw (take_all c.loop-derived.derived-index c.args.entity.now.derived.items (rw c.deref-derived-items.ensures.value at c.loop-derived-test.false)) at c.loop-derived.invariant
