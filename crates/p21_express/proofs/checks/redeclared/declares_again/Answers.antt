use Rattle.std.proofs.Common.{true, false}
use Rattle.std.specs.Prelude.{Vec}
use Rattle.p21_express.proofs.AgainLemmas.{again_explicit_of, again_explicit_of_joins, again_derived_of, again_derived_of_joins, none_again, nothing_step}
use Rattle.p21_express.proofs.checks.redeclared.declares_again.Goals as goal

pub loop-attribute-preserved : goal.loop-attribute-preserved
loop-attribute-preserved c = nothing_step again_explicit_of again_explicit_of_joins c.args.entity.now.attributes.items c.loop-attribute.attribute-index c.attribute-item.result (rw c.deref-attribute-items.ensures.value at c.loop-attribute-test.true) (rw c.deref-attribute-items.ensures.value at c.attribute-item.is) c.loop-attribute.invariant (none_again (λ (n : Vec _ _). n.items) c.attribute-item.result.of c.is_some.result c.attribute-item.result.name.items true c.is_some.ensures c.if-is_some.false)

pub loop-derived-preserved : goal.loop-derived-preserved
loop-derived-preserved c = (c.loop-derived.invariant.0, nothing_step again_derived_of again_derived_of_joins c.args.entity.now.derived.items c.loop-derived.derived-index c.derived-item.result (rw c.deref-derived-items.ensures.value at c.loop-derived-test.true) (rw c.deref-derived-items.ensures.value at c.derived-item.is) c.loop-derived.invariant.1 (none_again (λ (n : Vec _ _). n.items) c.derived-item.result.of c.is_some-in-loop-derived.result c.derived-item.result.name.items false c.is_some-in-loop-derived.ensures c.if-is_some-2.false))
