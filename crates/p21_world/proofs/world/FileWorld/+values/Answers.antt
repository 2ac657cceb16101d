use Rattle.std.proofs.Common.{◌∙◌, ap, sym, subst, List, arith}
use Rattle.p21_tree.specs.declared.params.Param.{Param}
use Rattle.p21_tree.specs.Bodies.{HasBodies}
use Rattle.p21_tree.specs.Plain.{plain, plain_all}
use Rattle.p21_tree.specs.Tree.{typed}
use Rattle.p21_tree.specs.Tree as tree
use Rattle.p21_world.proofs.Bodies.{plain_items, plain_typed, items_have}
use Rattle.p21_world.proofs.world.FileWorld.+values.Goals as goal

pub value-value_of_type-requires : goal.value-value_of_type-requires
value-value_of_type-requires t c =
    let e = plain_typed _ _ c.in-Typed.is ∙ ap (λ (d : Param). typed c.in-Typed.keyword.now (plain d)) (sym c.deref.ensures) in
    (omega arith, subst HasBodies e c.requires)

pub value-value_of_type-requires-in-Named-Defined : goal.value-value_of_type-requires-in-Named-Defined
value-value_of_type-requires-in-Named-Defined t c = (omega arith, c.requires)

pub value_of_type-plain_value-requires : goal.value_of_type-plain_value-requires
value_of_type-plain_value-requires t c = (omega arith, c.requires)

pub plain_value-aggregate-requires : goal.plain_value-aggregate-requires
plain_value-aggregate-requires t c =
    let is = plain_items c.in-Items.params c.in-Items.is ∙ ap (λ (l : List Param). tree.items (plain_all l)) (sym c.deref.ensures.value) in
    (omega arith, items_have c.deref.result.now (subst HasBodies is c.requires))

pub aggregate-value-requires : goal.aggregate-value-requires
aggregate-value-requires t c =
    (omega arith, subst (λ (p : Param). HasBodies (plain p)) (sym c.param-item.is) (c.requires c.loop-param.param-index c.param-item.result c.loop-param-test.true))
