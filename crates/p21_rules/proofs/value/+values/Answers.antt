use Rattle.std.proofs.Common.{◌∙◌, ◌+◌, ◌++◌, ◌≤◌, ap, sym, subst, List, map, arith}
use Rattle.p21_express.specs.Schema.{named}
use Rattle.p21_tree.specs.declared.params.Param.{Param}
use Rattle.p21_tree.specs.Bodies.{HasBodies}
use Rattle.p21_tree.specs.Plain.{plain, plain_all}
use Rattle.p21_tree.specs.Tree.{typed}
use Rattle.p21_tree.specs.Tree as tree
use Rattle.p21_rules.specs.Elements.{AreElements}
use Rattle.p21_rules.specs.Pushed.{IsPushed, codes_code}
use Rattle.p21_rules.proofs.PushLemmas.{plain_int, plain_real, plain_str, plain_enumeration, plain_binary, plain_reference, plain_items, plain_typed, integer_pushed, real_pushed, text_pushed, item_pushed, instance_pushed, binary_pushed, binary_body, typed_pushed, no_list, same_list, list_pushed, items_have, none_of_each, one_more, all_ordered, one_pushed, all_unordered, on_ok}
use Rattle.p21_rules.proofs.Sizes.{tree_size, trees_size, element_size}
use Rattle.p21_rules.proofs.value.+values.Goals as goal

pub push_value-returns-in_ok-push_integer-in-Int : goal.push_value-returns-in_ok-push_integer-in-Int
push_value-returns-in_ok-push_integer-in-Int t c = λ x k. integer_pushed c.args.schema.now x _ c.in-Int.text.now _ _ (plain_int _ c.in-Int.is) c.in_ok-push_integer-in-Int.ensures

pub push_value-returns-in-Real : goal.push_value-returns-in-Real
push_value-returns-in-Real t c = λ x k. on_ok c.push_real.result (λ done. real_pushed c.args.schema.now x _ c.in-Real.text.now _ _ done (plain_real _ c.in-Real.is)) c.push_real.ensures

pub push_value-returns-in_ok-push_text-in-Str : goal.push_value-returns-in_ok-push_text-in-Str
push_value-returns-in_ok-push_text-in-Str t c = λ x k. text_pushed c.args.schema.now x _ c.in-Str.body.now _ _ (plain_str _ c.in-Str.is) c.in_ok-push_text-in-Str.ensures

pub push_value-returns-in_ok-push_bytes-in-Enumeration : goal.push_value-returns-in_ok-push_bytes-in-Enumeration
push_value-returns-in_ok-push_bytes-in-Enumeration t c = λ x k. item_pushed c.args.schema.now x _ c.in-Enumeration.name.now _ _ _ (plain_enumeration _ c.in-Enumeration.is) c.in_ok-push-in-Enumeration.ensures.items c.in_ok-push_bytes-in-Enumeration.ensures

pub push_value-returns-in_ok-push_number-in-Ref : goal.push_value-returns-in_ok-push_number-in-Ref
push_value-returns-in_ok-push_number-in-Ref t c = λ x k. instance_pushed c.args.schema.now x _ _ _ _ _ (plain_reference _ c.in-Ref.is) c.in_ok-push-in-Ref.ensures.items c.in_ok-push_number-in-Ref.ensures

pub push_value-push_binary-requires : goal.push_value-push_binary-requires
push_value-push_binary-requires t c = binary_body _ c.in-Binary.body.now (plain_binary _ c.in-Binary.is) c.requires.bodies

pub push_value-returns-in_ok-push_binary-in-Binary : goal.push_value-returns-in_ok-push_binary-in-Binary
push_value-returns-in_ok-push_binary-in-Binary t c = λ x k. binary_pushed c.args.schema.now x _ c.in-Binary.body.now _ _ (plain_binary _ c.in-Binary.is) c.in_ok-push_binary-in-Binary.ensures

pub push_value-push_value-requires : goal.push_value-push_value-requires
push_value-push_value-requires t c =
    let e = plain_typed _ _ c.in-Typed.is ∙ ap (λ (d : Param). typed c.in-Typed.keyword.now (plain d)) (sym c.deref-in-Typed.ensures) in
    let whole = ap tree_size e in
    (omega arith, ((named c.in-Typed.keyword.now, c.elements_typed.ensures), subst HasBodies e c.requires.bodies))

pub push_value-returns-in_ok-push_bytes-in-Typed : goal.push_value-returns-in_ok-push_bytes-in-Typed
push_value-returns-in_ok-push_bytes-in-Typed t c = λ x k.
    let e = plain_typed _ _ c.in-Typed.is ∙ ap (λ (d : Param). typed c.in-Typed.keyword.now (plain d)) (sym c.deref-in-Typed.ensures) in
    on_ok c.push_value.result (λ done. typed_pushed c.args.schema.now x _ _ c.in-Typed.keyword.now _ _ _ _ done e c.in_ok-push-in-Typed.ensures.items c.in_ok-push_bytes-in-Typed.ensures)
    (c.push_value.ensures (named c.in-Typed.keyword.now) c.elements_typed.ensures)

pub push_value-push_list-requires : goal.push_value-push_list-requires
push_value-push_list-requires t c =
    let is = plain_items c.in-Items.params c.in-Items.is ∙ ap (λ (l : List Param). tree.items (plain_all l)) (sym c.deref.ensures.value) in
    let whole = ap tree_size is in
    let x = c.requires.elements.0 in
    (omega arith, ((x, subst (AreElements c.args.schema.now x) c.in-Some.is c.requires.elements.1), items_have c.deref.result.now (subst HasBodies is c.requires.bodies)))

pub push_value-returns-in-Some : goal.push_value-returns-in-Some
push_value-returns-in-Some t c = λ x k.
    let is = plain_items c.in-Items.params c.in-Items.is ∙ ap (λ (l : List Param). tree.items (plain_all l)) (sym c.deref.ensures.value) in
    on_ok c.push_list.result (λ done. same_list c.args.schema.now x _ _ _ _ done is) (c.push_list.ensures x (subst (AreElements c.args.schema.now x) c.in-Some.is k))

pub push_value-returns-in-None : goal.push_value-returns-in-None
push_value-returns-in-None t c = λ x k.
    no_list c.args.schema.now x _ _ c.args.code.now.items c.args.code.now.items (plain_items c.in-Items.params c.in-Items.is) (subst (AreElements c.args.schema.now x) c.in-None.is k)

pub push_list-returns-then-elements : goal.push_list-returns-then-elements
push_list-returns-then-elements t c = λ x k.
    on_ok c.push_ordered.result (λ done. list_pushed c.args.schema.now x c.fits.ensures c.args.elements _ c.if-elements.true k _ _ _ _ done c.in_ok-push.ensures.items)
    (c.push_ordered.ensures k.element (c.elements_of-inner.ensures k.element k.item))

pub push_list-returns : goal.push_list-returns
push_list-returns t c = λ x k.
    on_ok c.push_unordered.result (λ done. list_pushed c.args.schema.now x c.fits.ensures c.args.elements _ c.if-elements.false k _ _ _ _ done c.in_ok-push-2.ensures.items)
    (c.push_unordered.ensures k.element (c.elements_of-inner.ensures k.element k.item))

pub push_ordered-push_value-requires : goal.push_ordered-push_value-requires
push_ordered-push_value-requires t c =
    let size = element_size c.args.params.now c.loop-param.param-index c.param-item.result c.loop-param-test.true in
    let less : 1 + tree_size (plain c.param-item.result) ≤ trees_size (plain_all c.args.params.now) = subst (λ (p : Param). 1 + tree_size (plain p) ≤ trees_size (plain_all c.args.params.now)) (sym c.param-item.is) size in
    let body : HasBodies (plain c.param-item.result) = subst (λ (p : Param). HasBodies (plain p)) (sym c.param-item.is) (c.requires.bodies c.loop-param.param-index c.param-item.result c.loop-param-test.true) in
    (omega arith, (c.requires.elements, body))

pub push_ordered-returns-then-not-branch : goal.push_ordered-returns-then-not-branch
push_ordered-returns-then-not-branch t c = λ e k.
    let none = subst (IsPushed c.args.schema.now e (plain c.param-item.result) c.loop-param.code.items c.push_value.new.code.items) c.if-not-branch.true (c.in_ok-push_value.ensures e k) in
    none_of_each c.args.schema.now e c.args.params.now c.loop-param.param-index c.param-item.result c.loop-param.code.items c.push_value.new.code.items c.loop-param-test.true c.param-item.is none

pub push_ordered-loop-param-preserved : goal.push_ordered-loop-param-preserved
push_ordered-loop-param-preserved t c = λ e k.
    let one = subst (IsPushed c.args.schema.now e (plain c.param-item.result) c.loop-param.code.items c.push_value.new.code.items) c.if-not-branch.false (c.in_ok-push_value.ensures e k) in
    one_more c.args.schema.now e c.args.params.now c.loop-param.param-index c.param-item.result _ _ _ c.loop-param-test.true c.param-item.is (c.loop-param.invariant e k) one

pub push_ordered-returns : goal.push_ordered-returns
push_ordered-returns t c = λ e k.
    all_ordered c.args.schema.now e c.args.params.now c.loop-param.param-index _ _ _ c.loop-param-test.false (c.loop-param.invariant e k) c.in_ok-push.ensures.items

pub push_unordered-push_value-requires : goal.push_unordered-push_value-requires
push_unordered-push_value-requires t c =
    let size = element_size c.args.params.now c.loop-param.param-index c.param-item.result c.loop-param-test.true in
    let less : 1 + tree_size (plain c.param-item.result) ≤ trees_size (plain_all c.args.params.now) = subst (λ (p : Param). 1 + tree_size (plain p) ≤ trees_size (plain_all c.args.params.now)) (sym c.param-item.is) size in
    let body : HasBodies (plain c.param-item.result) = subst (λ (p : Param). HasBodies (plain p)) (sym c.param-item.is) (c.requires.bodies c.loop-param.param-index c.param-item.result c.loop-param-test.true) in
    (omega arith, (c.requires.elements, body))

pub push_unordered-returns-then-not-branch : goal.push_unordered-returns-then-not-branch
push_unordered-returns-then-not-branch t c = λ e k.
    let none = subst (IsPushed c.args.schema.now e (plain c.param-item.result) c.new-own.result.items c.push_value.new.code.items) c.if-not-branch.true (c.in_ok-push_value.ensures e k) in
    none_of_each c.args.schema.now e c.args.params.now c.loop-param.param-index c.param-item.result c.new-own.result.items c.push_value.new.code.items c.loop-param-test.true c.param-item.is none

pub push_unordered-loop-param-preserved : goal.push_unordered-loop-param-preserved
push_unordered-loop-param-preserved t c = λ e k.
    let one = subst (IsPushed c.args.schema.now e (plain c.param-item.result) c.new-own.result.items c.push_value.new.code.items) c.if-not-branch.false (c.in_ok-push_value.ensures e k) in
    one_pushed c.args.schema.now e c.args.params.now c.loop-param.param-index c.param-item.result _ _ _ _ c.loop-param-test.true c.param-item.is (c.loop-param.invariant e k) c.new-own.ensures.items one c.in_ok-push.ensures.items

pub push_unordered-returns : goal.push_unordered-returns
push_unordered-returns t c = λ e k.
    let added = c.in_ok-push_codes.ensures ∙ ap (λ l. c.args.code.now.items ++ codes_code (map (λ o. o.items) l)) c.deref.ensures.value in
    all_unordered c.args.schema.now e c.args.params.now c.loop-param.param-index _ _ _ _ c.loop-param-test.false (c.loop-param.invariant e k) c.sort.ensures.permutation c.in_ok-sort.ensures.sorted added
