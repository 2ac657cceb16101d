use Rattle.std.proofs.Common.{◌≡◌, ◌↔◌, ◌≤◌, ◌+◌, ℕ, List, IsTrue, arith, length, get_or, refl, sym, ap, subst, ◌∙◌}
use Rattle.std.proofs.lemmas.Bool.{false≢true}
use Rattle.p21_tree.specs.Tree.{Tree}
use Rattle.p21_tree.specs.Tree as tree
use Rattle.p21_tree.specs.declared.params.Param.{Param}
use Rattle.p21_tree.specs.Bodies.{HasBodies, AllHaveBodies}
use Rattle.p21_tree.specs.Plain.{plain, plain_all}
use Rattle.p21_express.specs.Schema.{Expr, array, named}
use Rattle.p21_schema.specs.Place.{type_name}
use Rattle.p21_check.specs.Conforms.{Conforms, IsWithin, IsSpan}
use Rattle.p21_check.specs.Known.{IsKnownExpr, IsElement}
use Rattle.p21_check.proofs.Tests.{both, each_true, each_false}
use Rattle.p21_check.proofs.Sizes.{tree_size, trees_size, element_size}
use Rattle.p21_check.proofs.PlainLemmas.{plain_items, plain_typed, plain_reference, reference_param, typed_param}
use Rattle.p21_check.proofs.BodyLemmas.{items_have}
use Rattle.p21_check.proofs.ResolvedLemmas.{known_array, known_list, known_set, known_bag, names_target, names_entity, names_type}
use Rattle.p21_check.proofs.ElementLemmas.{left_more, left_stops, left_none, aggregate_by, collection_by}
use Rattle.p21_check.proofs.TypeLemmas.{entity_by, select_reference, select_typed, select_untyped, select_other}
use Rattle.p21_check.proofs.UnderLemmas.{rank_least, rank_named, by_items, is_select, by_plain}
use Rattle.p21_check.proofs.conform.+conform.Goals as goal

pub are_elements-is_element-requires : goal.are_elements-is_element-requires
are_elements-is_element-requires t c =
    let size = element_size c.args.elements.now c.loop-element.element-index c.element-item.result c.loop-element-test.true in
    let less : 1 + tree_size (plain c.element-item.result) ≤ trees_size (plain_all c.args.elements.now) = subst (λ (p : Param). 1 + tree_size (plain p) ≤ trees_size (plain_all c.args.elements.now)) (sym c.element-item.is) size in
    let body : HasBodies (plain c.element-item.result) = subst (λ (p : Param). HasBodies (plain p)) (sym c.element-item.is) (c.requires.bodies c.loop-element.element-index c.element-item.result c.loop-element-test.true) in
    (omega arith, (c.requires.known, body))

pub are_elements-returns-then-not-is_element : goal.are_elements-returns-then-not-is_element
are_elements-returns-then-not-is_element t c = λ e k.
    let unfit : ¬ (IsElement c.args.schema.now c.args.optional e (plain c.element-item.result)) = λ h. false≢true (sym c.if-not-is_element.true ∙ (c.is_element.ensures e k).1 h) in
    let there : ¬ (IsElement c.args.schema.now c.args.optional e (plain (get_or c.args.elements.now c.loop-element.element-index c.element-item.result))) = subst (λ (p : Param). ¬ (IsElement c.args.schema.now c.args.optional e (plain p))) c.element-item.is unfit in (
      λ h. absurd (false≢true h),
      λ h. absurd (left_stops c.args.schema.now c.args.optional e c.args.elements.now c.loop-element.element-index c.element-item.result c.loop-element-test.true there (c.loop-element.invariant e k) h),
    )

pub are_elements-loop-element-preserved : goal.are_elements-loop-element-preserved
are_elements-loop-element-preserved t c = λ e k.
    let fit : IsElement c.args.schema.now c.args.optional e (plain c.element-item.result) = (c.is_element.ensures e k).0 c.if-not-is_element.false in
    let there : IsElement c.args.schema.now c.args.optional e (plain (get_or c.args.elements.now c.loop-element.element-index c.element-item.result)) = subst (λ (p : Param). IsElement c.args.schema.now c.args.optional e (plain p)) c.element-item.is fit in
    left_more c.args.schema.now c.args.optional e c.args.elements.now c.loop-element.element-index c.element-item.result c.loop-element-test.true there (c.loop-element.invariant e k)

pub are_elements-returns : goal.are_elements-returns
are_elements-returns t c = λ e k. (λ _. left_none c.args.schema.now c.args.optional e c.args.elements.now c.loop-element.element-index c.loop-element-test.false (c.loop-element.invariant e k), λ _. refl)

pub conforms-is_array-requires : goal.conforms-is_array-requires
conforms-is_array-requires t c =
    let some = rank_least c.args.schema.now c.args.texpr.now in
    (omega arith, (subst (IsKnownExpr c.args.schema.now) (sym c.deref.ensures) (known_array c.args.schema.now c.args.texpr.now _ _ _ c.requires.known c.in-Array.is), c.requires.bodies))

pub conforms-is_collection-requires : goal.conforms-is_collection-requires
conforms-is_collection-requires t c =
    let some = rank_least c.args.schema.now c.args.texpr.now in
    (omega arith, (subst (IsKnownExpr c.args.schema.now) (sym c.deref-in-List.ensures) (known_list c.args.schema.now c.args.texpr.now _ _ _ c.requires.known c.in-List.is), c.requires.bodies))

pub conforms-is_collection-requires-in-Set : goal.conforms-is_collection-requires-in-Set
conforms-is_collection-requires-in-Set t c =
    let some = rank_least c.args.schema.now c.args.texpr.now in
    (omega arith, (subst (IsKnownExpr c.args.schema.now) (sym c.deref-in-Set.ensures) (known_set c.args.schema.now c.args.texpr.now _ _ c.requires.known c.in-Set.is), c.requires.bodies))

pub conforms-is_collection-requires-in-Bag : goal.conforms-is_collection-requires-in-Bag
conforms-is_collection-requires-in-Bag t c =
    let some = rank_least c.args.schema.now c.args.texpr.now in
    (omega arith, (subst (IsKnownExpr c.args.schema.now) (sym c.deref-in-Bag.ensures) (known_bag c.args.schema.now c.args.texpr.now _ _ c.requires.known c.in-Bag.is), c.requires.bodies))

pub conforms-is_named-requires : goal.conforms-is_named-requires
conforms-is_named-requires t c =
    let high = rank_named c.args.schema.now c.args.texpr.now c.in-Named.target c.requires.known.0 c.requires.known.1 c.in-Named.is in
    let names = names_target c.args.schema.now c.args.texpr.now c.in-Named.target c.requires.known.0 c.requires.known.1 c.in-Named.is in
    (omega arith, ((names.0, names.1), c.requires.bodies))

pub conforms-returns-in-Named : goal.conforms-returns-in-Named
conforms-returns-in-Named t c = λ e k.
    let names = names_target c.args.schema.now c.args.texpr.now c.in-Named.target e k c.in-Named.is in
    subst (λ (x : Expr). IsTrue c.is_named.result ↔ Conforms c.args.schema.now x (plain c.args.param.now)) (sym names.2) (c.is_named.ensures names.0 names.1)

pub is_named-is_defined-requires : goal.is_named-is_defined-requires
is_named-is_defined-requires t c =
    (omega arith, ((names_type c.args.schema.now c.args.target c.in-Defined.id c.requires.known.0 c.requires.known.1 c.in-Defined.is).1, c.requires.bodies))

pub is_named-returns-in-Entity : goal.is_named-returns-in-Entity
is_named-returns-in-Entity t c = λ n k.
    both c.is_reference.ensures (entity_by c.args.schema.now n (plain c.args.param.now) c.fits.ensures (names_entity c.args.schema.now c.args.target _ n k c.in-Entity.is))

pub is_named-returns-in-Defined : goal.is_named-returns-in-Defined
is_named-returns-in-Defined t c = λ n k.
    let names = names_type c.args.schema.now c.args.target c.in-Defined.id n k c.in-Defined.is in
    subst (λ (x : List ℕ). IsTrue c.is_defined.result ↔ Conforms c.args.schema.now (named x) (plain c.args.param.now)) names.0 c.is_defined.ensures

pub is_array-are_elements-requires : goal.is_array-are_elements-requires
is_array-are_elements-requires t c =
    let is = plain_items c.in-Items.elements c.in-Items.is in
    let long : tree_size (plain c.args.param.now) ≡ 1 + trees_size (plain_all c.deref.result.now) = ap tree_size is ∙ ap (λ l. 1 + trees_size (plain_all l)) (sym c.deref.ensures.value) in
    (omega arith, (c.requires.known, subst AllHaveBodies (sym c.deref.ensures.value) (items_have c.in-Items.elements.items (subst HasBodies is c.requires.bodies))))

pub is_array-returns-then-is_span : goal.is_array-returns-then-is_span
is_array-returns-then-is_span t c = λ e k.
    let is : plain c.args.param.now ≡ tree.items (plain_all c.deref.result.now) = plain_items c.in-Items.elements c.in-Items.is ∙ ap (λ l. tree.items (plain_all l)) (sym c.deref.ensures.value) in
    let count : c.len.result ≡ length c.deref.result.now = c.len.ensures ∙ sym c.deref.ensures.len in
    both (each_true c.if-is_span.true (subst (λ n. IsTrue c.is_span.result ↔ IsSpan c.args.bounds.low c.args.bounds.high n) count c.is_span.ensures) (c.are_elements.ensures e k))
    (aggregate_by c.args.schema.now (array c.args.bounds c.args.optional) e (plain c.args.param.now) c.deref.result.now is)

pub is_array-returns-else-is_span : goal.is_array-returns-else-is_span
is_array-returns-else-is_span t c = λ e k.
    let is = plain_items c.in-Items.elements c.in-Items.is in
    both (each_false c.if-is_span.false (subst (λ n. IsTrue c.is_span.result ↔ IsSpan c.args.bounds.low c.args.bounds.high n) (c.len.ensures ∙ c.in-Items.elements.ok.0) c.is_span.ensures))
    (aggregate_by c.args.schema.now (array c.args.bounds c.args.optional) e (plain c.args.param.now) c.in-Items.elements.items is)

pub is_collection-are_elements-requires : goal.is_collection-are_elements-requires
is_collection-are_elements-requires t c =
    let is = plain_items c.in-Items.elements c.in-Items.is in
    let long : tree_size (plain c.args.param.now) ≡ 1 + trees_size (plain_all c.deref.result.now) = ap tree_size is ∙ ap (λ l. 1 + trees_size (plain_all l)) (sym c.deref.ensures.value) in
    (omega arith, (c.requires.known, subst AllHaveBodies (sym c.deref.ensures.value) (items_have c.in-Items.elements.items (subst HasBodies is c.requires.bodies))))

pub is_collection-returns-then-is_within : goal.is_collection-returns-then-is_within
is_collection-returns-then-is_within t c = λ a e i k.
    let is : plain c.args.param.now ≡ tree.items (plain_all c.deref.result.now) = plain_items c.in-Items.elements c.in-Items.is ∙ ap (λ l. tree.items (plain_all l)) (sym c.deref.ensures.value) in
    let count : c.len.result ≡ length c.deref.result.now = c.len.ensures ∙ sym c.deref.ensures.len in
    both (each_true c.if-is_within.true (subst (λ n. IsTrue c.is_within.result ↔ IsWithin c.args.bounds n) count c.is_within.ensures) (c.are_elements.ensures e k))
    (collection_by c.args.schema.now a c.args.bounds e (plain c.args.param.now) c.deref.result.now i is)

pub is_collection-returns-else-is_within : goal.is_collection-returns-else-is_within
is_collection-returns-else-is_within t c = λ a e i k.
    let is = plain_items c.in-Items.elements c.in-Items.is in
    both (each_false c.if-is_within.false (subst (λ n. IsTrue c.is_within.result ↔ IsWithin c.args.bounds n) (c.len.ensures ∙ c.in-Items.elements.ok.0) c.is_within.ensures))
    (collection_by c.args.schema.now a c.args.bounds e (plain c.args.param.now) c.in-Items.elements.items i is)

pub is_defined-is_selected-requires : goal.is_defined-is_selected-requires
is_defined-is_selected-requires t c =
    let u = c.under.ensures in
    (omega arith, (c.requires.known, (is_select c.args.schema.now c.fits.ensures (type_name c.args.schema.now c.args.id) c.under.result.now u.0 u.1.0 u.1.1 _ c.in-Select.is, c.requires.bodies)))

pub is_defined-conforms-requires : goal.is_defined-conforms-requires
is_defined-conforms-requires t c =
    let u = c.under.ensures in
    let p = by_plain c.args.schema.now c.fits.ensures (type_name c.args.schema.now c.args.id) c.under.result.now u.0 u.1.0 u.1.1 c.in-Plain.texpr (plain c.args.param.now) c.in-Plain.is in
    let one = p.2 in
    (omega arith, ((p.0, p.1), c.requires.bodies))

pub is_defined-returns-in-Items : goal.is_defined-returns-in-Items
is_defined-returns-in-Items t c =
    let u = c.under.ensures in
    both c.is_item.ensures (by_items c.args.schema.now c.fits.ensures (type_name c.args.schema.now c.args.id) c.under.result.now u.0 u.1.0 u.1.1 c.in-Items.field-0 (plain c.args.param.now) c.in-Items.is)

pub is_defined-returns-in-Plain : goal.is_defined-returns-in-Plain
is_defined-returns-in-Plain t c =
    let u = c.under.ensures in
    let p = by_plain c.args.schema.now c.fits.ensures (type_name c.args.schema.now c.args.id) c.under.result.now u.0 u.1.0 u.1.1 c.in-Plain.texpr (plain c.args.param.now) c.in-Plain.is in
    both (c.conforms.ensures p.0 p.1) p.3

pub is_selected-returns-in-Ref : goal.is_selected-returns-in-Ref
is_selected-returns-in-Ref t c = select_reference c.args.schema.now c.fits.ensures (plain c.args.param.now) c.in-Ref.field-0 c.requires.select (plain_reference _ c.in-Ref.is) c.select_has_entity.ensures

pub is_selected-returns-in-Some : goal.is_selected-returns-in-Some
is_selected-returns-in-Some t c =
    select_typed c.args.schema.now c.fits.ensures (plain c.args.param.now) c.in-Typed.keyword.now (type_name c.args.schema.now c.in-Some.id) (plain c.in-Typed.inner.value) c.requires.select (plain_typed _ _ c.in-Typed.is) c.in-Some.ensures.1.0 c.in-Some.ensures.1.1
    (subst (λ (p : Param). IsTrue c.is_defined.result ↔ Conforms c.args.schema.now (named (type_name c.args.schema.now c.in-Some.id)) (plain p)) c.deref.ensures c.is_defined.ensures)

pub is_selected-returns-in-None : goal.is_selected-returns-in-None
is_selected-returns-in-None t c = (
  λ h. absurd (false≢true h),
  λ h. absurd (select_untyped c.args.schema.now c.fits.ensures (plain c.args.param.now) c.in-Typed.keyword.now (plain c.in-Typed.inner.value) c.requires.select (plain_typed _ _ c.in-Typed.is) c.in-None.ensures h),
)

pub is_selected-returns-in_default : goal.is_selected-returns-in_default
is_selected-returns-in_default t c =
    let a : (r : ℕ) → ¬ (plain c.args.param.now ≡ tree.reference r) = λ r e. c.in_default.not-Ref r (reference_param c.args.param.now r e) in
    let b : (k : List ℕ) (p : Tree) → ¬ (plain c.args.param.now ≡ tree.typed k p) = λ k p e. let found = typed_param c.args.param.now k p e in c.in_default.not-Typed found.0 found.1 found.2 in
    (λ h. absurd (false≢true h), λ h. absurd (select_other c.args.schema.now c.fits.ensures (plain c.args.param.now) c.requires.select a b h))
