use Rattle.std.proofs.Common.{◌≡◌, ◌+◌, ◌≤◌, ◌∷◌, ◌∙◌, IsTrue, drop, ap, refl, sym, subst, arith}
use Rattle.std.proofs.lemmas.Bool.{false≢true}
use Rattle.std.proofs.lemmas.List.{drop_more, drop_all}
use Rattle.p21_tree.specs.declared.params.Param.{Param}
use Rattle.p21_tree.specs.Plain.{plain, plain_all}
use Rattle.p21_query.proofs.NameLemmas.{name_there, name_further, no_name_left}
use Rattle.p21_tree.specs.Tree.{Tree}
use Rattle.p21_tree.specs.Tree as tree
use Rattle.p21_query.specs.Names.{HasName}
use Rattle.p21_query.proofs.PlainLemmas.{plain_items, tree_size, trees_size, element_size}
use Rattle.p21_query.proofs.references.+name.Goals as goal

pub has_name-is_or_has_name-requires : goal.has_name-is_or_has_name-requires
has_name-is_or_has_name-requires t c =
    let size = element_size c.args.params.now c.loop-param.param-index c.param-item.result c.loop-param-test.true in
    let less : 1 + tree_size (plain c.param-item.result) ≤ trees_size (plain_all c.args.params.now) = subst (λ (p : Param). 1 + tree_size (plain p) ≤ trees_size (plain_all c.args.params.now)) (sym c.param-item.is) size in
    omega arith

pub has_name-returns-then-is_or_has_name : goal.has_name-returns-then-is_or_has_name
has_name-returns-then-is_or_has_name t c =
    let ps = c.args.params.now in
    let i = c.loop-param.param-index in
    let p = c.param-item.result in
    let here : drop i ps ≡ p ∷ drop (i + 1) ps = drop_more ps i p c.loop-param-test.true ∙ ap (λ (q : Param). q ∷ drop (i + 1) ps) (sym c.param-item.is) in
    (λ _. name_there c.args.name ps _ i p here (c.is_or_has_name.ensures.0 c.if-is_or_has_name.true), λ _. refl)

pub has_name-loop-param-preserved : goal.has_name-loop-param-preserved
has_name-loop-param-preserved t c = λ h.
    let ps = c.args.params.now in
    let i = c.loop-param.param-index in
    let p = c.param-item.result in
    let here : drop i ps ≡ p ∷ drop (i + 1) ps = drop_more ps i p c.loop-param-test.true ∙ ap (λ (q : Param). q ∷ drop (i + 1) ps) (sym c.param-item.is) in
    name_further c.args.name _ _ p here (λ b. false≢true (sym c.if-is_or_has_name.false ∙ c.is_or_has_name.ensures.1 b)) (c.loop-param.invariant h)

pub has_name-returns : goal.has_name-returns
has_name-returns t c =
    (λ f. absurd (false≢true f), λ h. absurd (no_name_left c.args.name _ (drop_all c.loop-param.param-index c.args.params.now c.loop-param-test.false) (c.loop-param.invariant h)))

pub is_or_has_name-returns-in-Items : goal.is_or_has_name-returns-in-Items
is_or_has_name-returns-in-Items t c =
    let is = plain_items c.in-Items.items c.in-Items.is ∙ ap (λ l. tree.items (plain_all l)) (sym c.as_slice.ensures.value) in
    subst (λ (u : Tree). (IsTrue c.has_name.result → HasName c.args.name u) × (HasName c.args.name u → IsTrue c.has_name.result)) (sym is) c.has_name.ensures
