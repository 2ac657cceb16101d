use Rattle.std.proofs.Common.{◌≡◌, ◌<◌, ◌∙◌, List, [], ◌∷◌, Option, None, Some, MatchOption, length, ap, refl, sym, subst, arith}
use Rattle.std.proofs.lemmas.Option.{slice_get_past, slice_get_read}
use Rattle.p21_tree.specs.Bodies.{HasBodies, AllHaveBodies}
use Rattle.p21_tree.specs.Plain.{plain, plain_all}
use Rattle.p21_tree.specs.Tree.{Tree}
use Rattle.p21_tree.specs.declared.params.Param.{Param}
use Rattle.p21_tree.specs.Tree as tree
use Rattle.p21_json.specs.Where.{Where, typed}
use Rattle.p21_query.specs.Path.{at_path, behind, IsFound}
use Rattle.p21_query.proofs.PathLemmas.{at_first, behind_items, behind_typed, nonempty, no_tree_there, tree_there}
use Rattle.p21_query.proofs.PlainLemmas.{plain_items, plain_typed, items_have}
use Rattle.p21_query.proofs.parameters.+path.Goals as goal

pub behind-parameter_at-requires : goal.behind-parameter_at-requires
behind-parameter_at-requires t c =
    let is = plain_items c.in-Items.items c.in-Items.is in
    (omega arith, subst AllHaveBodies (sym c.deref.ensures.value) (items_have c.in-Items.items.items (subst HasBodies is c.requires)))

pub behind-returns-in-Items-clause-found : goal.behind-returns-in-Items-clause-found
behind-returns-in-Items-clause-found t c = λ w h.
    let path = c.args.path.now in
    let is = plain_items c.in-Items.items c.in-Items.is ∙ ap (λ l. tree.items (plain_all l)) (sym c.deref.ensures.value) in
    let some : 0 < length path = nonempty (length path) c.if-is_empty.ensures in
    let same = ap (λ (u : Tree). behind w (Some u) path) is ∙ behind_items w (plain_all c.deref.result.now) path some in
    subst (λ (o : Option (Where × Tree)). MatchOption c.parameter_at.result (o ≡ None) (λ found. IsFound c.args.terms.now o (plain found.param.now) found.logical)) (sym same) (c.parameter_at.ensures.found w h)

pub behind-returns-in-Typed-clause-found : goal.behind-returns-in-Typed-clause-found
behind-returns-in-Typed-clause-found t c = λ w h.
    let path = c.args.path.now in
    let k = c.in-Typed.keyword.now in
    let inner = c.in-Typed.inner.value in
    let one : c.from_ref.result.now ≡ inner ∷ [] = c.from_ref.ensures.value ∙ ap (λ (p : Param). p ∷ []) c.deref-in-Typed.ensures in
    let is = plain_typed c.in-Typed.keyword c.in-Typed.inner c.in-Typed.is in
    let some : 0 < length path = nonempty (length path) c.if-is_empty.ensures in
    let same = ap (λ (u : Tree). behind w (Some u) path) is ∙ behind_typed w k (plain inner) path some ∙ ap (λ (l : List Param). at_path (typed k) (plain_all l) path) (sym one) in
    subst (λ (o : Option (Where × Tree)). MatchOption c.parameter_at-in-Typed.result (o ≡ None) (λ found. IsFound c.args.terms.now o (plain found.param.now) found.logical)) (sym same) (c.parameter_at-in-Typed.ensures.found (typed k) c.is_logical.ensures)

pub parameter_at-returns-then-place-params-clause-found : goal.parameter_at-returns-then-place-params-clause-found
parameter_at-returns-then-place-params-clause-found t c = λ w h.
    let ps = c.args.params.now in
    let first = c.in_ok-first.first.now in
    at_first w (plain_all ps) c.args.path.now first c.in_ok-first.rest.now None c.in_ok-first.ensures.cases.0 (no_tree_there ps first (slice_get_past ps first c.if-place-params.true))

pub parameter_at-returns-clause-found : goal.parameter_at-returns-clause-found
parameter_at-returns-clause-found t c = λ w h.
    let ps = c.args.params.now in
    let first = c.in_ok-first.first.now in
    let p = c.index-params-place.result in
    let there = tree_there ps first p (slice_get_read ps (length ps) first p refl c.if-place-params.false c.index-params-place.is) in
    let same = at_first w (plain_all ps) c.args.path.now first c.in_ok-first.rest.now (Some (plain p)) c.in_ok-first.ensures.cases.0 there in
    subst (λ (o : Option (Where × Tree)). MatchOption c.behind.result (o ≡ None) (λ found. IsFound c.args.terms.now o (plain found.param.now) found.logical)) (sym same) (c.behind.ensures.found w h)
