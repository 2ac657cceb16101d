use Rattle.std.proofs.Common.{◌≡◌, ◌+◌, List, drop, refl, sym, ap, subst, ◌∙◌}
use Rattle.std.proofs.lemmas.Result.{on_ok_weaker}
use Rattle.p21_tree.specs.Tree.{Trees, items, nil, typed}
use Rattle.p21_tree.specs.Plain.{plain, plain_all}
use Rattle.p21_tree.specs.declared.params.Param.{Param}
use Rattle.p21_check.specs.Referred.{Adds, Somewhere}
use Rattle.p21_check.specs.Wanted.{Asks, AsksAmong}
use Rattle.p21_check.proofs.AsksLemmas.{nothing_among}
use Rattle.p21_check.proofs.PlainLemmas.{nameless, plain_items, plain_typed, plain_reference}
use Rattle.p21_check.proofs.ReferredLemmas.{adds_none, adds_same, adds_behind, nameless_asked, items_asked, typed_asked}
use Rattle.p21_check.proofs.WalkLemmas.{drop_here, drop_none, empty_among}
use Rattle.p21_check.proofs.referred.+push_asked.Goals as goal

pub returns-in-Ref : goal.returns-in-Ref
returns-in-Ref t c = rw (plain_reference c.in-Ref.name c.in-Ref.is) c.push_name.ensures

pub returns-then-is_nothing : goal.returns-then-is_nothing
returns-then-is_nothing t c =
    let s = c.args.schema.now in
    let p = plain c.args.param.now in
    let ts = plain_all c.in-Items.items.items in
    let inner = c.elements-of_elements.result in
    let same = items_asked s c.args.wanted inner p ts (plain_items c.in-Items.items c.in-Items.is) c.elements-of_elements.ensures in
    adds_none s (Somewhere (Asks s c.args.wanted p)) c.args.into.now.items (λ r a. nothing_among (c.is_nothing.ensures.0 c.if-is_nothing.true) ((same r).0 a).1)

pub loop-item-preserved : goal.loop-item-preserved
loop-item-preserved t c last rest =
    let s = c.args.schema.now in
    let inner = c.elements-of_elements.result in
    let xs = c.deref-item-items.result.now in
    let i = c.loop-item.item-index in
    let d = c.item-item.result in
    c.loop-item.invariant last
    (subst (λ (ts : Trees). Adds s (Somewhere (AsksAmong s inner ts)) c.loop-item.into.items last) (sym (drop_here xs i d c.loop-item-test.true c.item-item.is))
    (adds_behind s inner (plain d) (plain_all (drop (i + 1) xs)) c.loop-item.into.items c.push_asked.new.into.items last c.in_ok-push_asked-in-Items.ensures rest))

pub returns-after-loop-item : goal.returns-after-loop-item
returns-after-loop-item t c =
    let s = c.args.schema.now in
    let p = plain c.args.param.now in
    let inner = c.elements-of_elements.result in
    let xs = c.deref-item-items.result.now in
    let is : p ≡ items (plain_all xs) = plain_items c.in-Items.items c.in-Items.is ∙ ap (λ (l : List Param). items (plain_all l)) (sym c.deref-item-items.ensures.value) in
    adds_same s (Somewhere (AsksAmong s inner (plain_all xs))) (Somewhere (Asks s c.args.wanted p)) c.args.into.now.items c.loop-item.into.items
    (items_asked s c.args.wanted inner p (plain_all xs) is c.elements-of_elements.ensures)
    (c.loop-item.invariant c.loop-item.into.items
    (subst (λ (ts : Trees). Adds s (Somewhere (AsksAmong s inner ts)) c.loop-item.into.items c.loop-item.into.items) (sym (drop_none xs c.loop-item.item-index c.loop-item-test.false))
    (adds_none s (Somewhere (AsksAmong s inner nil)) c.loop-item.into.items (λ r a. empty_among a.1 refl))))

pub returns-in-Typed : goal.returns-in-Typed
returns-in-Typed t c =
    let s = c.args.schema.now in
    let p = plain c.args.param.now in
    let q = plain c.deref.result.now in
    let inner = c.inside-asked.result in
    on_ok_weaker c.push_asked-in-Typed.result
    (adds_same s (Somewhere (Asks s inner q)) (Somewhere (Asks s c.args.wanted p)) c.args.into.now.items c.push_asked-in-Typed.new.into.items
    (typed_asked s c.args.wanted inner p q c.in-Typed.keyword.now (plain_typed c.in-Typed.keyword c.in-Typed.inner c.in-Typed.is ∙ ap (λ (d : Param). typed c.in-Typed.keyword.now (plain d)) (sym c.deref.ensures)) c.inside-asked.ensures))
    c.push_asked-in-Typed.ensures

pub returns-in_default : goal.returns-in_default
returns-in_default t c =
    let s = c.args.schema.now in
    let p = c.args.param.now in
    adds_none s (Somewhere (Asks s c.args.wanted (plain p))) c.args.into.now.items (nameless_asked s c.args.wanted (plain p) (nameless p c.in_default.not-Ref c.in_default.not-Items c.in_default.not-Typed))
