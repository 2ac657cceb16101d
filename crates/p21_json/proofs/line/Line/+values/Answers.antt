use Rattle.std.proofs.Common.{◌≡◌, ◌+◌, ◌≤◌, ◌∙◌, List, ℕ, ◌∷◌, OnOk, codes, drop, refl, sym, ap, subst, arith}
use Rattle.std.proofs.lemmas.List.{drop_more, drop_all}
use Rattle.json.specs.Token as json
use Rattle.p21_tree.specs.declared.params.Param.{Param}
use Rattle.p21_tree.specs.Tree.{Tree}
use Rattle.p21_tree.specs.Tree as tree
use Rattle.p21_tree.specs.Plain.{plain, plain_all}
use Rattle.p21_tree.specs.Bodies.{HasBodies, AllHaveBodies}
use Rattle.p21_json.specs.Spelled.{IsSpelled}
use Rattle.p21_json.specs.Where.{typed}
use Rattle.p21_json.specs.Parts.{exactly, name, label, value_parts, values_parts}
use Rattle.p21_json.specs.Written.{Adds}
use Rattle.p21_json.proofs.PlainLemmas.{plain_enumeration, plain_items, items_have, tree_size, trees_size, element_size}
use Rattle.p21_json.proofs.WrittenLemmas.{adds_last, adds_ok, adds_then, further, ended}
use Rattle.p21_json.proofs.line.Line.+values.Goals as goal

pub value-list-requires : goal.value-list-requires
value-list-requires t c =
    let is = plain_items c.in-Items.items c.in-Items.is in
    let long : tree_size (plain c.args.param.now) ≡ 1 + trees_size (plain_all c.deref.result.now) = ap tree_size is ∙ ap (λ l. 1 + trees_size (plain_all l)) (sym c.deref.ensures.value) in
    (omega arith, subst AllHaveBodies (sym c.deref.ensures.value) (items_have c.in-Items.items.items (subst HasBodies is c.requires)))

pub value-returns-in-Enumeration : goal.value-returns-in-Enumeration
value-returns-in-Enumeration t c = λ w h.
    subst (λ (u : Tree). OnOk c.item.result (Adds c.args.terms.now c.args.self.now.out c.item.new.self.out (value_parts w u))) (sym (plain_enumeration _ c.in-Enumeration.is)) (c.item.ensures c.args.terms.now w h)

pub value-returns-in-Items : goal.value-returns-in-Items
value-returns-in-Items t c = λ w h.
    let is = plain_items c.in-Items.items c.in-Items.is ∙ ap (λ l. tree.items (plain_all l)) (sym c.deref.ensures.value) in
    subst (λ (u : Tree). OnOk c.list.result (Adds c.args.terms.now c.args.self.now.out c.list.new.self.out (value_parts w u))) (sym is) (c.list.ensures w h)

pub list-value-requires : goal.list-value-requires
list-value-requires t c =
    let size = element_size c.args.params.now c.loop-param.param-index c.param-item.result c.loop-param-test.true in
    let less : 1 + tree_size (plain c.param-item.result) ≤ trees_size (plain_all c.args.params.now) = subst (λ (p : Param). 1 + tree_size (plain p) ≤ trees_size (plain_all c.args.params.now)) (sym c.param-item.is) size in
    let body : HasBodies (plain c.param-item.result) = subst (λ (p : Param). HasBodies (plain p)) (sym c.param-item.is) (c.requires c.loop-param.param-index c.param-item.result c.loop-param-test.true) in
    (omega arith, body)

pub list-loop-param-preserved : goal.list-loop-param-preserved
list-loop-param-preserved t c = λ w h.
    let ps = c.args.params.now in
    let i = c.loop-param.param-index in
    let p = c.param-item.result in
    let here : drop i ps ≡ p ∷ drop (i + 1) ps = drop_more ps i p c.loop-param-test.true ∙ ap (λ (q : Param). q ∷ drop (i + 1) ps) (sym c.param-item.is) in
    further (c.loop-param.invariant w h) (ap (λ l. values_parts w (plain_all l)) here) (c.in_ok-value.ensures w h)

pub list-returns : goal.list-returns
list-returns t c = λ w h.
    let ps = c.args.params.now in
    let none = ap (λ l. values_parts w (plain_all l)) (drop_all c.loop-param.param-index ps c.loop-param-test.false) in
    let first = adds_ok c.args.terms.now (exactly json.begin_array) c.in_ok-begin_array.ensures refl in
    adds_last c.args.terms.now (exactly json.end_array) c.end_array.result c.end_array.ensures refl (adds_then first (ended (c.loop-param.invariant w h) none))

pub typed-returns : goal.typed-returns
typed-returns t c =
    let s = c.args.terms.now in
    let text = c.as_str.result.now in
    let spelled : IsSpelled text c.args.keyword.now = subst (λ (x : List ℕ). IsSpelled x c.args.keyword.now) (sym c.as_str.ensures.value) c.in_ok-write_type.ensures in
    let one = adds_ok s (exactly json.begin_object) c.in_ok-begin_object.ensures refl in
    let two = adds_ok s (label (codes "type")) c.in_ok-key.ensures refl in
    let three = adds_ok s (name c.args.keyword.now) c.in_ok-string.ensures (text, spelled, refl) in
    let four = adds_ok s (label (codes "value")) c.in_ok-key-2.ensures refl in
    let five = c.in_ok-value.ensures (typed c.args.keyword.now) c.is_logical.ensures in
    adds_last s (exactly json.end_object) c.end_object.result c.end_object.ensures refl (adds_then one (adds_then two (adds_then three (adds_then four five))))
