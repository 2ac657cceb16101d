use Rattle.std.proofs.Common.{◌≡◌, ◌+◌, ◌<◌, ◌≤◌, ◌++◌, ◌∷◌, [], List, ℕ, length, get_or, map, take, sym, ap, ◌∙◌}
use Rattle.std.specs.Prelude.{Vec}
use Rattle.std.proofs.lemmas.List.{append-nil, length-map, get_or-map, map-append, take_all}
use Rattle.p21_express.specs.Schema.{Schema, Attribute}
use Rattle.p21_express.specs.WellFormed.{Origin, new_explicit}
use Rattle.p21_express.specs.Plain.{plain_entity, plain_attribute}
use Rattle.p21_schema.specs.Place.{IsEntityOf, entity_name}
use Rattle.p21_json.specs.declared.keys.DeclaredName.{DeclaredName}
use Rattle.p21_json.specs.Keys.{AreByEntities, origin_of}
use Rattle.p21_json.proofs.DeclaredLemmas.{is_again, is_new, names_more, names_same, push_one}
use Rattle.p21_json.proofs.keys.push_own.Goals as goal
use Rattle.p21_json.proofs.keys.push_own.Goals.{then-is_none+in_ok-push, else-is_none}

abbrev called : List ℕ → List ℕ → Origin
called n m = record { entity = n; name = m }

same_origin : (a b c d : List ℕ) → a ≡ c → b ≡ d → called a b ≡ called c d
same_origin a b c d e f = λ j. record { entity = e j; name = f j }

by_more : (s : Schema) (ds : List DeclaredName) (d : DeclaredName) → IsEntityOf s d.entity → AreByEntities s ds → AreByEntities s (ds ++ d ∷ [])
by_more s [] d h k = (h, tt)
by_more s (x ∷ ds) d h k = (k.0, by_more s ds d h k.1)

pub loop-attribute-init : goal.loop-attribute-init
loop-attribute-init c = ((λ s h k. k), λ s named. sym (append-nil (map (origin_of s) c.args.all.now.items)))

pub loop-attribute-preserved : goal.loop-attribute-preserved
loop-attribute-preserved c =
    let items = c.args.declaration.now.attributes.items in
    let xs = (plain_entity c.args.declaration.now).attributes in
    let n = c.args.declaration.now.name.items in
    let k = c.loop-attribute.attribute-index in
    let item = c.attribute-item.result in
    let less : k < length items = rw (← c.deref-attribute-items.ensures.value) c.loop-attribute-test.true in
    let less' : k < length xs = rw (length-map items plain_attribute) less in
    let is : item ≡ get_or items k item = rw (← c.deref-attribute-items.ensures.value) c.attribute-item.is in
    let at : get_or xs k (plain_attribute item) ≡ plain_attribute item = get_or-map plain_attribute items k item (plain_attribute item) less ∙ ap plain_attribute (sym is) in
    let inv = c.loop-attribute.invariant in
    elim c.if-is_none.branch [
      | then-is_none+in_ok-push w ↦
          let names = names_more xs k (plain_attribute item) less' at (is_new (λ (n : Vec ℕ _). n.items) item.of c.is_none.result c.is_none.ensures w.if-is_none.true) in
          let d : DeclaredName = record { entity = c.args.entity; name = w.as_slice.result } in
          rw w.all-is (
            (λ s h k. rw w.in_ok-push.ensures.items (by_more s c.loop-attribute.all.items d h (inv.0 s h k))),
            λ s named.
                let f = origin_of s in
                let one : f d ≡ called n item.name.items = same_origin (entity_name s c.args.entity) w.as_slice.result.now n item.name.items named w.as_slice.ensures.value in
                ap (map f) w.in_ok-push.ensures.items ∙ map-append f c.loop-attribute.all.items (d ∷ []) ∙ push_one (called n) (map f c.args.all.now.items) (map f c.loop-attribute.all.items) (new_explicit (take k xs)) (new_explicit (take (k + 1) xs)) item.name.items (f d) (inv.1 s named) names one,
          )
      | else-is_none w ↦
          let some = is_again (λ (n : Vec ℕ _). n.items) item.of c.is_none.result c.is_none.ensures w.if-is_none.false in
          rw w.all-is (inv.0, λ s named. inv.1 s named ∙ ap (λ (ms : List (List ℕ)). map (origin_of s) c.args.all.now.items ++ map (called n) ms) (sym (names_same xs k (plain_attribute item) some.0 less' at some.1)))
    ]

pub returns : goal.returns
returns c =
    let inv = c.loop-attribute.invariant in
    let xs = (plain_entity c.args.declaration.now).attributes in
    let items = c.args.declaration.now.attributes.items in
    let ended : length xs ≤ c.loop-attribute.attribute-index = rw (length-map items plain_attribute) (rw (← c.deref-attribute-items.ensures.value) c.loop-attribute-test.false) in
    record {
      by = inv.0;
      same = λ s named. inv.1 s named ∙ ap (λ (as' : List Attribute). map (origin_of s) c.args.all.now.items ++ map (called c.args.declaration.now.name.items) (new_explicit as')) (take_all c.loop-attribute.attribute-index xs ended);
    }
