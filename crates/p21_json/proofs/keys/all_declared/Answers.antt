use Rattle.std.proofs.Common.{◌≡◌, ◌++◌, ◌<◌, ◌≤◌, ◌∙◌, ℕ, List, ap, get_or, length, map, subst, sym, take}
use Rattle.std.proofs.lemmas.List.{get_or-map, length-map, take_all}
use Rattle.p21_express.specs.Schema.{Schema, Entity}
use Rattle.p21_express.specs.Plain.{plain_entity}
use Rattle.p21_express.specs.WellFormed.{Origin}
use Rattle.p21_schema.specs.Place.{entity_name, no_entity}
use Rattle.p21_schema.specs.Row.{attributes_of, own_attributes}
use Rattle.p21_json.proofs.DeclaredLemmas.{attributes_next}
use Rattle.p21_json.proofs.keys.all_declared.Goals as goal

pub entity_at-requires : goal.entity_at-requires
entity_at-requires c =
    let items = c.declared.result.now.entities.items in
    let all : c.args.schema.now.entities ≡ map plain_entity items = ap (λ (s : Schema). s.entities) c.declared.ensures.1 in
    let less : c.loop-place.place < length items = subst (λ l. c.loop-place.place < length l) c.as_slice-entities.ensures.value c.loop-place-test.true in
    subst (λ (es : List Entity). c.loop-place.place < length es) (sym all) (rw (length-map items plain_entity) less)

pub loop-place-preserved : goal.loop-place-preserved
loop-place-preserved c =
    let s = c.args.schema.now in
    let items = c.declared.result.now.entities.items in
    let k = c.loop-place.place in
    let x = c.index-entities-place.result in
    let e = c.entity_at.result in
    let all : s.entities ≡ map plain_entity items = ap (λ (s : Schema). s.entities) c.declared.ensures.1 in
    let less : k < length items = subst (λ l. k < length l) c.as_slice-entities.ensures.value c.loop-place-test.true in
    let within : k < length s.entities = subst (λ (es : List Entity). k < length es) (sym all) (rw (length-map items plain_entity) less) in
    let is : x ≡ get_or items k x = subst (λ l. x ≡ get_or l k x) c.as_slice-entities.ensures.value c.index-entities-place.is in
    let at : get_or s.entities k no_entity ≡ plain_entity x = ap (λ (es : List Entity). get_or es k no_entity) all ∙ get_or-map plain_entity items k x no_entity less ∙ ap plain_entity (sym is) in
    let named : entity_name s e ≡ (plain_entity x).name = ap (λ (n : ℕ). (get_or s.entities n no_entity).name) c.entity_at.ensures.1 ∙ ap (λ (y : Entity). y.name) at in
    let inv = c.loop-place.invariant in
    let more = c.in_ok-push_own.ensures.same s named in (
      more ∙ ap (λ (os : List Origin). os ++ own_attributes (plain_entity x)) inv.0 ∙ ap (λ (y : Entity). attributes_of (take k s.entities) ++ own_attributes y) (sym at) ∙ sym (attributes_next s.entities k within),
      c.in_ok-push_own.ensures.by s c.entity_at.ensures.0 inv.1,
    )

pub returns : goal.returns
returns c =
    let s = c.args.schema.now in
    let items = c.declared.result.now.entities.items in
    let all : s.entities ≡ map plain_entity items = ap (λ (s : Schema). s.entities) c.declared.ensures.1 in
    let ended : length items ≤ c.loop-place.place = subst (λ l. length l ≤ c.loop-place.place) c.as_slice-entities.ensures.value c.loop-place-test.false in
    let whole : length s.entities ≤ c.loop-place.place = subst (λ (es : List Entity). length es ≤ c.loop-place.place) (sym all) (rw (length-map items plain_entity) ended) in
    record { same = c.loop-place.invariant.0 ∙ ap attributes_of (take_all c.loop-place.place s.entities whole); by = c.loop-place.invariant.1 }
