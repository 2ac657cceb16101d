use Rattle.std.proofs.Common.{◌≡◌, ◌∙◌, ◌++◌, ◌∷◌, List, ℕ, Some, ap, slice_get, true, subst, sym, take}
use Rattle.p21_express.specs.Schema.{Schema}
use Rattle.p21_express.specs.WellFormed.{Origin}
use Rattle.p21_schema.specs.Row.{attribute_at}
use Rattle.p21_json.specs.Keys.{full_name, has_name, key_of}
use Rattle.p21_json.specs.Rows.{AreAttributesOf}
use Rattle.p21_json.specs.Spelled.{IsSpelled}
use Rattle.p21_query.proofs.KeyLemmas.{key_full, spelled_full}
use Rattle.p21_query.proofs.attributes.is_called.Goals as goal

same_some : {a b : Origin} → Some a ≡ Some b → a ≡ b
same_some e = cc

pub returns-then-is_repeated : goal.returns-then-is_repeated
returns-then-is_repeated c = λ os o are here.
    let s = c.args.terms.now in
    let p = c.args.position in
    let found = attribute_at s c.attribute-attribute.result in
    let entity = c.entity.result.now in
    let name = c.attribute.result.now in
    let text = c.as_bytes-declaring.result.now ++ 46 ∷ c.as_bytes-own.result.now in
    let are' : AreAttributesOf c.schema.result.now c.args.complex c.args.entity os = subst (λ (x : Schema). AreAttributesOf x c.args.complex c.args.entity os) (sym c.schema.ensures) are in
    let there : slice_get os p ≡ Some found = subst (λ (x : Schema). slice_get os p ≡ Some (attribute_at x c.attribute-attribute.result)) c.schema.ensures (c.attribute-attribute.ensures.there os are') in
    let same : found ≡ o = same_some (sym there ∙ here) in
    let joined : text ≡ entity ++ 46 ∷ name = ap (λ (l : List ℕ). l ++ 46 ∷ c.as_bytes-own.result.now) c.as_bytes-declaring.ensures.value ∙ ap (λ (l : List ℕ). entity ++ 46 ∷ l) c.as_bytes-own.ensures.value in
    let of = subst (IsSpelled entity) c.declaring.ensures.declares c.entity.ensures in
    let full : IsSpelled text (full_name found) = spelled_full entity name text found.entity found.name of c.attribute.ensures joined in
    let repeated : has_name (take p os) o.name ≡ true = sym (c.is_repeated.ensures os o are here) ∙ c.if-is_repeated.true in
    let key : IsSpelled text (key_of (take p os) o) = subst (IsSpelled text) (ap full_name same ∙ sym (key_full (take p os) o repeated)) full in
    (text, (key, c.is_joined.ensures))
