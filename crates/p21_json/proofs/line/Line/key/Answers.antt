use Rattle.std.proofs.Common.{◌≡◌, ◌∷◌, ◌∙◌, [], List, ℕ, OnOk, Some, ap, refl, sym, subst, take}
use Rattle.p21_express.specs.WellFormed.{Origin}
use Rattle.p21_schema.specs.Row.{attribute_at}
use Rattle.p21_json.specs.Keys.{full_name, key_of}
use Rattle.p21_json.specs.Parts.{key}
use Rattle.p21_json.specs.Spelled.{IsSpelled}
use Rattle.p21_json.specs.Written.{Adds}
use Rattle.p21_json.proofs.InstanceLemmas.{attribute_there}
use Rattle.p21_json.proofs.KeyLemmas.{full_key, plain_key}
use Rattle.p21_json.proofs.WrittenLemmas.{adds_only}
use Rattle.p21_json.proofs.line.Line.key.Goals as goal

same_some : {a b : Origin} → Some a ≡ Some b → a ≡ b
same_some e = cc

pub returns-then-is_repeated : goal.returns-then-is_repeated
returns-then-is_repeated c = λ os o a h.
    let s = c.args.terms.now in
    let found = attribute_there c.schema.result.now s c.args.complex c.args.entity c.args.position c.attribute-attribute.result c.schema.ensures c.attribute-attribute.ensures.there os a in
    let same : attribute_at s c.attribute-attribute.result ≡ o = same_some (sym found ∙ h) in
    let full : key_of (take c.args.position os) o ≡ full_name (attribute_at s c.attribute-attribute.result) = full_key (take c.args.position os) o (sym (c.is_repeated.ensures os o a h) ∙ c.if-is_repeated.true) ∙ ap full_name (sym same) in
    subst (λ (k : List ℕ). OnOk c.full_key.result (Adds s c.args.self.now.out c.full_key.new.self.out (key k ∷ []))) (sym full) c.full_key.ensures

pub returns : goal.returns
returns c = λ os o a h.
    let s = c.args.terms.now in
    let found = attribute_there c.schema.result.now s c.args.complex c.args.entity c.args.position c.attribute-attribute.result c.schema.ensures c.attribute-attribute.ensures.there os a in
    let same : attribute_at s c.attribute-attribute.result ≡ o = same_some (sym found ∙ h) in
    let plain : key_of (take c.args.position os) o ≡ (attribute_at s c.attribute-attribute.result).name = plain_key (take c.args.position os) o (sym (c.is_repeated.ensures os o a h) ∙ c.if-is_repeated.false) ∙ ap (λ (x : Origin). x.name) (sym same) in
    adds_only s (key (key_of (take c.args.position os) o)) c.key.result c.key.ensures (c.attribute.result.now, subst (IsSpelled c.attribute.result.now) (sym plain) c.attribute.ensures, refl)
