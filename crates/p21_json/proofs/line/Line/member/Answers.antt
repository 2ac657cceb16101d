use Rattle.std.proofs.Common.{◌≡◌, ◌≢◌, ◌↔◌, ◌∙◌, IsTrue, Some, sym, subst, take}
use Rattle.std.proofs.lemmas.Result.{on_ok_weaker}
use Rattle.p21_express.specs.WellFormed.{Origin}
use Rattle.p21_tree.specs.Tree.{derived}
use Rattle.p21_tree.specs.Plain.{plain}
use Rattle.p21_tree.specs.Views.{plain_instance}
use Rattle.p21_schema.specs.Row.{attribute_at}
use Rattle.p21_json.specs.Keys.{key_of}
use Rattle.p21_json.specs.Where.{attribute, IsLogicalAt}
use Rattle.p21_json.specs.Parts.{value_parts}
use Rattle.p21_json.specs.Written.{Adds}
use Rattle.p21_json.proofs.PlainLemmas.{derived_param}
use Rattle.p21_json.proofs.InstanceLemmas.{attribute_there, member_value}
use Rattle.p21_json.proofs.WrittenLemmas.{adds_then}
use Rattle.p21_json.proofs.line.Line.member.Goals as goal

same_some : {a b : Origin} → Some a ≡ Some b → a ≡ b
same_some e = cc

pub returns : goal.returns
returns c = λ os o a h.
    let s = c.args.terms.now in
    let i = plain_instance c.args.instance.now in
    let t = plain c.args.param.now in
    let k = key_of (take c.args.position os) o in
    let not_derived : t ≢ derived = λ e. c.in_default.not-Derived (derived_param c.args.param.now e) in
    let found = attribute_there c.schema.result.now s c.args.instance.now.complex c.args.entity c.args.position c.attribute-attribute.result c.schema.ensures c.attribute-attribute.ensures.there os a in
    let same : attribute_at s c.attribute-attribute.result ≡ o = same_some (sym found ∙ h) in
    let logical = subst (λ (x : Origin). IsTrue c.is_logical-logical.result ↔ IsLogicalAt s (attribute i x)) same c.is_logical-logical.ensures in
    on_ok_weaker c.value.result
    (λ (f : Adds s c.key.new.self.out c.value.new.self.out (value_parts (attribute i o) t)). subst (Adds s c.args.self.now.out c.value.new.self.out) (sym (member_value i k o t not_derived)) (adds_then (c.in_ok-key.ensures os o a h) f))
    (c.value.ensures (attribute i o) logical)
