use Rattle.std.proofs.Common.{◌≡◌, [], List, ℕ, codes, refl, subst}
use Rattle.std.proofs.lemmas.Result.{on_ok_weaker}
use Rattle.json.specs.Token as json
use Rattle.p21_express.specs.Schema.{Schema}
use Rattle.p21_schema.specs.Place.{entity_name}
use Rattle.p21_tree.specs.declared.params.Param.{Param}
use Rattle.p21_tree.specs.Plain.{plain_all}
use Rattle.p21_tree.specs.Views.{plain_instance, plain_record}
use Rattle.p21_json.specs.Spelled.{IsSpelled}
use Rattle.p21_json.specs.Rows.{AreAttributesOf}
use Rattle.p21_json.specs.Parts.{exactly, label, name}
use Rattle.p21_json.specs.Instances.{members_parts, record_parts}
use Rattle.p21_json.specs.Written.{Adds}
use Rattle.p21_json.proofs.AttributeLemmas.{attributes_at}
use Rattle.p21_json.proofs.WrittenLemmas.{adds_last, adds_ok, adds_then}
use Rattle.p21_json.proofs.line.Line.record.Goals as goal

pub returns : goal.returns
returns c =
    let s = c.args.terms.now in
    let x = c.schema-schema.result.now in
    let q = c.schema-schema.ensures in
    let i = plain_instance c.args.instance.now in
    let k = c.args.record.now.keyword.now in
    let e = c.known-entity.result in
    let os = c.attribute_count-count.ensures in
    let are = attributes_at x s c.args.instance.now.complex e k os.0 q c.known-entity.ensures.0 c.known-entity.ensures.1 os.1.0 in
    let called : entity_name s e ≡ k = subst (λ (y : Schema). entity_name y e ≡ k) q c.known-entity.ensures.1 in
    let spelled : IsSpelled c.entity.result.now k = subst (λ (n : List ℕ). IsSpelled c.entity.result.now n) called c.entity.ensures in
    let of = subst (λ (y : Schema). AreAttributesOf y c.args.instance.now.complex e os.0) q os.1.0 in
    let members = subst (λ (ps : List Param). Adds s c.begin_object.new.self c.members.new.self.out (members_parts i [] os.0 (plain_all ps))) c.as_slice.ensures (c.in_ok-members.ensures os.0 of os.1.1) in
    let one = adds_ok s (label (codes "type")) c.in_ok-key.ensures refl in
    let two = adds_ok s (name k) c.in_ok-string.ensures (c.entity.result.now, spelled, refl) in
    let three = adds_ok s (label (codes "attributes")) c.in_ok-key-2.ensures refl in
    let four = adds_ok s (exactly json.begin_object) c.in_ok-begin_object.ensures refl in
    on_ok_weaker c.end_object.result
    (λ (f : Adds s c.args.self.now.out c.end_object.new.self (record_parts i os.0 (plain_record c.args.record.now))). (record_parts i os.0 (plain_record c.args.record.now), (os.0, are, refl), f))
    (adds_last s (exactly json.end_object) c.end_object.result c.end_object.ensures refl (adds_then one (adds_then two (adds_then three (adds_then four members)))))
