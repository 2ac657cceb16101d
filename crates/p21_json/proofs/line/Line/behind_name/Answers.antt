use Rattle.std.proofs.Common.{◌++◌, ◌∷◌, [], List, codes, map, refl, subst}
use Rattle.std.proofs.lemmas.Result.{on_ok_weaker}
use Rattle.json.specs.Token as json
use Rattle.p21_tree.specs.declared.instances.Record.{Record}
use Rattle.p21_tree.specs.Views.{plain_instance, plain_record}
use Rattle.p21_json.specs.Parts.{Part, exactly, label}
use Rattle.p21_json.specs.Instances.{AreRecordsParts}
use Rattle.p21_json.specs.Written.{Adds}
use Rattle.p21_json.proofs.InstanceLemmas.{behind_complex}
use Rattle.p21_json.proofs.WrittenLemmas.{adds_last, adds_ok, adds_then}
use Rattle.p21_json.proofs.line.Line.behind_name.Goals as goal

pub returns : goal.returns
returns c =
    let s = c.args.terms.now in
    let i = plain_instance c.args.instance.now in
    let q = c.in_ok-records.ensures in
    let all = subst (λ (rs : List Record). AreRecordsParts s i (map plain_record rs) q.0) c.as_slice-records.ensures q.1 in
    let ps : List Part = label (codes "records") ∷ exactly json.begin_array ∷ (q.0 ++ exactly json.end_array ∷ []) in
    let one = adds_ok s (label (codes "records")) c.in_ok-key.ensures refl in
    let two = adds_ok s (exactly json.begin_array) c.in_ok-begin_array.ensures refl in
    on_ok_weaker c.end_array.result
    (λ (f : Adds s c.args.self.now.out c.end_array.new.self ps). (ps, behind_complex s i c.args.instance.now.complex (map plain_record c.args.instance.now.records) ps c.if-not-instance.false (q.0, all, refl), f))
    (adds_last s (exactly json.end_array) c.end_array.result c.end_array.ensures refl (adds_then one (adds_then two q.2)))
