use Rattle.std.proofs.Common.{List, refl, subst}
use Rattle.json.specs.Token as json
use Rattle.p21_tree.specs.declared.params.Param.{Param}
use Rattle.p21_tree.specs.Plain.{plain_all}
use Rattle.p21_json.specs.Parts.{exactly, label}
use Rattle.p21_json.specs.Header.{labelled_parts}
use Rattle.p21_json.specs.Written.{Adds}
use Rattle.p21_json.proofs.HeaderLemmas.{words}
use Rattle.p21_json.proofs.WrittenLemmas.{adds_last, adds_ok, adds_then}
use Rattle.p21_json.proofs.line.Line.entity.Goals as goal

pub returns : goal.returns
returns c =
    let s = c.args.terms.now in
    let one = adds_ok s (label c.args.word.now) c.in_ok-key.ensures refl in
    let two = adds_ok s (exactly json.begin_object) c.in_ok-begin_object.ensures refl in
    let three = subst (λ (ps : List Param). Adds s c.begin_object.new.self c.labelled.new.self.out (labelled_parts (words c.args.keys.now) (plain_all ps))) c.as_slice.ensures c.in_ok-labelled.ensures in
    adds_last s (exactly json.end_object) c.end_object.result c.end_object.ensures refl (adds_then one (adds_then two three))
