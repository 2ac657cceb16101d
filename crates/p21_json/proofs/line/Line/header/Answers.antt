use Rattle.std.proofs.Common.{codes, refl}
use Rattle.json.specs.Token as json
use Rattle.p21_tree.specs.Views.{plain_entity}
use Rattle.p21_json.specs.Parts.{exactly, label}
use Rattle.p21_json.proofs.HeaderLemmas.{header_ends}
use Rattle.p21_json.proofs.WrittenLemmas.{adds_last, adds_ok, adds_then}
use Rattle.p21_json.proofs.line.Line.header.Goals as goal

pub returns : goal.returns
returns c =
    let s = c.args.terms.now in
    let one = adds_ok s (exactly json.begin_object) c.in_ok-begin_object.ensures refl in
    let two = adds_ok s (label (codes "header")) c.in_ok-key.ensures refl in
    let three = adds_ok s (exactly json.begin_object) c.in_ok-begin_object-2.ensures refl in
    let four = adds_ok s (exactly json.end_object) c.in_ok-end_object.ensures refl in
    let inner = adds_then c.in_ok-file_description.ensures (adds_then c.in_ok-file_name.ensures (adds_then c.in_ok-file_schema.ensures four)) in
    let all = adds_last s (exactly json.end_object) c.end_object-2.result c.end_object-2.ensures refl (adds_then one (adds_then two (adds_then three inner))) in
    header_ends s c.args.self.now.out c.end_object-2.new.self c.end_object-2.result (plain_entity c.args.description.now) (plain_entity c.args.name.now) (plain_entity c.args.schema.now) all
