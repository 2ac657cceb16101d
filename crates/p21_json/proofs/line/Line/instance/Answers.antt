use Rattle.std.proofs.Common.{◌++◌, ◌∷◌, [], List, codes, refl}
use Rattle.std.proofs.lemmas.Result.{on_ok_weaker}
use Rattle.json.specs.Token as json
use Rattle.p21_json.specs.Parts.{Part, decimal_part, exactly, label}
use Rattle.p21_json.specs.Written.{Adds}
use Rattle.p21_json.proofs.WrittenLemmas.{adds_last, adds_ok, adds_then}
use Rattle.p21_json.proofs.line.Line.instance.Goals as goal

pub returns : goal.returns
returns c =
    let s = c.args.terms.now in
    let q = c.in_ok-behind_name.ensures in
    let ps : List Part = exactly json.begin_object ∷ label (codes "id") ∷ decimal_part c.args.instance.now.name ∷ (q.0 ++ exactly json.end_object ∷ []) in
    let one = adds_ok s (exactly json.begin_object) c.in_ok-begin_object.ensures refl in
    let two = adds_ok s (label (codes "id")) c.in_ok-key.ensures refl in
    let three = adds_ok s (decimal_part c.args.instance.now.name) c.in_ok-u64.ensures refl in
    on_ok_weaker c.end_object.result
    (λ (f : Adds s c.args.self.now.out c.end_object.new.self ps). (ps, (q.0, q.1, refl), f))
    (adds_last s (exactly json.end_object) c.end_object.result c.end_object.ensures refl (adds_then one (adds_then two (adds_then three q.2))))
