use Rattle.std.proofs.Common.{◌<◌, ◌≤◌, [], ℕ, List, Bor, get_or, min, length, refl, arith}
use Rattle.std.proofs.lemmas.Bool.{false≢true}
use Rattle.p21_json.specs.Where.{header}
use Rattle.p21_json.specs.Parts.{label}
use Rattle.p21_json.proofs.HeaderLemmas.{labelled_end, labelled_step}
use Rattle.p21_json.proofs.WrittenLemmas.{adds_ok, adds_then, ended, further}
use Rattle.p21_json.proofs.line.Line.labelled.Goals as goal

pub loop-position-preserved : goal.loop-position-preserved
loop-position-preserved c =
    let ks = c.args.keys.now in
    let ps = c.args.params.now in
    let p = c.loop-position.position in
    let d : Bor (List ℕ) = record { ref_ptr = (0, 0); now = [] } in
    let of_keys : p < length ks = omega arith in
    let of_params : p < length ps = omega arith in
    let one = adds_ok c.args.terms.now (label (get_or ks p d).now) c.in_ok-key.ensures refl in
    let two = c.in_ok-value.ensures header (λ f. absurd (false≢true f), λ h. absurd h) in
    further c.loop-position.invariant (labelled_step ks ps p d c.index-params-position.result of_keys of_params c.index-params-position.is) (adds_then one two)

pub returns : goal.returns
returns c =
    let low : min (length c.args.keys.now) (length c.args.params.now) ≤ c.loop-position.position = omega arith in
    ended c.loop-position.invariant (labelled_end c.args.keys.now c.args.params.now c.loop-position.position low)
