use Rattle.std.proofs.Common.{◌≡◌, ℕ, List, ◌*◌, ◌-◌, ◌^◌, ◌<◌, IfOk, length, map, take, drop, min, ap, subst, sym, ◌∙◌, arith}
use Rattle.std.proofs.lemmas.List.{drop_min, take_min}
use Rattle.std.specs.Fork.{slice_chunk}
use Rattle.std.specs.List.{AllByRecursion}
use Rattle.p21_tree.specs.declared.instances.RawInstance.{RawInstance}
use Rattle.p21_tree.specs.Views.{plain_instance}
use Rattle.p21_json.specs.Instances.{AreKnown}
use Rattle.p21_json.specs.Lines.{AreLines}
use Rattle.p21_export.proofs.ModelLemmas.{known_chunk}
use Rattle.p21_export.proofs.model.lines_of_part.Goals as goal

cut_is : (xs rest part : List RawInstance) (size number product start len : ℕ) → product ≡ min (number * size) (2 ^ 64 - 1) → start ≡ min product (length xs) → length xs < 2 ^ 64
    → rest ≡ drop start xs → len ≡ min size (length rest) → part ≡ take len rest → part ≡ slice_chunk xs size number
cut_is xs rest part size number product start len p e f g h k =
    let at : start ≡ min (number * size) (length xs) = omega arith in
    let behind : rest ≡ drop (number * size) xs = g ∙ ap (λ n. drop n xs) at ∙ drop_min (number * size) xs in
    k ∙ ap (λ n. take n rest) h ∙ take_min size rest ∙ ap (take size) behind

pub write_lines-requires : goal.write_lines-requires
write_lines-requires c =
    let xs = c.args.instances.now in
    let small : length xs < 2 ^ 64 = omega arith in
    let is = cut_is xs c.split_at.result.1.now c.split_at-2.result.0.now c.args.size c.args.number c.saturating_mul.result c.min-start.result c.min.result
    c.saturating_mul.ensures c.min-start.ensures small c.split_at.ensures.back c.min.ensures c.split_at-2.ensures.front in
    subst (λ (part : List RawInstance). AllByRecursion (λ i. AreKnown c.args.terms.now i.records) (map plain_instance part)) (sym is) (known_chunk c.args.terms.now xs c.args.size c.args.number c.requires)

pub returns : goal.returns
returns c =
    let xs = c.args.instances.now in
    let small : length xs < 2 ^ 64 = omega arith in
    let is = cut_is xs c.split_at.result.1.now c.split_at-2.result.0.now c.args.size c.args.number c.saturating_mul.result c.min-start.result c.min.result
    c.saturating_mul.ensures c.min-start.ensures small c.split_at.ensures.back c.min.ensures c.split_at-2.ensures.front in
    subst (λ (part : List RawInstance). IfOk c.write_lines.result (λ text. AreLines c.args.terms.now (map plain_instance part) text.items)) is c.write_lines.ensures
