use Rattle.std.proofs.Common.{◌≡◌, ◌++◌, length, refl, ap, sym, subst, ◌∙◌}
use Rattle.std.proofs.lemmas.List.{length-map}
use Rattle.p21_outline.specs.Columns.{instances_in}
use Rattle.p21_outline.specs.Placed.{FindsRepeated, IsPlaced}
use Rattle.p21_outline.specs.Rows.{row_instance}
use Rattle.p21_outline.proofs.outline.Outline.extend.Goals as goal

pub invariant_of-result : goal.invariant_of-result
invariant_of-result c =
    let was = c.args.self in
    let is = instances_in was.columns in
    let js = instances_in c.args.list.columns in
    let u = c.place_names.new.places in
    let count : c.len.result ≡ length is = c.len.ensures ∙ (was.columns.rows.ok.0 ∙ sym (length-map was.columns.rows.items (row_instance was.columns.wholes.items))) in
    let found = subst (FindsRepeated u is js) c.in-None.is (c.in_ok-place_names.ensures is js count c.names.ensures (was.placed, was.own_names)) in
    let more = c.in_ok-columns-in-None.ensures.instances ∙ ap (λ m. is ++ instances_in m) c.into_columns.ensures in
    let placed = subst (IsPlaced u) (sym more) found in
    record { placed = placed.0; own_names = placed.1 }

pub returns : goal.returns
returns c =
    let was = c.args.self in
    let is = instances_in was.columns in
    let js = instances_in c.args.list.columns in
    let u = c.place_names.new.places in
    let count : c.len.result ≡ length is = c.len.ensures ∙ (was.columns.rows.ok.0 ∙ sym (length-map was.columns.rows.items (row_instance was.columns.wholes.items))) in
    let found = subst (FindsRepeated u is js) c.in-Some.is (c.in_ok-place_names.ensures is js count c.names.ensures (was.placed, was.own_names)) in
    (refl, record { within = found.0; own_names = found.1.1; names_are = c.of_places-names.ensures.instances _ found.1.0; repeated = found.2 })
