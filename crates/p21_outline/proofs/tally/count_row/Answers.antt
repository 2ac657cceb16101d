use Rattle.std.proofs.lemmas.Result.{on_ok_weaker}
use Rattle.std.proofs.Common.{◌++◌, ap, subst, sym, ◌∙◌}
use Rattle.p21_tree.specs.declared.instances.RawInstance.{RawInstance}
use Rattle.p21_counts.specs.Tally.{CountsOf}
use Rattle.p21_outline.specs.Rows.{IsHeld}
use Rattle.p21_outline.proofs.TallyLemmas.{whole_words}
use Rattle.p21_outline.proofs.tally.count_row.Goals as goal

pub returns-in-Whole : goal.returns-in-Whole
returns-in-Whole c ks h =
    let ws = c.args.wholes.now in
    let row = c.args.row.now in
    let whole = c.index-wholes-place.result in
    let new = c.count_records.new.keywords in
    let held_is = subst (IsHeld c.args.schema.now ws row.gone.value) c.in-Whole.is c.requires in
    let same = whole_words ws row c.in-Whole.place whole c.as_slice.result.now c.in-Whole.is held_is.0 c.index-wholes-place.is (c.as_slice.ensures ∙ ap (λ (i : RawInstance). i.records) (sym c.index-wholes-place.is)) in
    on_ok_weaker c.count_records.result
    (subst (λ l. CountsOf new (ks ++ l)) same) (c.count_records.ensures ks h)
