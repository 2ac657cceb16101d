use Rattle.std.proofs.Common.{◌<◌, ◌^◌, IfOk, ap, length, map, subst, ◌∙◌, arith}
use Rattle.std.specs.Fork.{slice_chunk}
use Rattle.p21_counts.specs.Counts.{keywords_of}
use Rattle.p21_counts.specs.Tally.{CountsOf}
use Rattle.p21_join.specs.Model.{plain_instances}
use Rattle.p21_outline.specs.Rows.{row_instance}
use Rattle.p21_outline.proofs.TallyLemmas.{cut_is, part_instances}
use Rattle.p21_outline.proofs.tally.keywords_of_part.Goals as goal

pub returns : goal.returns
returns c =
    let columns = c.args.counted.outline.now.columns in
    let ws = columns.wholes.items in
    let rows = c.as_slice-rows.result.now in
    let small : length rows < 2 ^ 64 = omega arith in
    let cut = cut_is rows c.split_at.result.1.now c.split_at-2.result.0.now c.args.size c.args.number c.saturating_mul.result c.min-start.result c.min.result
    c.saturating_mul.ensures c.min-start.ensures small c.split_at.ensures.back c.min.ensures c.split_at-2.ensures.front in
    let instances = ap (map (row_instance ws)) (cut ∙ ap (λ l. slice_chunk l c.args.size c.args.number) c.as_slice-rows.ensures.value) ∙ part_instances ws columns.rows.items c.args.size c.args.number in
    subst (λ is. IfOk c.keywords_of_rows.result (λ keywords. CountsOf keywords (keywords_of (plain_instances is))))
    (ap (λ l. map (row_instance l) c.split_at-2.result.0.now) c.as_slice.ensures.value ∙ instances) c.keywords_of_rows.ensures
