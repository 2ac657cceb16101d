use Rattle.std.proofs.Common.{map, subst, take}
use Rattle.p21_counts.specs.Counts.{keywords_of}
use Rattle.p21_counts.specs.Tally.{CountsOf}
use Rattle.p21_join.specs.Model.{plain_instances}
use Rattle.p21_outline.specs.Rows.{row_instance}
use Rattle.p21_outline.proofs.TallyLemmas.{row_more}
use Rattle.p21_outline.proofs.tally.keywords_of_rows.Goals as goal

pub loop-row-preserved : goal.loop-row-preserved
loop-row-preserved c =
    let ws = c.args.wholes.now in
    let rows = c.args.rows.now in
    let before = keywords_of (plain_instances (map (row_instance ws) (take c.loop-row.row-index rows))) in
    subst (CountsOf c.count_row.new.keywords) (row_more ws rows c.loop-row.row-index c.row-item.result c.loop-row-test.true c.row-item.is)
    (c.in_ok-count_row.ensures before c.loop-row.invariant)
