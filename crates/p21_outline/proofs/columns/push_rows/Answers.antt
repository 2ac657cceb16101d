use Rattle.std.proofs.Common.{[], ◌∷◌, ◌++◌, sym, ap, ◌∙◌, append_assoc}
use Rattle.std.specs.Vec.Iter.{into_iter_items}
use Rattle.p21_outline.proofs.RowLemmas.{one_moved}
use Rattle.p21_outline.proofs.columns.push_rows.Goals as goal

pub loop-row-preserved : goal.loop-row-preserved
loop-row-preserved c =
    let before = c.loop-row.invariant in (
      before.0 ++ c.in-Some.row ∷ [],
      append_assoc before.0 (c.in-Some.row ∷ []) (into_iter_items c.next.new.self) ∙ (ap (λ left. before.0 ++ left) (sym c.in-Some.ensures.cases.0) ∙ before.1),
      one_moved c.args.start c.args.first c.args.rows.now.items c.loop-row.rows.items c.push.new.self.items before.0 c.in-Some.row c.in_ok-behind.field-0 before.2 c.in_ok-behind.ensures c.in_ok-push.ensures.items,
    )
