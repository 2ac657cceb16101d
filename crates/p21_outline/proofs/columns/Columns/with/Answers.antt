use Rattle.std.proofs.Common.{◌++◌, length, sym, subst, ◌∙◌}
use Rattle.std.specs.Prelude.{All}
use Rattle.p21_outline.specs.declared.columns.Row.{Row}
use Rattle.p21_outline.specs.Rows.{IsWithin}
use Rattle.p21_outline.proofs.RowLemmas.{moved_by, within_joined}
use Rattle.p21_outline.proofs.ColumnLemmas.{gathered}
use Rattle.p21_outline.proofs.columns.Columns.with.Goals as goal

pub invariant_of-result : goal.invariant_of-result
invariant_of-result c =
    let was = c.args.self in
    let more = c.args.more in
    let rows = moved_by was.rows.items more.rows.items c.push_rows.new.rows.items c.in_ok-start.start c.in_ok-first.first (length was.references.items) (length was.wholes.items)
    (c.in_ok-start.ensures ∙ (c.len.ensures ∙ was.references.ok.0)) (c.in_ok-first.ensures ∙ (c.len-2.ensures ∙ was.wholes.ok.0)) c.in_ok-push_rows.ensures in
    record {
      within = subst (λ ws. All (λ (r : Row). IsWithin (length ws) r.held) c.push_rows.new.rows.items) (sym c.in_ok-append-2.ensures.items)
          (subst (λ rs. All (λ (r : Row). IsWithin (length (was.wholes.items ++ more.wholes.items)) r.held) rs) (sym rows)
          (within_joined was.wholes.items more.wholes.items (length was.references.items) was.rows.items more.rows.items was.within more.within));
    }

pub returns : goal.returns
returns c =
    let was = c.args.self in
    let more = c.args.more in
    gathered was more _ (record {
      rows = moved_by was.rows.items more.rows.items c.push_rows.new.rows.items c.in_ok-start.start c.in_ok-first.first (length was.references.items) (length was.wholes.items)
          (c.in_ok-start.ensures ∙ (c.len.ensures ∙ was.references.ok.0)) (c.in_ok-first.ensures ∙ (c.len-2.ensures ∙ was.wholes.ok.0)) c.in_ok-push_rows.ensures;
      references_ = c.in_ok-append.ensures.items;
      wholes_ = c.in_ok-append-2.ensures.items;
      written_ = c.saturating_add.ensures;
    })
