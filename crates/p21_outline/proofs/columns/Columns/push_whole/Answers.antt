use Rattle.std.proofs.Common.{ap, sym, ◌∙◌}
use Rattle.std.proofs.lemmas.List.{append-nil}
use Rattle.p21_outline.specs.declared.columns.Held.TheVariants as held
use Rattle.p21_outline.specs.declared.columns.Row.{Row}
use Rattle.p21_outline.proofs.RowLemmas.{row_put}
use Rattle.p21_outline.proofs.columns.Columns.push_whole.Goals as goal

pub returns-clause-ok : goal.returns-clause-ok
returns-clause-ok c =
    let was = c.args.self.now in
    let row : Row = record { held = held.Whole c.in_ok-place.place; end = c.in_ok-end.end; gone = c.of-gone.result } in (
      row,
      ap held.Whole (c.in_ok-place.ensures ∙ (c.len.ensures ∙ was.wholes.ok.0)),
      record {
        rows = row_put was.rows.items c.reserve.new.self.items c.push_reserved.new.self.items row c.reserve.ensures.items c.push_reserved.ensures.items;
        references_ = sym (append-nil was.references.items);
        wholes_ = c.in_ok-push.ensures.items;
        written_ = c.saturating_add-self.ensures;
        end = c.in_ok-end.ensures ∙ (c.len-2.ensures ∙ was.references.ok.0);
      },
    )
