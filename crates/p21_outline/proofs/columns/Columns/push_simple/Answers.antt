use Rattle.std.proofs.Common.{length, ap, refl, sym, ◌∙◌, arith}
use Rattle.std.proofs.lemmas.List.{append-nil, length-append}
use Rattle.p21_outline.specs.declared.columns.Held.TheVariants as held
use Rattle.p21_outline.specs.declared.columns.Row.{Row}
use Rattle.p21_outline.proofs.RowLemmas.{row_put}
use Rattle.p21_outline.proofs.columns.Columns.push_simple.Goals as goal

pub returns-clause-ok : goal.returns-clause-ok
returns-clause-ok c =
    let was = c.args.self.now in
    let added = c.in_ok-extend_from_slice.ensures.items in
    let long = ap length added ∙ length-append was.references.items c.args.references.now in
    let row : Row = record { held = held.Simple c.in_ok-entity.entity; end = c.in_ok-end.end; gone = c.args.gone } in (
      row,
      ap held.Simple (c.in_ok-entity.ensures ∙ c.place.ensures),
      refl,
      record {
        rows = row_put was.rows.items c.reserve.new.self.items c.push_reserved.new.self.items row c.reserve.ensures.items c.push_reserved.ensures.items;
        references_ = added;
        wholes_ = sym (append-nil was.wholes.items);
        written_ = c.saturating_add-self.ensures;
        end = omega arith;
      },
    )
