use Rattle.std.proofs.Common.{◌≤◌, subst, sym, ◌∙◌}
use Rattle.std.specs.Prelude.{slice_range}
use Rattle.std.proofs.lemmas.List.{get_or_default}
use Rattle.p21_outline.specs.Rows.{RefersAt}
use Rattle.p21_outline.proofs.PartLemmas.{part_at}
use Rattle.p21_outline.proofs.columns.Columns.span.Goals as goal

pub returns-clause-order : goal.returns-clause-order
returns-clause-order c =
    let was = c.args.self.now in
    let part = part_at c.requires.references.0 was.references.items 0 was.rows.items c.args.place c.index.result.now c.requires.references.1 c.requires.within c.index.ensures in
    subst (λ n. n ≤ c.index.result.now.end) (sym c.start.ensures) part.0

pub returns-clause-inside : goal.returns-clause-inside
returns-clause-inside c =
    let was = c.args.self.now in
    (part_at c.requires.references.0 was.references.items 0 was.rows.items c.args.place c.index.result.now c.requires.references.1 c.requires.within c.index.ensures).1

pub returns-clause-refers : goal.returns-clause-refers
returns-clause-refers c s d h =
    let was = c.args.self.now in
    let row = c.index.result.now in
    let part = part_at s was.references.items 0 was.rows.items c.args.place row h c.requires.within c.index.ensures in
    subst (RefersAt s (slice_range was.references.items c.start.result row.end)) (c.index.ensures ∙ get_or_default was.rows.items c.args.place row d c.requires.within)
    (subst (λ n. RefersAt s (slice_range was.references.items n row.end) row) (sym c.start.ensures) part.2)
