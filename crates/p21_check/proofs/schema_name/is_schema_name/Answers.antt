use Rattle.std.proofs.Common.{◌≡◌, ◌≢◌, [], length, ap, sym, ◌∙◌}
use Rattle.std.specs.Prelude.{◌==◌}
use Rattle.std.proofs.lemmas.Bool.{false≢true}
use Rattle.p21_text.specs.StringItems.{items_left}
use Rattle.p21_check.proofs.HeaderLemmas.{decided, empty, nameless}
use Rattle.p21_check.proofs.schema_name.is_schema_name.Goals as goal

pub returns-then-not-is_empty : goal.returns-then-not-is_empty
returns-then-not-is_empty c =
    let found = items_left c.items-written.result in
    let some : c.args.name.now ≢ [] = λ e. false≢true (sym c.if-not-is_empty.true ∙ (c.is_empty.ensures ∙ ap (λ xs. length xs == 0) e)) in
    (found, c.items-written.ensures, decided c.spells.result found c.args.name.now some c.spells.ensures)

pub returns-else-not-is_empty : goal.returns-else-not-is_empty
returns-else-not-is_empty c =
    let found = items_left c.items-written.result in
    let none : c.args.name.now ≡ [] = empty c.args.name.now (sym c.is_empty.ensures ∙ c.if-not-is_empty.false) in
    (found, c.items-written.ensures, rw c.if-not-is_empty.false (rw none (nameless found)))
