use Rattle.std.proofs.Common.{sym, subst}
use Rattle.p21_check.specs.Lists.{AreListsInside}
use Rattle.p21_check.proofs.ListsLemmas.{inside_typed, inside_none, inside_other}
use Rattle.p21_check.proofs.lists.Lists.inside.Goals as goal

pub returns-in-Some : goal.returns-in-Some
returns-in-Some c =
    let s = c.args.schema.now in
    let f = c.in-Some.ensures in
    subst (λ w. AreListsInside s w c.lists_under.result c.args.keyword.now) (sym c.in-InTyped.is)
    (inside_typed s c.in-InTyped.select c.in-Some.defined c.args.keyword.now c.lists_under.result f.1.0 f.1.1 c.lists_under.ensures)

pub returns-in-None : goal.returns-in-None
returns-in-None c =
    let s = c.args.schema.now in
    subst (λ w. AreListsInside s w _ c.args.keyword.now) (sym c.in-InTyped.is) (inside_none s c.in-InTyped.select c.args.keyword.now c.in-None.ensures)

pub returns-in_default : goal.returns-in_default
returns-in_default c = inside_other c.args.schema.now c.args.self c.args.keyword.now c.in_default.not-InTyped
