use Rattle.std.proofs.Common.{sym, subst}
use Rattle.p21_check.specs.Lists.{AreKnownLists, AreListsOfElements}
use Rattle.p21_check.proofs.ListsLemmas.{elements_here, no_elements}
use Rattle.p21_check.proofs.lists.Lists.of_elements.Goals as goal

pub returns-in-Here : goal.returns-in-Here
returns-in-Here c =
    let s = c.args.schema.now in
    let known = subst (AreKnownLists s) c.in-Here.is c.requires in
    subst (λ w. AreListsOfElements s w c.lists_of.result) (sym c.in-Here.is)
    (elements_here s c.in-Here.unique c.in-Here.item known.0 c.lists_of.result known.1 (c.lists_of.ensures known.0 known.1))

pub returns-in_default : goal.returns-in_default
returns-in_default c = no_elements c.args.schema.now c.args.self c.in_default.not-Here
