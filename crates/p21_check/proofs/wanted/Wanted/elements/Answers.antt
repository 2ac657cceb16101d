use Rattle.std.proofs.Common.{sym, subst}
use Rattle.p21_check.specs.Wanted.{IsAsked, IsAskedOfElements}
use Rattle.p21_check.proofs.AsksLemmas.{elements_asked, no_elements}
use Rattle.p21_check.proofs.wanted.Wanted.elements.Goals as goal

pub returns-in-Elements : goal.returns-in-Elements
returns-in-Elements c =
    let s = c.args.schema.now in
    let known = subst (IsAsked s) c.in-Elements.is c.requires in
    subst (λ w. IsAskedOfElements s w c.wanted_by.result) (sym c.in-Elements.is)
    (elements_asked s c.in-Elements.texpr known.0 c.wanted_by.result known.1 (c.wanted_by.ensures known.0 known.1))

pub returns-in_default : goal.returns-in_default
returns-in_default c = no_elements c.args.schema.now c.args.self c.in_default.not-Elements
