use Rattle.std.proofs.Common.{List, sym, subst}
use Rattle.p21_tree.specs.Tree.{reference}
use Rattle.p21_check.specs.declared.referred.Reference.{Reference}
use Rattle.p21_check.specs.Referred.{Adds, Somewhere}
use Rattle.p21_check.specs.Wanted.{Asks}
use Rattle.p21_check.proofs.ReferredLemmas.{adds_one, name_asked}
use Rattle.p21_check.proofs.referred.push_name.Goals as goal

pub returns : goal.returns
returns c =
    let s = c.args.schema.now in
    let w = c.args.wanted in
    let these = Somewhere (Asks s w (reference c.args.name)) in
    let one : Reference = record { name = c.args.name; wanted = c.in-Some.wanted } in
    subst (λ (l : List Reference). Adds s these c.args.into.now.items l) (sym c.in_ok-push.ensures.ok)
    (adds_one s these c.args.into.now.items one (record { wanted = w; asked_ = c.requires; number = c.in-Some.ensures }) (name_asked s w one c.requires c.in-Some.ensures))
