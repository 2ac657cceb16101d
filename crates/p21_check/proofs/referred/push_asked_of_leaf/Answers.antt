use Rattle.p21_tree.specs.Plain.{plain}
use Rattle.p21_check.specs.Referred.{Somewhere}
use Rattle.p21_check.specs.Wanted.{Asks}
use Rattle.p21_check.proofs.PlainLemmas.{nameless}
use Rattle.p21_check.proofs.ReferredLemmas.{adds_none, nameless_asked}
use Rattle.p21_check.proofs.referred.push_asked_of_leaf.Goals as goal

pub returns-in_default : goal.returns-in_default
returns-in_default c =
    let s = c.args.schema.now in
    let p = c.args.param.now in
    adds_none s (Somewhere (Asks s c.args.wanted (plain p))) c.args.into.now.items (nameless_asked s c.args.wanted (plain p) (nameless p c.in_default.not-Ref c.in_default.not-Items c.in_default.not-Typed))
