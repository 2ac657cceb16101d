use Rattle.std.proofs.Common.{List}
use Rattle.p21_express.specs.WellFormed.{Origin}
use Rattle.p21_tree.specs.Plain.{plain_all}
use Rattle.p21_check.specs.Asked.{AreFaultless}
use Rattle.p21_check.specs.Attributes.{AreAttributes}
use Rattle.p21_check.specs.Sets.{HasEntity}
use Rattle.p21_check.proofs.references.entry.Given as goal

-- the parameters before this one have no fault
abbrev pub invariant-loop-attr : goal.invariant-loop-attr
invariant-loop-attr g l = (os : List Origin) → AreAttributes l.schema l.complex l.one.keyword.now os → AreFaultless l.schema (g.J.NameJudge.named l.judge) (HasEntity l.schema l.set) os (plain_all l.one.params) l.attr
