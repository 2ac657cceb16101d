use Rattle.std.proofs.Common.{◌≡◌, MatchBool, subst}
use Rattle.p21_express.specs.Schema.{Derived, Entity}
use Rattle.p21_express.specs.WellFormed.{IsIn}
use Rattle.p21_rule_text.proofs.attributes.derives.Goals as goal

pub returns : goal.returns
returns c = subst (λ (u : Entity). let is = (d : Derived) × (IsIn u.derived d × (d.name ≡ c.args.name.now)) in MatchBool c.derives_in.result is (¬ is)) c.declared.ensures c.derives_in.ensures
