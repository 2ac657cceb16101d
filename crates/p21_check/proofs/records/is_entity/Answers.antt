use Rattle.std.proofs.Common.{refl, subst}
use Rattle.p21_express.specs.WellFormed.{IsEntity}
use Rattle.p21_check.proofs.SetLemmas.{is_entity}
use Rattle.p21_check.proofs.records.is_entity.Goals as goal

pub returns-in-Some : goal.returns-in-Some
returns-in-Some c = let k = c.in-Some.ensures in (λ _. subst (IsEntity c.args.schema.now) k.1 (is_entity c.args.schema.now c.in-Some.field-0 k.0), λ _. refl)
