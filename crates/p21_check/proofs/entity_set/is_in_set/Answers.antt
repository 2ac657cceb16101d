use Rattle.std.proofs.Common.{◌↔◌, sym, subst, IsTrue}
use Rattle.p21_schema.specs.Place.{entity_name}
use Rattle.p21_check.specs.declared.entity_set.EntitySet.{EntitySet}
use Rattle.p21_check.specs.Sets.{HasEntity}
use Rattle.p21_check.proofs.SetLemmas.{is_entity}
use Rattle.p21_check.proofs.entity_set.is_in_set.Goals as goal

pub returns-in-Complex : goal.returns-in-Complex
returns-in-Complex c =
    subst (λ (u : EntitySet). IsTrue c.is_named.result ↔ HasEntity c.args.schema.now u (entity_name c.args.schema.now c.args.entity)) (sym c.in-Complex.is)
    (λ t. (c.is_named.ensures.0 t, is_entity c.args.schema.now c.args.entity c.requires.entity), λ h. c.is_named.ensures.1 h.0)
