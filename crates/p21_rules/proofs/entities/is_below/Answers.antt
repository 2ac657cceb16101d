use Rattle.std.proofs.Common.{refl, sym, subst}
use Rattle.p21_schema.specs.Place.{entity_name}
use Rattle.p21_rules.specs.Named.{IsBelow, IsNamed}
use Rattle.p21_rules.proofs.ParameterLemmas.{is_entity}
use Rattle.p21_rules.proofs.entities.is_below.Goals as goal

pub returns-in-Some : goal.returns-in-Some
returns-in-Some c = λ k given.
    let s = c.args.schema.now in
    let n = entity_name s c.args.entity in
    let h = subst (IsNamed s k) c.in-Some.is given in
    (λ t. subst (IsBelow s n) h.1 (is_entity s c.in-Some.own _ h.0 refl, c.is_a.ensures.0 t), λ b. c.is_a.ensures.1 (subst (IsBelow s n) (sym h.1) b).1)
