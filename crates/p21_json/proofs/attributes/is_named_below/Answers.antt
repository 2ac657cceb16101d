use Rattle.std.proofs.Common.{List, ℕ, refl, sym, subst}
use Rattle.std.proofs.lemmas.Bool.{false≢true}
use Rattle.p21_schema.specs.Place.{entity_name}
use Rattle.p21_json.specs.Where.{IsBelow}
use Rattle.p21_json.proofs.AttributeLemmas.{is_entity}
use Rattle.p21_json.proofs.attributes.is_named_below.Goals as goal

pub returns-in-Some : goal.returns-in-Some
returns-in-Some c =
    let s = c.args.schema.now in
    let n = entity_name s c.args.entity in (
      λ t. subst (λ (m : List ℕ). IsBelow s m n) c.in-Some.ensures.1 (is_entity s c.in-Some.named _ c.in-Some.ensures.0 refl, c.is_a.ensures.0 t),
      λ h. c.is_a.ensures.1 (subst (λ (m : List ℕ). IsBelow s m n) (sym c.in-Some.ensures.1) h).1,
    )

pub returns-in-None : goal.returns-in-None
returns-in-None c = (λ f. absurd (false≢true f), λ h. absurd (c.in-None.ensures h.0))
