use Rattle.std.proofs.Common.{Bool, List, ℕ, IsTrue, false, refl, sym, subst}
use Rattle.std.proofs.lemmas.Bool.{false≢true}
use Rattle.p21_schema.specs.Place.{entity_name}
use Rattle.p21_json.specs.Where.{IsBelow}
use Rattle.p21_query.specs.Wanted.{IsMeant}
use Rattle.p21_query.proofs.AnyLemmas.{is_entity}
use Rattle.p21_query.proofs.entities.is_meant.Goals as goal

pub returns-in-Some : goal.returns-in-Some
returns-in-Some c =
    let s = c.args.schema.now in
    let k = c.args.name.now in
    let n = entity_name s c.args.entity in
    subst (λ (b : Bool). (IsTrue c.is_a.result → IsMeant s b k n) × (IsMeant s b k n → IsTrue c.is_a.result)) (sym c.if-not-subtypes.false) (
      λ t. subst (λ (m : List ℕ). IsBelow s m n) c.in-Some.ensures.1 (is_entity s c.in-Some.named _ c.in-Some.ensures.0 refl, c.is_a.ensures.0 t),
      λ h. c.is_a.ensures.1 (subst (λ (m : List ℕ). IsBelow s m n) (sym c.in-Some.ensures.1) h).1,
    )

pub returns-in-None : goal.returns-in-None
returns-in-None c =
    let s = c.args.schema.now in
    let k = c.args.name.now in
    let n = entity_name s c.args.entity in
    subst (λ (b : Bool). (IsTrue false → IsMeant s b k n) × (IsMeant s b k n → IsTrue false)) (sym c.if-not-subtypes.false) (λ f. absurd (false≢true f), λ h. absurd (c.in-None.ensures h.0))
