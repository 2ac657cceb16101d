use Rattle.std.proofs.Common.{get_or, refl, sym, ◌∙◌}
use Rattle.std.proofs.lemmas.Bool.{false≢true}
use Rattle.p21_schema.specs.declared.ids.EntityId.{EntityId}
use Rattle.p21_schema.specs.Place.{entity_name}
use Rattle.p21_check.specs.Sets.{HasEntity}
use Rattle.p21_check.proofs.AnyLemmas.{any_further, any_nowhere}
use Rattle.p21_check.proofs.ComplexLemmas.{at_index, lacks_by}
use Rattle.p21_check.proofs.supertypes.lacks_above.Goals as goal

pub is_in_set-requires-clause-entity : goal.is_in_set-requires-clause-entity
is_in_set-requires-clause-entity c =
    let ids = c.supertypes-supertypes.result.now in
    let d : EntityId = record { index = 0 } in
    c.supertypes-supertypes.ensures.known (get_or ids c.loop-supertype.supertype-index d) (at_index ids c.loop-supertype.supertype-index d c.loop-supertype-test.true)

pub returns-then-not-is_in_set : goal.returns-then-not-is_in_set
returns-then-not-is_in_set c =
    let s = c.args.schema.now in
    let ids = c.supertypes-supertypes.result.now in
    let d : EntityId = record { index = 0 } in
    let e = get_or ids c.loop-supertype.supertype-index d in
    let lacking : ¬ (HasEntity s c.args.set.now (entity_name s e)) = λ h. false≢true (sym c.if-not-is_in_set.true ∙ c.is_in_set.ensures.1 h) in
    (λ _. (lacks_by s c.fits.ensures c.args.entity c.requires.entity ids c.supertypes-supertypes.ensures.named (λ m. ¬ (HasEntity s c.args.set.now m))).0 (e, at_index ids c.loop-supertype.supertype-index d c.loop-supertype-test.true, lacking), λ _. refl)

pub loop-supertype-preserved : goal.loop-supertype-preserved
loop-supertype-preserved c =
    let s = c.args.schema.now in
    let ids = c.supertypes-supertypes.result.now in
    let d : EntityId = record { index = 0 } in
    any_further (λ (e : EntityId). ¬ (HasEntity s c.args.set.now (entity_name s e))) ids c.loop-supertype.supertype-index d c.loop-supertype-test.true (λ h. h (c.is_in_set.ensures.0 c.if-not-is_in_set.false)) c.loop-supertype.invariant

pub returns : goal.returns
returns c =
    let s = c.args.schema.now in
    let ids = c.supertypes-supertypes.result.now in (
      λ t. absurd (false≢true t),
      λ h. absurd (any_nowhere (λ (e : EntityId). ¬ (HasEntity s c.args.set.now (entity_name s e))) ids c.loop-supertype.supertype-index c.loop-supertype-test.false c.loop-supertype.invariant
          ((lacks_by s c.fits.ensures c.args.entity c.requires.entity ids c.supertypes-supertypes.ensures.named (λ m. ¬ (HasEntity s c.args.set.now m))).1 h)),
    )
