use Rattle.std.proofs.Common.{get_or, refl, sym, ap, ◌∙◌}
use Rattle.std.proofs.lemmas.Bool.{false≢true}
use Rattle.p21_schema.specs.declared.ids.EntityId.{EntityId}
use Rattle.p21_schema.specs.Place.{entity_name}
use Rattle.p21_check.proofs.NameLemmas.{here, further, nowhere}
use Rattle.p21_check.proofs.SetLemmas.{same_id}
use Rattle.p21_check.proofs.ComplexLemmas.{at_index, supertype_by}
use Rattle.p21_check.proofs.supertypes.is_subtype.Goals as goal

pub returns-then-eq : goal.returns-then-eq
returns-then-eq c =
    let ids = c.supertypes-supertypes.result.now in
    let d : EntityId = record { index = 0 } in
    let i = c.loop-supertype.supertype-index in
    let same = (same_id c.eq.result (get_or ids i d) c.args.other c.eq.ensures).0 c.if-eq.true in
    let up = here (entity_name c.args.schema.now) ids (entity_name c.args.schema.now c.args.other) i d c.loop-supertype-test.true (ap (entity_name c.args.schema.now) same) c.loop-supertype.invariant in
    (λ _. (supertype_by c.args.schema.now c.fits.ensures c.args.entity c.requires.entity ids c.supertypes-supertypes.ensures.named (entity_name c.args.schema.now c.args.other)).0 up, λ _. refl)

pub loop-supertype-preserved : goal.loop-supertype-preserved
loop-supertype-preserved c =
    let ids = c.supertypes-supertypes.result.now in
    let d : EntityId = record { index = 0 } in
    let i = c.loop-supertype.supertype-index in
    let known = c.supertypes-supertypes.ensures.known (get_or ids i d) (at_index ids i d c.loop-supertype-test.true) in
    further (entity_name c.args.schema.now) ids (entity_name c.args.schema.now c.args.other) i d c.loop-supertype-test.true
    (λ e. false≢true (sym c.if-eq.false ∙ (same_id c.eq.result (get_or ids i d) c.args.other c.eq.ensures).1 (c.one_id.ensures.entities (get_or ids i d) c.args.other known c.requires.other e))) c.loop-supertype.invariant

pub returns : goal.returns
returns c =
    let ids = c.supertypes-supertypes.result.now in (
      λ t. absurd (false≢true t),
      λ h. absurd (nowhere (entity_name c.args.schema.now) ids (entity_name c.args.schema.now c.args.other) c.loop-supertype.supertype-index c.loop-supertype-test.false c.loop-supertype.invariant
          ((supertype_by c.args.schema.now c.fits.ensures c.args.entity c.requires.entity ids c.supertypes-supertypes.ensures.named (entity_name c.args.schema.now c.args.other)).1 h)),
    )
