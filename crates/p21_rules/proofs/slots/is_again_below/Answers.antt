use Rattle.std.proofs.Common.{List, ℕ, refl, sym, subst, ◌∙◌}
use Rattle.std.proofs.lemmas.Bool.{false≢true}
use Rattle.p21_check.specs.Sets.{IsAgainBelow}
use Rattle.p21_rules.proofs.DeclarationLemmas.{resolved_at, found_at, further_on, none_found}
use Rattle.p21_express.specs.WellFormed.{IsAncestor}
use Rattle.p21_schema.specs.Place.{entity_name}
use Rattle.p21_rules.specs.Slots.{set_of}
use Rattle.p21_rules.proofs.slots.is_again_below.Goals as goal

pub is_in_below-requires-clause-entity : goal.is_in_below-requires-clause-entity
is_in_below-requires-clause-entity c =
    let r = c.requires.slot in
    (resolved_at c.args.slot.schema.now c.args.slot.declarations.now r.declarations r.resolved c.loop-declaration.declaration-index c.declaration-item.result c.loop-declaration-test.true c.declaration-item.is).known

pub returns-then-is_in_below : goal.returns-then-is_in_below
returns-then-is_in_below c = λ ds z.
    let i = c.loop-declaration.declaration-index in
    let x = c.declaration-item.result in
    let at = resolved_at c.args.slot.schema.now c.args.slot.declarations.now ds z i x c.loop-declaration-test.true c.declaration-item.is in
    let this = subst (λ (n : List ℕ). set_of c.args.slot n × IsAncestor c.args.slot.schema.now n (entity_name c.args.slot.schema.now c.args.entity)) at.entity (c.is_in_below.ensures.0 c.if-is_in_below.true) in
    (λ _. found_at c.args.slot.schema.now c.args.slot.declarations.now ds z i x c.loop-declaration-test.true c.declaration-item.is (IsAgainBelow c.args.slot.schema.now (set_of c.args.slot) (entity_name c.args.slot.schema.now c.args.entity)) this (c.loop-declaration.invariant ds z), λ _. refl)

pub loop-declaration-preserved : goal.loop-declaration-preserved
loop-declaration-preserved c = λ ds z.
    let i = c.loop-declaration.declaration-index in
    let x = c.declaration-item.result in
    let at = resolved_at c.args.slot.schema.now c.args.slot.declarations.now ds z i x c.loop-declaration-test.true c.declaration-item.is in
    further_on c.args.slot.schema.now c.args.slot.declarations.now ds z i x c.loop-declaration-test.true c.declaration-item.is (IsAgainBelow c.args.slot.schema.now (set_of c.args.slot) (entity_name c.args.slot.schema.now c.args.entity))
    (λ h. false≢true (sym c.if-is_in_below.false ∙ c.is_in_below.ensures.1 (subst (λ (n : List ℕ). set_of c.args.slot n × IsAncestor c.args.slot.schema.now n (entity_name c.args.slot.schema.now c.args.entity)) (sym at.entity) h))) (c.loop-declaration.invariant ds z)

pub returns : goal.returns
returns c = λ ds z.
    (λ t. absurd (false≢true t), λ h. absurd (none_found c.args.slot.schema.now c.args.slot.declarations.now ds z c.loop-declaration.declaration-index c.loop-declaration-test.false (IsAgainBelow c.args.slot.schema.now (set_of c.args.slot) (entity_name c.args.slot.schema.now c.args.entity)) (c.loop-declaration.invariant ds z) h))
