use Rattle.std.proofs.Common.{get_or, refl, sym, ◌∙◌}
use Rattle.std.proofs.lemmas.Bool.{false≢true}
use Rattle.p21_check.specs.Sets.{Derives}
use Rattle.p21_rules.proofs.DeclarationLemmas.{resolved_at, found_at, further_on, none_found}
use Rattle.p21_rules.specs.Slots.{no_declaration, set_of}
use Rattle.p21_rules.proofs.slots.is_derived.Goals as goal

pub is_derived_by-requires-clause-declaration : goal.is_derived_by-requires-clause-declaration
is_derived_by-requires-clause-declaration c =
    let r = c.requires in
    (get_or r.declarations c.loop-declaration.declaration-index no_declaration, resolved_at c.args.slot.schema.now c.args.slot.declarations.now r.declarations r.resolved c.loop-declaration.declaration-index c.declaration-item.result c.loop-declaration-test.true c.declaration-item.is)

pub returns-then-is_derived_by : goal.returns-then-is_derived_by
returns-then-is_derived_by c = λ ds z.
    let i = c.loop-declaration.declaration-index in
    let x = c.declaration-item.result in
    let at = resolved_at c.args.slot.schema.now c.args.slot.declarations.now ds z i x c.loop-declaration-test.true c.declaration-item.is in
    let this = (c.is_derived_by.ensures (get_or ds i no_declaration) at).0 c.if-is_derived_by.true in
    (λ _. found_at c.args.slot.schema.now c.args.slot.declarations.now ds z i x c.loop-declaration-test.true c.declaration-item.is (Derives (set_of c.args.slot)) this (c.loop-declaration.invariant ds z), λ _. refl)

pub loop-declaration-preserved : goal.loop-declaration-preserved
loop-declaration-preserved c = λ ds z.
    let i = c.loop-declaration.declaration-index in
    let x = c.declaration-item.result in
    let at = resolved_at c.args.slot.schema.now c.args.slot.declarations.now ds z i x c.loop-declaration-test.true c.declaration-item.is in
    further_on c.args.slot.schema.now c.args.slot.declarations.now ds z i x c.loop-declaration-test.true c.declaration-item.is (Derives (set_of c.args.slot))
    (λ h. false≢true (sym c.if-is_derived_by.false ∙ (c.is_derived_by.ensures (get_or ds i no_declaration) at).1 h)) (c.loop-declaration.invariant ds z)

pub returns : goal.returns
returns c = λ ds z.
    (λ t. absurd (false≢true t), λ h. absurd (none_found c.args.slot.schema.now c.args.slot.declarations.now ds z c.loop-declaration.declaration-index c.loop-declaration-test.false (Derives (set_of c.args.slot)) (c.loop-declaration.invariant ds z) h))
