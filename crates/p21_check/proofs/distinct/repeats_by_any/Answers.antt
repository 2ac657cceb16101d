use Rattle.std.proofs.Common.{get_or, refl, sym, ◌∙◌}
use Rattle.std.proofs.lemmas.Bool.{false≢true}
use Rattle.p21_tree.specs.Plain.{plain}
use Rattle.p21_check.specs.Sets.{HasEntity, RepeatsCounting}
use Rattle.p21_check.proofs.SlotLemmas.{no_declaration, resolved_at, found_at, further_on, none_found}
use Rattle.p21_check.proofs.distinct.repeats_by_any.Goals as goal

pub repeats_counting-requires-clause-declaration : goal.repeats_counting-requires-clause-declaration
repeats_counting-requires-clause-declaration c =
    let r = c.requires.declarations in
    (get_or r.0 c.loop-declaration.declaration-index no_declaration, resolved_at c.args.schema.now c.args.declarations.now r.0 r.1 c.loop-declaration.declaration-index c.declaration-item.result c.loop-declaration-test.true c.declaration-item.is)

pub returns-then-repeats_counting : goal.returns-then-repeats_counting
returns-then-repeats_counting c = λ ds z.
    let i = c.loop-declaration.declaration-index in
    let x = c.declaration-item.result in
    let at = resolved_at c.args.schema.now c.args.declarations.now ds z i x c.loop-declaration-test.true c.declaration-item.is in
    let this = (c.repeats_counting.ensures ds (get_or ds i no_declaration) z at).0 c.if-repeats_counting.true in
    (λ _. found_at c.args.schema.now c.args.declarations.now ds z i x c.loop-declaration-test.true c.declaration-item.is (RepeatsCounting c.args.schema.now (HasEntity c.args.schema.now c.args.set.now) ds (plain c.args.param.now)) this (c.loop-declaration.invariant ds z), λ _. refl)

pub loop-declaration-preserved : goal.loop-declaration-preserved
loop-declaration-preserved c = λ ds z.
    let i = c.loop-declaration.declaration-index in
    let x = c.declaration-item.result in
    let at = resolved_at c.args.schema.now c.args.declarations.now ds z i x c.loop-declaration-test.true c.declaration-item.is in
    further_on c.args.schema.now c.args.declarations.now ds z i x c.loop-declaration-test.true c.declaration-item.is (RepeatsCounting c.args.schema.now (HasEntity c.args.schema.now c.args.set.now) ds (plain c.args.param.now))
    (λ h. false≢true (sym c.if-repeats_counting.false ∙ (c.repeats_counting.ensures ds (get_or ds i no_declaration) z at).1 h)) (c.loop-declaration.invariant ds z)

pub returns : goal.returns
returns c = λ ds z.
    (λ t. absurd (false≢true t), λ h. absurd (none_found c.args.schema.now c.args.declarations.now ds z c.loop-declaration.declaration-index c.loop-declaration-test.false (RepeatsCounting c.args.schema.now (HasEntity c.args.schema.now c.args.set.now) ds (plain c.args.param.now)) (c.loop-declaration.invariant ds z) h))
