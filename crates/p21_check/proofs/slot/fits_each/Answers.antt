use Rattle.std.proofs.Common.{get_or, refl, sym, ◌∙◌}
use Rattle.std.proofs.lemmas.Bool.{false≢true}
use Rattle.p21_tree.specs.Plain.{plain}
use Rattle.p21_check.specs.Sets.{HasEntity, FitsCounting}
use Rattle.p21_check.proofs.SlotLemmas.{no_declaration, resolved_at, stops_at, goes_on, all_done}
use Rattle.p21_check.proofs.slot.fits_each.Goals as goal

pub fits_counting-requires-clause-declaration : goal.fits_counting-requires-clause-declaration
fits_counting-requires-clause-declaration c =
    let r = c.requires.declarations in
    (get_or r.0 c.loop-declaration.declaration-index no_declaration, resolved_at c.args.schema.now c.args.declarations.now r.0 r.1 c.loop-declaration.declaration-index c.declaration-item.result c.loop-declaration-test.true c.declaration-item.is)

pub returns-then-not-fits_counting : goal.returns-then-not-fits_counting
returns-then-not-fits_counting c = λ ds z.
    let i = c.loop-declaration.declaration-index in
    let at = resolved_at c.args.schema.now c.args.declarations.now ds z i c.declaration-item.result c.loop-declaration-test.true c.declaration-item.is in (
      λ t. absurd (false≢true t),
      λ h. absurd (stops_at c.args.schema.now c.args.declarations.now ds z i c.loop-declaration-test.true (FitsCounting c.args.schema.now (HasEntity c.args.schema.now c.args.set.now) ds (plain c.args.param.now))
          (λ k. false≢true (sym c.if-not-fits_counting.true ∙ (c.fits_counting.ensures ds (get_or ds i no_declaration) z at).1 k)) (c.loop-declaration.invariant ds z) h),
    )

pub loop-declaration-preserved : goal.loop-declaration-preserved
loop-declaration-preserved c = λ ds z.
    let i = c.loop-declaration.declaration-index in
    let at = resolved_at c.args.schema.now c.args.declarations.now ds z i c.declaration-item.result c.loop-declaration-test.true c.declaration-item.is in
    let this = (c.fits_counting.ensures ds (get_or ds i no_declaration) z at).0 c.if-not-fits_counting.false in
    goes_on c.args.schema.now c.args.declarations.now ds z i c.loop-declaration-test.true (FitsCounting c.args.schema.now (HasEntity c.args.schema.now c.args.set.now) ds (plain c.args.param.now)) this (c.loop-declaration.invariant ds z)

pub returns : goal.returns
returns c = λ ds z. (λ _. all_done c.args.schema.now c.args.declarations.now ds z c.loop-declaration.declaration-index c.loop-declaration-test.false (FitsCounting c.args.schema.now (HasEntity c.args.schema.now c.args.set.now) ds (plain c.args.param.now)) (c.loop-declaration.invariant ds z), λ _. refl)
