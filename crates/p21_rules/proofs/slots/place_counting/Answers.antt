use Rattle.std.proofs.Common.{get_or, sym, subst, ◌∙◌}
use Rattle.std.proofs.lemmas.Bool.{false≢true}
use Rattle.p21_check.specs.Sets.{CountsAmong}
use Rattle.p21_schema.specs.Declaration.{IsResolvedDeclaration}
use Rattle.p21_schema.specs.Place.{IsEntityOf}
use Rattle.p21_schema.specs.declared.declarations.Declaration.{Declaration as Coded}
use Rattle.p21_rules.specs.Slots.{no_declaration, set_of}
use Rattle.p21_rules.proofs.DeclarationLemmas.{below, resolved_at, further_on, none_found}
use Rattle.p21_rules.proofs.slots.place_counting.Goals as goal

pub counts-requires-clause-entity : goal.counts-requires-clause-entity
counts-requires-clause-entity c =
    let r = c.requires in
    let s = c.args.slot.schema.now in
    subst (λ (u : Coded). IsEntityOf s u.entity) c.index-slot-place.is (resolved_at s c.args.slot.declarations.now r.declarations r.resolved c.loop-place.place c.index-slot-place.result c.loop-place-test.true c.index-slot-place.is).known

pub returns-then-counts : goal.returns-then-counts
returns-then-counts c = λ ds z.
    let s = c.args.slot.schema.now in
    let cs = c.args.slot.declarations.now in
    let i = c.loop-place.place in
    let x = c.index-slot-place.result in
    let at = subst (λ (u : Coded). IsResolvedDeclaration s u (get_or ds i no_declaration)) c.index-slot-place.is (resolved_at s cs ds z i x c.loop-place-test.true c.index-slot-place.is) in
    (below s cs ds z i x c.loop-place-test.true c.index-slot-place.is, (c.counts.ensures ds (get_or ds i no_declaration) z at.entity).0 c.if-counts.true)

pub loop-place-preserved : goal.loop-place-preserved
loop-place-preserved c = λ ds z.
    let s = c.args.slot.schema.now in
    let cs = c.args.slot.declarations.now in
    let i = c.loop-place.place in
    let x = c.index-slot-place.result in
    let at = subst (λ (u : Coded). IsResolvedDeclaration s u (get_or ds i no_declaration)) c.index-slot-place.is (resolved_at s cs ds z i x c.loop-place-test.true c.index-slot-place.is) in
    further_on s cs ds z i x c.loop-place-test.true c.index-slot-place.is (CountsAmong s (set_of c.args.slot) ds) (λ h. false≢true (sym c.if-counts.false ∙ (c.counts.ensures ds (get_or ds i no_declaration) z at.entity).1 h)) (c.loop-place.invariant ds z)

pub returns : goal.returns
returns c = λ ds z. none_found c.args.slot.schema.now c.args.slot.declarations.now ds z c.loop-place.place c.loop-place-test.false (CountsAmong c.args.slot.schema.now (set_of c.args.slot) ds) (c.loop-place.invariant ds z)
