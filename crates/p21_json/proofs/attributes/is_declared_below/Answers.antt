use Rattle.std.proofs.Common.{refl, sym, ◌∙◌}
use Rattle.std.proofs.lemmas.Bool.{false≢true}
use Rattle.p21_tree.specs.Views.{plain_instance}
use Rattle.p21_schema.specs.Declaration.{IsResolvedDeclaration}
use Rattle.p21_schema.specs.Place.{entity_name}
use Rattle.p21_check.specs.Sets.{IsAgainBelow}
use Rattle.p21_json.specs.Where.{IsOf}
use Rattle.p21_json.proofs.AttributeLemmas.{declared_below, zip_drop, zip_end, any_there, any_further, none_left}
use Rattle.p21_json.proofs.attributes.is_declared_below.Goals as goal

pub is_of_below-requires-clause-entity : goal.is_of_below-requires-clause-entity
is_of_below-requires-clause-entity c =
    let r = c.requires.declarations in
    (zip_drop (IsResolvedDeclaration c.args.schema.now) c.args.declarations.now r.0 c.loop-declaration.declaration-index c.declaration-item.result r.1 c.loop-declaration-test.true c.declaration-item.is).2.known

pub returns-then-is_of_below : goal.returns-then-is_of_below
returns-then-is_of_below c = λ ds h.
    let s = c.args.schema.now in
    let i = plain_instance c.args.instance.now in
    let n = entity_name s c.args.entity in
    let at = zip_drop (IsResolvedDeclaration s) c.args.declarations.now ds c.loop-declaration.declaration-index c.declaration-item.result h c.loop-declaration-test.true c.declaration-item.is in
    let here = (declared_below s i _ at.0.entity n at.2.entity).0 (c.is_of_below.ensures.0 c.if-is_of_below.true) in
    (λ _. any_there (IsAgainBelow s (IsOf s i) n) ds _ c.loop-declaration.declaration-index at.0 at.1 here, λ _. refl)

pub loop-declaration-preserved : goal.loop-declaration-preserved
loop-declaration-preserved c = λ ds h any.
    let s = c.args.schema.now in
    let i = plain_instance c.args.instance.now in
    let n = entity_name s c.args.entity in
    let at = zip_drop (IsResolvedDeclaration s) c.args.declarations.now ds c.loop-declaration.declaration-index c.declaration-item.result h c.loop-declaration-test.true c.declaration-item.is in
    any_further (IsAgainBelow s (IsOf s i) n) _ _ at.0 at.1 (λ p. false≢true (sym c.if-is_of_below.false ∙ c.is_of_below.ensures.1 ((declared_below s i _ at.0.entity n at.2.entity).1 p))) (c.loop-declaration.invariant ds h any)

pub returns : goal.returns
returns c = λ ds h.
    let s = c.args.schema.now in
    let none = zip_end (IsResolvedDeclaration s) c.args.declarations.now ds c.loop-declaration.declaration-index h c.loop-declaration-test.false in
    (λ f. absurd (false≢true f), λ any. absurd (none_left (IsAgainBelow s (IsOf s (plain_instance c.args.instance.now)) (entity_name s c.args.entity)) _ none (c.loop-declaration.invariant ds h any)))
