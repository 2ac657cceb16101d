use Rattle.std.proofs.Common.{refl, sym, ◌∙◌}
use Rattle.std.proofs.lemmas.Bool.{false≢true}
use Rattle.p21_tree.specs.Views.{plain_instance}
use Rattle.p21_schema.specs.Declaration.{IsResolvedDeclaration}
use Rattle.p21_json.specs.Where.{DeclaresLogical}
use Rattle.p21_json.proofs.AttributeLemmas.{zip_drop, zip_end, any_there, any_further, none_left}
use Rattle.p21_json.proofs.attributes.declare_logical.Goals as goal

pub declares_logical-requires-clause-declaration : goal.declares_logical-requires-clause-declaration
declares_logical-requires-clause-declaration c =
    let s = c.args.terms.now in
    let at = zip_drop (IsResolvedDeclaration s) c.args.declarations.now c.requires.0 c.loop-declaration.declaration-index c.declaration-item.result c.requires.1 c.loop-declaration-test.true c.declaration-item.is in
    (at.0, at.2)

pub returns-then-declares_logical : goal.returns-then-declares_logical
returns-then-declares_logical c = λ ds h.
    let s = c.args.terms.now in
    let at = zip_drop (IsResolvedDeclaration s) c.args.declarations.now ds c.loop-declaration.declaration-index c.declaration-item.result h c.loop-declaration-test.true c.declaration-item.is in
    (λ _. any_there (DeclaresLogical s (plain_instance c.args.instance.now) ds) ds _ c.loop-declaration.declaration-index at.0 at.1 ((c.declares_logical.ensures ds at.0 h at.2).0 c.if-declares_logical.true), λ _. refl)

pub loop-declaration-preserved : goal.loop-declaration-preserved
loop-declaration-preserved c = λ ds h any.
    let s = c.args.terms.now in
    let at = zip_drop (IsResolvedDeclaration s) c.args.declarations.now ds c.loop-declaration.declaration-index c.declaration-item.result h c.loop-declaration-test.true c.declaration-item.is in
    any_further (DeclaresLogical s (plain_instance c.args.instance.now) ds) _ _ at.0 at.1 (λ p. false≢true (sym c.if-declares_logical.false ∙ (c.declares_logical.ensures ds at.0 h at.2).1 p)) (c.loop-declaration.invariant ds h any)

pub returns : goal.returns
returns c = λ ds h.
    let s = c.args.terms.now in
    let none = zip_end (IsResolvedDeclaration s) c.args.declarations.now ds c.loop-declaration.declaration-index h c.loop-declaration-test.false in
    (λ f. absurd (false≢true f), λ any. absurd (none_left (DeclaresLogical s (plain_instance c.args.instance.now) ds) _ none (c.loop-declaration.invariant ds h any)))
