use Rattle.std.proofs.Common.{◌≡◌, true, get_or, sym, ◌∙◌}
use Rattle.std.proofs.lemmas.Bool.{false≢true}
use Rattle.p21_schema.specs.Row.{attribute_at}
use Rattle.p21_schema.specs.Declaration.{is_explicit}
use Rattle.p21_schema.specs.Place.{entity_name}
use Rattle.p21_rule_text.proofs.DeclarationLemmas.{below, ended, has, has_none, no_declaration, none_more, resolved_at}
use Rattle.p21_rule_text.proofs.redeclared.is_declared_in.Goals as goal

pub is_explicit_by-requires-clause-declaration : goal.is_explicit_by-requires-clause-declaration
is_explicit_by-requires-clause-declaration c =
    let ds = c.declarations-declaration-items.ensures in
    (get_or ds.0 c.loop-declaration.declaration-index no_declaration, resolved_at c.args.schema.now c.declarations-declaration-items.result.now ds.0 ds.1.1 c.loop-declaration.declaration-index c.declaration-item.result c.loop-declaration-test.true c.declaration-item.is)

pub returns-then-is_explicit_by : goal.returns-then-is_explicit_by
returns-then-is_explicit_by c =
    let s = c.args.schema.now in
    let ds = c.declarations-declaration-items.ensures in
    let i = c.loop-declaration.declaration-index in
    let at = resolved_at s c.declarations-declaration-items.result.now ds.0 ds.1.1 i c.declaration-item.result c.loop-declaration-test.true c.declaration-item.is in
    has s (attribute_at s c.args.attribute) (λ d. (d.entity ≡ entity_name c.args.schema.now c.args.entity) × (is_explicit d.form ≡ true)) ds.0 ds.1.0 i (below s c.declarations-declaration-items.result.now ds.0 ds.1.1 i c.declaration-item.result c.loop-declaration-test.true c.declaration-item.is) ((c.is_explicit_by.ensures (get_or ds.0 i no_declaration) at).0 c.if-is_explicit_by.true)

pub loop-declaration-preserved : goal.loop-declaration-preserved
loop-declaration-preserved c = λ ds z.
    let s = c.args.schema.now in
    let i = c.loop-declaration.declaration-index in
    let at = resolved_at s c.declarations-declaration-items.result.now ds z i c.declaration-item.result c.loop-declaration-test.true c.declaration-item.is in
    none_more (λ d. (d.entity ≡ entity_name c.args.schema.now c.args.entity) × (is_explicit d.form ≡ true)) ds i (below s c.declarations-declaration-items.result.now ds z i c.declaration-item.result c.loop-declaration-test.true c.declaration-item.is) (λ h. false≢true (sym c.if-is_explicit_by.false ∙ (c.is_explicit_by.ensures (get_or ds i no_declaration) at).1 h)) (c.loop-declaration.invariant ds z)

pub returns : goal.returns
returns c =
    let s = c.args.schema.now in
    let ds = c.declarations-declaration-items.ensures in
    has_none s (attribute_at s c.args.attribute) (λ d. (d.entity ≡ entity_name c.args.schema.now c.args.entity) × (is_explicit d.form ≡ true)) ds.0 ds.1.0 c.loop-declaration.declaration-index (ended s c.declarations-declaration-items.result.now ds.0 ds.1.1 c.loop-declaration.declaration-index c.loop-declaration-test.false) (c.loop-declaration.invariant ds.0 ds.1.1)
