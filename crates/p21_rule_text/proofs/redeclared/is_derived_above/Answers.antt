use Rattle.std.proofs.Common.{get_or, sym, ◌∙◌}
use Rattle.std.proofs.lemmas.Bool.{false≢true}
use Rattle.p21_schema.specs.Row.{attribute_at}
use Rattle.p21_rule_text.specs.Resolve.{DerivesAbove}
use Rattle.p21_rule_text.proofs.DeclarationLemmas.{below, ended, has, has_none, no_declaration, none_more, resolved_at}
use Rattle.p21_rule_text.proofs.redeclared.is_derived_above.Goals as goal

pub derives_above-requires-clause-declaration : goal.derives_above-requires-clause-declaration
derives_above-requires-clause-declaration c =
    let ds = c.declarations-declaration-items.ensures in
    (get_or ds.0 c.loop-declaration.declaration-index no_declaration, resolved_at c.args.schema.now c.declarations-declaration-items.result.now ds.0 ds.1.1 c.loop-declaration.declaration-index c.declaration-item.result c.loop-declaration-test.true c.declaration-item.is)

pub returns-then-derives_above : goal.returns-then-derives_above
returns-then-derives_above c =
    let s = c.args.schema.now in
    let ds = c.declarations-declaration-items.ensures in
    let i = c.loop-declaration.declaration-index in
    let at = resolved_at s c.declarations-declaration-items.result.now ds.0 ds.1.1 i c.declaration-item.result c.loop-declaration-test.true c.declaration-item.is in
    has s (attribute_at s c.args.attribute) (DerivesAbove c.args.schema.now c.args.entity) ds.0 ds.1.0 i (below s c.declarations-declaration-items.result.now ds.0 ds.1.1 i c.declaration-item.result c.loop-declaration-test.true c.declaration-item.is) ((c.derives_above.ensures (get_or ds.0 i no_declaration) at).0 c.if-derives_above.true)

pub loop-declaration-preserved : goal.loop-declaration-preserved
loop-declaration-preserved c = λ ds z.
    let s = c.args.schema.now in
    let i = c.loop-declaration.declaration-index in
    let at = resolved_at s c.declarations-declaration-items.result.now ds z i c.declaration-item.result c.loop-declaration-test.true c.declaration-item.is in
    none_more (DerivesAbove c.args.schema.now c.args.entity) ds i (below s c.declarations-declaration-items.result.now ds z i c.declaration-item.result c.loop-declaration-test.true c.declaration-item.is) (λ h. false≢true (sym c.if-derives_above.false ∙ (c.derives_above.ensures (get_or ds i no_declaration) at).1 h)) (c.loop-declaration.invariant ds z)

pub returns : goal.returns
returns c =
    let s = c.args.schema.now in
    let ds = c.declarations-declaration-items.ensures in
    has_none s (attribute_at s c.args.attribute) (DerivesAbove c.args.schema.now c.args.entity) ds.0 ds.1.0 c.loop-declaration.declaration-index (ended s c.declarations-declaration-items.result.now ds.0 ds.1.1 c.loop-declaration.declaration-index c.loop-declaration-test.false) (c.loop-declaration.invariant ds.0 ds.1.1)
