use Rattle.std.proofs.Common.{refl, sym, subst, ◌∙◌}
use Rattle.std.proofs.lemmas.Bool.{false≢true}
use Rattle.p21_express.specs.WellFormed.{IsIn, IsSupertype}
use Rattle.p21_tree.specs.declared.instances.Record.{Record}
use Rattle.p21_schema.specs.Place.{entity_name}
use Rattle.p21_check.specs.Instances.{IsSubtypeRecord}
use Rattle.p21_check.proofs.AnyLemmas.{any_further}
use Rattle.p21_check.proofs.ComplexLemmas.{at_index}
use Rattle.p21_check.proofs.supertypes.has_subtype.Goals as goal

pub known-requires : goal.known-requires
known-requires c =
    let x = c.record-item.result in
    c.requires.known x (subst (IsIn c.args.records.now) (sym c.record-item.is) (at_index c.args.records.now c.loop-record.record-index x c.loop-record-test.true))

pub returns-then-is_subtype : goal.returns-then-is_subtype
returns-then-is_subtype c =
    let x = c.record-item.result in
    let among : IsIn c.args.records.now x = subst (IsIn c.args.records.now) (sym c.record-item.is) (at_index c.args.records.now c.loop-record.record-index x c.loop-record-test.true) in
    let this : (IsSubtypeRecord c.args.schema.now (entity_name c.args.schema.now c.args.entity)) x = subst (λ n. IsSupertype c.args.schema.now n (entity_name c.args.schema.now c.args.entity)) c.known.ensures.1 (c.is_subtype.ensures.0 c.if-is_subtype.true) in
    (λ _. (x, among, this), λ _. refl)

pub loop-record-preserved : goal.loop-record-preserved
loop-record-preserved c =
    let x = c.record-item.result in
    let unfit : ¬ ((IsSubtypeRecord c.args.schema.now (entity_name c.args.schema.now c.args.entity)) x) = λ h. false≢true (sym c.if-is_subtype.false ∙ c.is_subtype.ensures.1 (subst (λ n. IsSupertype c.args.schema.now n (entity_name c.args.schema.now c.args.entity)) (sym c.known.ensures.1) h)) in
    any_further (IsSubtypeRecord c.args.schema.now (entity_name c.args.schema.now c.args.entity)) c.args.records.now c.loop-record.record-index x c.loop-record-test.true (subst (λ (y : Record). ¬ ((IsSubtypeRecord c.args.schema.now (entity_name c.args.schema.now c.args.entity)) y)) c.record-item.is unfit) c.loop-record.invariant
