use Rattle.std.proofs.Common.{ℕ, List, refl, sym, subst, ◌∙◌}
use Rattle.std.proofs.lemmas.Bool.{false≢true}
use Rattle.p21_express.specs.WellFormed.{IsIn, IsSupertype}
use Rattle.p21_tree.specs.declared.instances.Record.{Record}
use Rattle.p21_check.specs.Sets.{HasEntity}
use Rattle.p21_check.specs.Instances.{LacksAbove}
use Rattle.p21_check.proofs.AnyLemmas.{any_further, any_nowhere}
use Rattle.p21_check.proofs.ComplexLemmas.{at_index}
use Rattle.p21_check.proofs.supertypes.lacks_supertype.Goals as goal

pub known-requires : goal.known-requires
known-requires c =
    let x = c.record-item.result in
    c.requires.known x (subst (IsIn c.args.records.now) (sym c.record-item.is) (at_index c.args.records.now c.loop-record.record-index x c.loop-record-test.true))

pub returns-then-lacks_above : goal.returns-then-lacks_above
returns-then-lacks_above c =
    let s = c.args.schema.now in
    let InSet = HasEntity s c.args.set.now in
    let x = c.record-item.result in
    let among : IsIn c.args.records.now x = subst (IsIn c.args.records.now) (sym c.record-item.is) (at_index c.args.records.now c.loop-record.record-index x c.loop-record-test.true) in
    let this : LacksAbove s InSet x = subst (λ n. (m : List ℕ) × (IsSupertype s n m × ¬ (InSet m))) c.known.ensures.1 (c.lacks_above.ensures.0 c.if-lacks_above.true) in
    (λ _. (x, among, this), λ _. refl)

pub loop-record-preserved : goal.loop-record-preserved
loop-record-preserved c =
    let s = c.args.schema.now in
    let InSet = HasEntity s c.args.set.now in
    let x = c.record-item.result in
    let whole : ¬ (LacksAbove s InSet x) = λ h. false≢true (sym c.if-lacks_above.false ∙ c.lacks_above.ensures.1 (subst (λ n. (m : List ℕ) × (IsSupertype s n m × ¬ (InSet m))) (sym c.known.ensures.1) h)) in
    any_further (LacksAbove s InSet) c.args.records.now c.loop-record.record-index x c.loop-record-test.true (subst (λ (y : Record). ¬ (LacksAbove s InSet y)) c.record-item.is whole) c.loop-record.invariant

pub returns : goal.returns
returns c =
    let s = c.args.schema.now in
    (λ t. absurd (false≢true t), λ h. absurd (any_nowhere (LacksAbove s (HasEntity s c.args.set.now)) c.args.records.now c.loop-record.record-index c.loop-record-test.false c.loop-record.invariant h))
