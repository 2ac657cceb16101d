use Rattle.std.proofs.Common.{refl, sym, subst, ◌∙◌}
use Rattle.std.proofs.lemmas.Bool.{false≢true}
use Rattle.p21_express.specs.WellFormed.{IsIn}
use Rattle.p21_tree.specs.declared.instances.Record.{Record}
use Rattle.p21_check.specs.LocalFault.{IsAbstract}
use Rattle.p21_check.specs.Sets.{AnyIn}
use Rattle.p21_check.specs.Instances.{LacksBelow, IsSubtypeRecord}
use Rattle.p21_check.proofs.AnyLemmas.{any_further}
use Rattle.p21_check.proofs.ComplexLemmas.{at_index}
use Rattle.p21_check.proofs.supertypes.lacks_subtype.Goals as goal

pub known-requires : goal.known-requires
known-requires c =
    let x = c.record-item.result in
    c.requires.known x (subst (IsIn c.args.records.now) (sym c.record-item.is) (at_index c.args.records.now c.loop-record.record-index x c.loop-record-test.true))

pub returns-then-lacks_below : goal.returns-then-lacks_below
returns-then-lacks_below c =
    let x = c.record-item.result in
    let among : IsIn c.args.records.now x = subst (IsIn c.args.records.now) (sym c.record-item.is) (at_index c.args.records.now c.loop-record.record-index x c.loop-record-test.true) in
    let this : (LacksBelow c.args.schema.now c.args.records.now) x = subst (λ n. IsAbstract c.args.schema.now n × ¬ (AnyIn c.args.records.now (IsSubtypeRecord c.args.schema.now n))) c.known.ensures.1 (c.lacks_below.ensures.0 c.if-lacks_below.true) in
    (λ _. (x, among, this), λ _. refl)

pub loop-record-preserved : goal.loop-record-preserved
loop-record-preserved c =
    let x = c.record-item.result in
    let unfit : ¬ ((LacksBelow c.args.schema.now c.args.records.now) x) = λ h. false≢true (sym c.if-lacks_below.false ∙ c.lacks_below.ensures.1 (subst (λ n. IsAbstract c.args.schema.now n × ¬ (AnyIn c.args.records.now (IsSubtypeRecord c.args.schema.now n))) (sym c.known.ensures.1) h)) in
    any_further (LacksBelow c.args.schema.now c.args.records.now) c.args.records.now c.loop-record.record-index x c.loop-record-test.true (subst (λ (y : Record). ¬ ((LacksBelow c.args.schema.now c.args.records.now) y)) c.record-item.is unfit) c.loop-record.invariant
