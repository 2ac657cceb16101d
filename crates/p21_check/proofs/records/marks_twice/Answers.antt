use Rattle.std.proofs.Common.{◌<◌, get_or, take, length, refl, sym, subst, ◌∙◌, arith}
use Rattle.std.proofs.lemmas.Bool.{false≢true}
use Rattle.std.proofs.lemmas.List.{take_all}
use Rattle.p21_express.specs.WellFormed.{IsIn}
use Rattle.p21_check.specs.Sets.{keywords_of, AreMarksOfRecords}
use Rattle.p21_check.specs.Instances.{IsNamedBefore}
use Rattle.p21_check.proofs.AttributeLemmas.{none_more, none_all}
use Rattle.p21_check.proofs.ComplexLemmas.{at_index, named_here, not_named_here, named_below, marks_more}
use Rattle.p21_check.proofs.records.marks_twice.Goals as goal

pub known-entity-requires : goal.known-entity-requires
known-entity-requires c =
    let rs = c.args.records.now in
    let x = c.index-records-k.result in
    let less : c.loop-k.k < length rs = omega arith in
    c.requires (get_or rs c.loop-k.k x) (at_index rs c.loop-k.k x less)

pub returns-then-is_named-clause-twice : goal.returns-then-is_named-clause-twice
returns-then-is_named-clause-twice c =
    let rs = c.args.records.now in
    let k = c.loop-k.k in
    let x = c.index-records-k.result in
    let less : k < length rs = omega arith in
    let i = subst (IsIn (keywords_of (take k rs))) c.known-entity.ensures.1 (c.is_named.ensures.0 c.if-is_named.true) in
    (λ _. (k, named_here rs k x less i), λ _. refl)

pub loop-k-preserved : goal.loop-k-preserved
loop-k-preserved c =
    let s = c.args.schema.now in
    let rs = c.args.records.now in
    let k = c.loop-k.k in
    let x = c.index-records-k.result in
    let e = c.known-entity.result in
    let less : k < length rs = omega arith in
    let new : ¬ (IsIn (keywords_of (take k rs)) (get_or rs k x).keyword.now) = λ h. false≢true (sym c.if-is_named.false ∙ c.is_named.ensures.1 (subst (IsIn (keywords_of (take k rs))) (sym c.known-entity.ensures.1) h)) in
    record {
      once = none_more (IsNamedBefore (keywords_of rs)) k c.loop-k.invariant.once (not_named_here rs k x less new);
      marked = marks_more s c.one_id.ensures.entities rs k x less e c.known-entity.ensures.0 c.known-entity.ensures.1 c.loop-k.marks c.put.new.marks c.put.ensures.length c.put.ensures.added c.loop-k.invariant.marked;
    }

pub returns-clause-twice : goal.returns-clause-twice
returns-clause-twice c = (
  λ t. absurd (false≢true t),
  λ h. absurd (none_all (IsNamedBefore (keywords_of c.args.records.now)) c.loop-k.k c.loop-k.invariant.once (λ b less. named_below c.args.records.now b (omega arith)) h.0 h.1),
)

pub returns-clause-marked : goal.returns-clause-marked
returns-clause-marked c = λ _. subst (AreMarksOfRecords c.args.schema.now c.loop-k.marks) (take_all c.loop-k.k c.args.records.now (omega arith)) c.loop-k.invariant.marked
