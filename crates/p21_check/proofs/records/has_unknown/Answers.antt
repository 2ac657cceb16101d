use Rattle.std.proofs.Common.{sym, subst, ◌∙◌}
use Rattle.std.proofs.lemmas.Bool.{false≢true}
use Rattle.p21_express.specs.WellFormed.{IsIn}
use Rattle.p21_check.proofs.ComplexLemmas.{at_index}
use Rattle.p21_check.proofs.records.has_unknown.Goals as goal

pub returns-then-not-is_entity-clause-some : goal.returns-then-not-is_entity-clause-some
returns-then-not-is_entity-clause-some c =
    let x = c.record-item.result in
    let among : IsIn c.args.records.now x = subst (IsIn c.args.records.now) (sym c.record-item.is) (at_index c.args.records.now c.loop-record.record-index x c.loop-record-test.true) in
    λ _. (x, among, λ k. false≢true (sym c.if-not-is_entity.true ∙ c.is_entity.ensures.1 k))
