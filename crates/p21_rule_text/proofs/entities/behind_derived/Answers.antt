use Rattle.std.proofs.Common.{refl, sym, ◌∙◌}
use Rattle.std.proofs.lemmas.Result.{err_from_is_err_and}
use Rattle.p21_express.specs.Reader.{words_of}
use Rattle.p21_rule_text.proofs.LoopLemmas.{goes_on, is_done, fails}
use Rattle.p21_rule_text.proofs.ClauseLemmas.{up_to_shrinks, up_to_gives, up_to_fails}
use Rattle.p21_rule_text.proofs.entities.behind_derived.Goals as goal

pub returns-in_err-rest : goal.returns-in_err-rest
returns-in_err-rest c =
    let p = err_from_is_err_and c.from_residual.result c.from_residual.ensures.1 in
    rw (p.1, p.2) (fails c.in_err-rest.field-0.0 c.loop-rest.invariant (sym c.begins_rules.ensures ∙ c.loop-rest-test.true) (up_to_fails c.in_err-rest.field-0.0 59 (words_of c.loop-rest.rest.now) c.in_err-rest.ensures.same))

pub loop-rest-preserved : goal.loop-rest-preserved
loop-rest-preserved c = goes_on up_to_shrinks c.loop-rest.invariant (sym c.begins_rules.ensures ∙ c.loop-rest-test.true) (up_to_gives 59 (words_of c.loop-rest.rest.now) (words_of c.in_ok-rest.rest.now) c.in_ok-rest.ensures.same) (λ xs r. refl)

pub returns : goal.returns
returns c = is_done c.loop-rest.invariant (sym c.begins_rules.ensures ∙ c.loop-rest-test.false)
