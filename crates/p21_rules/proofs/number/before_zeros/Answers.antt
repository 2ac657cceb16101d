use Rattle.std.proofs.Common.{◌∙◌, sym}
use Rattle.std.proofs.lemmas.Bool.{eqb-false}
use Rattle.p21_rules.proofs.NumberLemmas.{last_zero, last_other}
use Rattle.p21_rules.proofs.number.before_zeros.Goals as goal

pub loop-rest-preserved : goal.loop-rest-preserved
loop-rest-preserved c = last_zero c.loop-rest.rest.now (eqb-false _ 0 (sym c.is_empty.ensures ∙ c.loop-rest-test.true)) c.if-rest-eq48.true ∙ c.loop-rest.invariant

pub returns-else-rest-eq48 : goal.returns-else-rest-eq48
returns-else-rest-eq48 c = last_other c.loop-rest.rest.now (eqb-false _ 0 (sym c.is_empty.ensures ∙ c.loop-rest-test.true)) c.if-rest-eq48.false ∙ c.loop-rest.invariant
