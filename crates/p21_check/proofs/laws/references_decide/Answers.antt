use Rattle.p21_check.proofs.ReferredLemmas.{all_answered, one_unanswered}
use Rattle.p21_check.proofs.laws.references_decide.Goals as goal

pub returns-clause-answered : goal.returns-clause-answered
returns-clause-answered c = all_answered

pub returns-clause-unanswered : goal.returns-clause-unanswered
returns-clause-unanswered c = one_unanswered
