use Rattle.p21_check.proofs.ListsLemmas.{listless}
use Rattle.p21_check.proofs.RepeatsLemmas.{no_list}
use Rattle.p21_check.proofs.repeats.may_have_list.Goals as goal

pub returns-in_default : goal.returns-in_default
returns-in_default c = λ _ s x. no_list (listless c.args.param.now c.in_default.not-Items c.in_default.not-Typed)
