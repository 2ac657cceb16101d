use Rattle.std.proofs.Common.{sym, ◌∙◌, arith}
use Rattle.p21_counts.proofs.CountLemmas.{list_all}
use Rattle.p21_counts.proofs.references.+in_list.Goals as goal

pub returns : goal.returns
returns t c = sym (list_all c.args.params.now c.loop-param.param-index c.loop-param.sum (omega arith) c.loop-param.invariant.0) ∙ c.loop-param.invariant.1
