use Rattle.std.proofs.Common.{sym, ◌∙◌, arith}
use Rattle.p21_c.proofs.ReferenceLemmas.{all_counted}
use Rattle.p21_c.proofs.model_calls.references_of.Goals as goal

pub returns : goal.returns
returns c = sym (all_counted c.args.instances.now c.loop-instance.instance-index c.loop-instance.sum (omega arith) c.loop-instance.invariant.0) ∙ c.loop-instance.invariant.1
