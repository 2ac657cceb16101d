use Rattle.p21_rule_text.proofs.ResolveLemmas.{one_meaning}
use Rattle.p21_rule_text.proofs.resolve.one_meaning.Goals as goal

pub returns : goal.returns
returns c = λ es e x f g h k. one_meaning c.args.schema.now c.one_id.ensures.entities c.one_id.ensures.attributes es e x f g h k
