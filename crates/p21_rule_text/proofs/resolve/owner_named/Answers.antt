use Rattle.p21_rule_text.proofs.RefusalLemmas.{not_named}
use Rattle.p21_rule_text.proofs.resolve.owner_named.Goals as goal

pub returns-in_err-owner : goal.returns-in_err-owner
returns-in_err-owner c = rw c.from_residual.ensures (λ o h. not_named c.args.schema.now c.args.of.now c.in_err-owner.ensures o (record { known = h.owner.known; name = h.name }))
