use Rattle.std.proofs.Common.{sym, subst, ◌∙◌}
use Rattle.p21_schema.specs.declared.ids.EntityId.{EntityId}
use Rattle.p21_rule_text.specs.Resolve.{IsOwn}
use Rattle.p21_rule_text.proofs.ResolveLemmas.{own_declares, same_owner}
use Rattle.p21_rule_text.proofs.redeclared.again_at.Goals as goal

pub returns-in_err-attribute : goal.returns-in_err-attribute
returns-in_err-attribute c =
    let s = c.args.schema.now in
    let owner = c.in_ok-owner.owner in
    rw c.from_residual-in_err-attribute.ensures (λ o a above place own again.
    c.in_err-attribute.ensures (own_declares s c.one_id.ensures.entities c.one_id.ensures.attributes owner c.in_ok-owner.ensures.0.known c.args.name.now a (subst (λ (u : EntityId). IsOwn s u c.args.name.now a) (same_owner o owner (place ∙ sym c.in_ok-owner.ensures.1)) own)))
