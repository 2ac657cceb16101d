use Rattle.std.proofs.Common.{map, sym, subst, ◌∙◌}
use Rattle.p21_schema.specs.declared.ids.EntityId.{EntityId}
use Rattle.p21_rule_text.specs.Entities.{plain_clauses}
use Rattle.p21_rule_text.specs.Resolve.{HasInverse}
use Rattle.p21_rule_text.proofs.RefusalLemmas.{not_named}
use Rattle.p21_rule_text.proofs.ResolveLemmas.{same_test}
use Rattle.p21_rule_text.proofs.resolve.is_inverse_of_ancestor.Goals as goal

pub returns-then-is_below : goal.returns-then-is_below
returns-then-is_below c =
    let owner = c.in-Some.owner in
    same_test c.has_inverse.result
    (λ h. record { owner = owner; known = c.in-Some.ensures.0; name = c.in-Some.ensures.1; ancestor = c.is_below.ensures.0 c.if-is_below.true; inverse = h })
    (λ h. subst (λ (u : EntityId). HasInverse (map plain_clauses c.args.clauses.now) u c.args.name.now) (c.one_id.ensures.entities h.owner owner h.known c.in-Some.ensures.0 (h.name ∙ sym c.in-Some.ensures.1)) h.inverse)
    c.has_inverse.ensures

pub returns-in-None : goal.returns-in-None
returns-in-None c = λ h. not_named c.args.schema.now c.args.of.now c.in-None.ensures h.owner (record { known = h.known; name = h.name })
