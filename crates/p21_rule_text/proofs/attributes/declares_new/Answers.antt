use Rattle.std.proofs.Common.{⊎_elim, inl, inr, sym, subst}
use Rattle.p21_express.specs.Schema.{Entity}
use Rattle.p21_express.specs.WellFormed.{IsIn, new_explicit}
use Rattle.p21_rule_text.specs.Resolve.{DeclaresExplicit}
use Rattle.p21_rule_text.proofs.ResolveLemmas.{at_some, same_test}
use Rattle.p21_rule_text.proofs.attributes.declares_new.Goals as goal

pub returns-in-Some : goal.returns-in-Some
returns-in-Some c = inl (subst (λ (u : Entity). IsIn (new_explicit u.attributes) c.args.name.now) c.declared.ensures (at_some _ _ _ c.in-Some.ensures))

pub returns-in-None : goal.returns-in-None
returns-in-None c =
    let none : ¬ (DeclaresExplicit c.args.schema.now c.args.entity c.args.name.now) = λ e. c.in-None.ensures (subst (λ (u : Entity). IsIn (new_explicit u.attributes) c.args.name.now) (sym c.declared.ensures) e) in
    same_test c.declares_other.result (λ h. inr h) (λ h. ⊎_elim (λ e. absurd (none e)) (λ k. k) h) c.declares_other.ensures
