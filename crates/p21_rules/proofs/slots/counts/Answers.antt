use Rattle.std.proofs.Common.{List, ℕ, refl, sym, subst, ◌∙◌}
use Rattle.std.proofs.lemmas.Bool.{false≢true}
use Rattle.p21_check.specs.Sets.{AnyIn, IsAgainBelow}
use Rattle.p21_rules.specs.Slots.{set_of}
use Rattle.p21_rules.proofs.slots.counts.Goals as goal

pub returns-then-not-is_in_set : goal.returns-then-not-is_in_set
returns-then-not-is_in_set c = λ ds d z e. (λ t. absurd (false≢true t), λ h. absurd (false≢true (sym c.if-not-is_in_set.true ∙ c.is_in_set.ensures.1 (subst (set_of c.args.slot) (sym e) h.0))))

pub returns-then-is_derived : goal.returns-then-is_derived
returns-then-is_derived c = λ ds d z e. (λ t. absurd (false≢true t), λ h. absurd (h.1 ((c.is_derived.ensures ds z).0 c.if-is_derived.true)))

pub returns-then-is_again_below : goal.returns-then-is_again_below
returns-then-is_again_below c = λ ds d z e. (λ t. absurd (false≢true t), λ h. absurd (h.2 (subst (λ (n : List ℕ). AnyIn ds (IsAgainBelow c.args.slot.schema.now (set_of c.args.slot) n)) e ((c.is_again_below.ensures ds z).0 c.if-is_again_below.true))))

pub returns : goal.returns
returns c = λ ds d z e. (
  λ _. (
    subst (set_of c.args.slot) e (c.is_in_set.ensures.0 c.if-not-is_in_set.false),
    λ k. false≢true (sym c.if-is_derived.false ∙ (c.is_derived.ensures ds z).1 k),
    λ k. false≢true (sym c.if-is_again_below.false ∙ (c.is_again_below.ensures ds z).1 (subst (λ (n : List ℕ). AnyIn ds (IsAgainBelow c.args.slot.schema.now (set_of c.args.slot) n)) (sym e) k)),
  ),
  λ _. refl,
)
