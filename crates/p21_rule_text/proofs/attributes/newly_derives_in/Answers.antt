use Rattle.std.proofs.Common.{◌≡◌, None, subst}
use Rattle.p21_express.specs.Schema.{Derived}
use Rattle.p21_express.specs.Plain.{plain_derived}
use Rattle.p21_express.specs.declared.declarations.DeriveDecl.{DeriveDecl}
use Rattle.p21_rule_text.proofs.ResolveLemmas.{of_one, of_others}
use Rattle.p21_rule_text.proofs.attributes.newly_derives_in.Goals as goal

pub returns-then-is_new : goal.returns-then-is_new
returns-then-is_new c =
    let IsSought : Derived → Type 0 = λ d. (d.of ≡ None) × (d.name ≡ c.args.name.now) in
    of_one plain_derived IsSought c.args.declared.now.derived.items c.loop-attribute.attribute-index c.attribute-item.result (rw c.deref-attribute-items.ensures.value at c.loop-attribute-test.true) (subst (λ (d : DeriveDecl). IsSought (plain_derived d)) (rw c.deref-attribute-items.ensures.value at c.attribute-item.is) c.if-is_new.ensures)

pub loop-attribute-preserved : goal.loop-attribute-preserved
loop-attribute-preserved c =
    let IsSought : Derived → Type 0 = λ d. (d.of ≡ None) × (d.name ≡ c.args.name.now) in
    λ h. of_others plain_derived IsSought c.args.declared.now.derived.items c.loop-attribute.attribute-index c.attribute-item.result (rw c.deref-attribute-items.ensures.value at c.loop-attribute-test.true) (subst (λ (d : DeriveDecl). ¬ (IsSought (plain_derived d))) (rw c.deref-attribute-items.ensures.value at c.attribute-item.is) c.if-is_new.ensures) (c.loop-attribute.invariant h)
