use Rattle.std.proofs.Common.{◌≡◌, sym, subst, ◌∙◌}
use Rattle.std.specs.Cmp.Lexicographic.{bytes_decides}
use Rattle.std.proofs.lemmas.Bool.{false≢true}
use Rattle.p21_express.specs.Plain.{plain_derived}
use Rattle.p21_express.specs.declared.declarations.DeriveDecl.{DeriveDecl}
use Rattle.p21_rule_text.proofs.ResolveLemmas.{of_one, of_others}
use Rattle.p21_rule_text.proofs.attributes.derives_in.Goals as goal

pub returns-then-eq : goal.returns-then-eq
returns-then-eq c =
    let same = sym c.as_slice.ensures.value ∙ (bytes_decides c.as_slice.result.now c.args.name.now).0 (sym c.eq.ensures ∙ c.if-eq.true) in
    of_one plain_derived (λ d. d.name ≡ c.args.name.now) c.args.declared.now.derived.items c.loop-attribute.attribute-index c.attribute-item.result (rw c.deref-attribute-items.ensures.value at c.loop-attribute-test.true) (subst (λ (d : DeriveDecl). (plain_derived d).name ≡ c.args.name.now) (rw c.deref-attribute-items.ensures.value at c.attribute-item.is) same)

pub loop-attribute-preserved : goal.loop-attribute-preserved
loop-attribute-preserved c =
    let other : ¬ (c.attribute-item.result.name.items ≡ c.args.name.now) = λ e. false≢true (sym (sym c.eq.ensures ∙ c.if-eq.false) ∙ (bytes_decides c.as_slice.result.now c.args.name.now).1 (c.as_slice.ensures.value ∙ e)) in
    λ h. of_others plain_derived (λ d. d.name ≡ c.args.name.now) c.args.declared.now.derived.items c.loop-attribute.attribute-index c.attribute-item.result (rw c.deref-attribute-items.ensures.value at c.loop-attribute-test.true) (subst (λ (d : DeriveDecl). ¬ ((plain_derived d).name ≡ c.args.name.now)) (rw c.deref-attribute-items.ensures.value at c.attribute-item.is) other) (c.loop-attribute.invariant h)
