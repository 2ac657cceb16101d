use Rattle.std.proofs.Common.{◌≡◌, ◌∙◌, sym}
use Rattle.std.specs.Cmp.Lexicographic.{bytes_decides}
use Rattle.std.proofs.lemmas.Bool.{false≢true}
use Rattle.p21_rule_text.specs.Clauses.{plain_inverse}
use Rattle.p21_rule_text.proofs.ResolveLemmas.{of_one, of_others}
use Rattle.p21_rule_text.proofs.attributes.has_inverse_in.Goals as goal

pub returns-then-eq : goal.returns-then-eq
returns-then-eq c =
    let test = rw c.deref-inverse-items.ensures.value at c.eq.ensures in
    of_one plain_inverse (λ i. i.name.name ≡ c.args.name.now) c.args.clauses.now.inverse.items c.loop-inverse.inverse-index _ (rw c.deref-inverse-items.ensures.value at c.loop-inverse-test.true) ((bytes_decides _ c.args.name.now).0 (sym test ∙ c.if-eq.true))

pub loop-inverse-preserved : goal.loop-inverse-preserved
loop-inverse-preserved c =
    let test = rw c.deref-inverse-items.ensures.value at c.eq.ensures in
    λ h. of_others plain_inverse (λ i. i.name.name ≡ c.args.name.now) c.args.clauses.now.inverse.items c.loop-inverse.inverse-index _ (rw c.deref-inverse-items.ensures.value at c.loop-inverse-test.true) (λ e. false≢true (sym (sym test ∙ c.if-eq.false) ∙ (bytes_decides _ c.args.name.now).1 e)) (c.loop-inverse.invariant h)
