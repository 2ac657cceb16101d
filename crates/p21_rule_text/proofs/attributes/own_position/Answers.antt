use Rattle.std.proofs.Common.{◌≡◌, ◌∷◌, ◌+◌, ℕ, List, Some, drop, ap, subst, sym, ◌∙◌, ⊎_elim, ◌≤◌, arith}
use Rattle.std.specs.Cmp.Lexicographic.{bytes_decides}
use Rattle.std.proofs.lemmas.Bool.{false≢true}
use Rattle.p21_express.specs.WellFormed.{IsIn}
use Rattle.p21_rule_text.proofs.ResolveLemmas.{NewFrom, first_behind, new_from, others_behind}
use Rattle.p21_rule_text.proofs.attributes.own_position.Goals as goal
use Rattle.p21_rule_text.proofs.attributes.own_position.Goals.{then-is_none+else-eq, else-is_none}

pub returns-then-eq : goal.returns-then-eq
returns-then-eq c =
    let xs = c.args.declared.now.attributes.items in
    let i = c.loop-attribute.attribute-index in
    let x = c.attribute-item.result in
    let here : NewFrom xs i ≡ x.name.items ∷ NewFrom xs (i + 1) = rw c.if-is_none.true at (new_from xs i x c.is_none.result (rw c.deref-attribute-items.ensures.value at c.loop-attribute-test.true) (rw c.deref-attribute-items.ensures.value at c.attribute-item.is) c.is_none.ensures) in
    let same : x.name.items ≡ c.args.name.now = sym c.as_slice.ensures.value ∙ (bytes_decides c.as_slice.result.now c.args.name.now).0 (sym c.eq.ensures ∙ c.if-eq.true) in
    first_behind (NewFrom xs 0) (NewFrom xs (i + 1)) c.loop-attribute.position x.name.items (c.loop-attribute.invariant.from ∙ here) ∙ ap (λ (n : List ℕ). Some n) same

pub loop-attribute-preserved : goal.loop-attribute-preserved
loop-attribute-preserved c =
    let xs = c.args.declared.now.attributes.items in
    let i = c.loop-attribute.attribute-index in
    let x = c.attribute-item.result in
    let inv = c.loop-attribute.invariant in
    let step = new_from xs i x c.is_none.result (rw c.deref-attribute-items.ensures.value at c.loop-attribute-test.true) (rw c.deref-attribute-items.ensures.value at c.attribute-item.is) c.is_none.ensures in
    elim c.if-is_none.branch [
      | then-is_none+else-eq w ↦
          let here : NewFrom xs i ≡ x.name.items ∷ NewFrom xs (i + 1) = rw w.if-is_none.true at step in
          let other : ¬ (x.name.items ≡ c.args.name.now) = λ e. false≢true (sym (sym w.eq.ensures ∙ w.if-eq.false) ∙ (bytes_decides w.as_slice.result.now c.args.name.now).1 (w.as_slice.ensures.value ∙ e)) in
          record {
            from = ap (λ (u : ℕ). drop u (NewFrom xs 0)) w.position-is ∙ others_behind (NewFrom xs 0) (NewFrom xs (i + 1)) c.loop-attribute.position x.name.items (inv.from ∙ here);
            few = subst (λ (u : ℕ). u ≤ i + 1) (sym w.position-is) (omega (arith, inv.few));
            behind = λ h. ⊎_elim (λ (e : x.name.items ≡ c.args.name.now). absurd (other e)) (λ (k : IsIn (NewFrom xs (i + 1)) c.args.name.now). k) (subst (λ (u : List (List ℕ)). IsIn u c.args.name.now) here (inv.behind h));
          }
      | else-is_none w ↦
          let here : NewFrom xs i ≡ NewFrom xs (i + 1) = rw w.if-is_none.false at step in
          record {
            from = ap (λ (u : ℕ). drop u (NewFrom xs 0)) w.position-is ∙ inv.from ∙ here;
            few = subst (λ (u : ℕ). u ≤ i + 1) (sym w.position-is) (omega (arith, inv.few));
            behind = λ h. subst (λ (u : List (List ℕ)). IsIn u c.args.name.now) here (inv.behind h);
          }
    ]
