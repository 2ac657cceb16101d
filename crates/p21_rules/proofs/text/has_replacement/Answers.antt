use Rattle.std.proofs.Common.{◌≡◌, ◌∙◌, ℕ, List, sym, subst, nat_eq, false}
use Rattle.std.specs.List.{starts_with}
use Rattle.p21_rules.specs.Text.{replacement}
use Rattle.p21_rules.proofs.TextLemmas.{passed, whole_rest}
use Rattle.p21_rules.proofs.text.has_replacement.Goals as goal

pub loop-place-preserved : goal.loop-place-preserved
loop-place-preserved c =
    let other = subst (λ (l : List ℕ). starts_with nat_eq l replacement ≡ false) (whole_rest c.args.text.now c.loop-place.place) (sym c.starts_with.ensures.value ∙ c.if-starts_with.false) in
    c.loop-place.invariant ∙ passed c.args.text.now c.loop-place.place c.loop-place-test.true other
