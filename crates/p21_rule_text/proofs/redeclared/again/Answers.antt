use Rattle.std.proofs.Common.{◌≡◌, ◌<◌, ◌⊎◌, ⊎_elim, ℕ, subst, arith}
use Rattle.std.proofs.lemmas.Bool.{cases_order}
use Rattle.p21_rule_text.proofs.redeclared.again.Goals as goal

pub returns-in-Some : goal.returns-in-Some
returns-in-Some c =
    let h = c.in-Some.ensures in
    record { origin = h.0; above = h.1; own = h.3; again = h.4; first = λ other b above less own. c.loop-place.invariant other b above (subst (λ (u : ℕ). other.index < u) h.2 less) own }

pub loop-place-preserved : goal.loop-place-preserved
loop-place-preserved c = λ o a above less own again.
    ⊎_elim
    (λ (e : o.index ≡ c.loop-place.place). c.in_default.ensures o a above e own again)
    (λ (k : (o.index < c.loop-place.place) ⊎ (c.loop-place.place < o.index)). ⊎_elim (λ (l : o.index < c.loop-place.place). c.loop-place.invariant o a above l own again) (λ (g : c.loop-place.place < o.index). absurd (omega arith)) k)
    (cases_order o.index c.loop-place.place)

pub returns : goal.returns
returns c = λ a h. c.loop-place.invariant h.origin a h.above (let known = h.above.known in let count = c.count-place-end.ensures in omega (arith, known, count, c.loop-place-test.false)) h.own h.again
