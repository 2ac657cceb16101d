use Rattle.std.proofs.Common.{arith, ap, sym, ◌∙◌, subst, length, map}
use Rattle.p21_values.specs.Plain.{plain}
use Rattle.p21_values.specs.Same.{AreBelow, at_places}
use Rattle.p21_values.specs.Sets.{same_at}
use Rattle.p21_values.proofs.SameLemmas.{below_remove}
use Rattle.p21_values.proofs.SetLemmas.{difference_next, difference_taken, same_place_below}
use Rattle.p21_values.proofs.sets.difference.Goals as goal
use Rattle.p21_values.proofs.sets.difference.Goals.{in-Some, in_default}

pub remove-requires : goal.remove-requires
remove-requires c =
    let xs = map plain c.args.xs.now in
    let some = ap (λ l. same_at (plain c.y-item.result) (at_places xs l)) (sym c.deref.ensures.value) ∙ sym c.in_ok-at.ensures ∙ c.in-Some.is in
    let h = same_place_below (plain c.y-item.result) xs c.loop-y.left.items c.in-Some.at some in
    omega (arith, h, c.loop-y.left.ok.0)

pub loop-y-preserved : goal.loop-y-preserved
loop-y-preserved c =
    let xs = map plain c.args.xs.now in
    let found = ap (λ l. same_at (plain c.y-item.result) (at_places xs l)) (sym c.deref.ensures.value) ∙ sym c.in_ok-at.ensures in
    elim c.match-branch-4.branch [
      | in-Some w ↦ rw w.left-is (
        difference_taken xs c.args.ys.now c.loop-y.y-index c.y-item.result c.loop-y.left.items w.remove.new.self.items w.in-Some.at _ c.loop-y-test.true c.y-item.is (found ∙ w.in-Some.is) w.remove.ensures.items c.loop-y.invariant.0,
        subst (AreBelow (length c.args.xs.now)) (sym w.remove.ensures.items) (below_remove (length c.args.xs.now) c.loop-y.left.items w.in-Some.at c.loop-y.invariant.1),
      )
      | in_default w ↦ rw w.left-is (
        difference_next xs c.args.ys.now c.loop-y.y-index c.y-item.result c.loop-y.left.items _ c.loop-y-test.true c.y-item.is (found ∙ w.in_default.is) c.loop-y.invariant.0,
        c.loop-y.invariant.1,
      )
    ]
