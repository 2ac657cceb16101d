use Rattle.std.proofs.Common.{arith, ap, sym, ◌∙◌, subst, length, map}
use Rattle.p21_values.specs.Plain.{plain}
use Rattle.p21_values.specs.Same.{AreBelow, at_places}
use Rattle.p21_values.specs.Sets.{same_at}
use Rattle.p21_values.proofs.SameLemmas.{below_remove}
use Rattle.p21_values.proofs.SetLemmas.{intersection_kept, intersection_next, same_place_below}
use Rattle.p21_values.proofs.sets.intersection.Goals as goal
use Rattle.p21_values.proofs.sets.intersection.Goals.{in-Some+in_ok-push_shared, in_default}

pub remove-requires : goal.remove-requires
remove-requires c =
    let ys = map plain c.args.ys.now in
    let some = ap (λ l. same_at (plain c.x-item.result) (at_places ys l)) (sym c.deref.ensures.value) ∙ sym c.in_ok-at.ensures ∙ c.in-Some.is in
    let h = same_place_below (plain c.x-item.result) ys c.loop-x.left.items c.in-Some.at some in
    omega (arith, h, c.loop-x.left.ok.0)

pub loop-x-preserved : goal.loop-x-preserved
loop-x-preserved c =
    let ys = map plain c.args.ys.now in
    let found = ap (λ l. same_at (plain c.x-item.result) (at_places ys l)) (sym c.deref.ensures.value) ∙ sym c.in_ok-at.ensures in
    elim c.match-branch-4.branch [
      | in-Some+in_ok-push_shared w ↦ rw (w.left-is, w.found-is) (
        intersection_kept c.args.xs.now c.loop-x.x-index c.x-item.result ys c.loop-x.left.items w.remove.new.self.items w.in-Some.at (map plain c.loop-x.found.items) (map plain w.push_shared.new.found.items) _ c.loop-x-test.true c.x-item.is (found ∙ w.in-Some.is) w.remove.ensures.items w.in_ok-push_shared.ensures c.loop-x.invariant.0,
        subst (AreBelow (length c.args.ys.now)) (sym w.remove.ensures.items) (below_remove (length c.args.ys.now) c.loop-x.left.items w.in-Some.at c.loop-x.invariant.1),
      )
      | in_default w ↦ rw (w.left-is, w.found-is) (
        intersection_next c.args.xs.now c.loop-x.x-index c.x-item.result ys c.loop-x.left.items (map plain c.loop-x.found.items) _ c.loop-x-test.true c.x-item.is (found ∙ w.in_default.is) c.loop-x.invariant.0,
        c.loop-x.invariant.1,
      )
    ]
