use Rattle.std.proofs.Common.{◌≡◌, arith, ap, sym, ◌∙◌, subst, length, map, true, false}
use Rattle.p21_values.specs.Logic.{and_of, is_true}
use Rattle.p21_values.specs.Plain.{plain}
use Rattle.p21_values.specs.Same.{AreBelow, at_places, partner, same_of}
use Rattle.p21_values.specs.Sets.{by_place}
use Rattle.p21_values.proofs.SameLemmas.{below_remove, partner_below, places_length}
use Rattle.p21_values.proofs.SetLemmas.{subset_none, subset_some, subset_taken}
use Rattle.p21_values.proofs.sets.subset.Goals as goal
use Rattle.p21_values.proofs.sets.subset.Goals.{in-Some, in-Some-2, in-None}

pub remove-requires : goal.remove-requires
remove-requires c =
    let ys = map plain c.args.ys.now in
    let some = ap (λ l. partner (same_of by_place (plain c.x-item.result)) (at_places ys l)) (sym c.deref.ensures.value) ∙ sym (c.in_ok-found.ensures.partner tt) ∙ c.in-Some.is in
    let h = partner_below (same_of by_place (plain c.x-item.result)) (at_places ys c.loop-x.left.items) c.in-Some.found some in
    omega (arith, h, places_length ys c.loop-x.left.items, c.loop-x.left.ok.0)

pub loop-x-preserved : goal.loop-x-preserved
loop-x-preserved c =
    let ys = map plain c.args.ys.now in
    let found = ap (λ l. partner (same_of by_place (plain c.x-item.result)) (at_places ys l)) (sym c.deref.ensures.value) ∙ sym (c.in_ok-found.ensures.partner tt) in
    elim c.match-branch-4.branch [
      | in-Some w ↦
          let b : is_true w.in-Some.found.1 ≡ true = cc in
          rw (w.left-is, w.all-is) (
            subset_taken c.args.xs.now c.loop-x.x-index c.x-item.result ys c.loop-x.left.items w.remove.new.self.items w.in-Some.found c.loop-x.all _ c.loop-x-test.true c.x-item.is (found ∙ w.in-Some.is) b w.remove.ensures.items c.loop-x.invariant.0,
            subst (AreBelow (length c.args.ys.now)) (sym w.remove.ensures.items) (below_remove (length c.args.ys.now) c.loop-x.left.items w.in-Some.found.0 c.loop-x.invariant.1),
          )
      | in-Some-2 w ↦
          let b : is_true w.in-Some.found.1 ≡ false = cc in
          rw (w.left-is, w.all-is) (
            subset_some c.args.xs.now c.loop-x.x-index c.x-item.result ys c.loop-x.left.items w.in-Some.found c.loop-x.all w.and-all.result _ c.loop-x-test.true c.x-item.is (found ∙ w.in-Some.is) b w.and-all.ensures c.loop-x.invariant.0,
            c.loop-x.invariant.1,
          )
      | in-None w ↦ rw (w.left-is, w.all-is) (
        subset_none c.args.xs.now c.loop-x.x-index c.x-item.result ys c.loop-x.left.items c.loop-x.all w.and-all-in-None.result _ c.loop-x-test.true c.x-item.is (found ∙ w.in-None.is) (w.and-all-in-None.ensures ∙ ap (and_of c.loop-x.all) w.not_known.ensures) c.loop-x.invariant.0,
        c.loop-x.invariant.1,
      )
    ]
