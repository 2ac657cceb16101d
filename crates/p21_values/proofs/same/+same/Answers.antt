use Rattle.std.proofs.Common.{IfSome, Option, None, ◌≡◌, ℕ, ◌<◌, List, [], length, map, drop, refl, ap, sym, ◌∙◌, arith, get_or, Some, subst, MatchResult}
use Rattle.p21_values.specs.Plain.{plain, plain_all}
use Rattle.std.proofs.lemmas.List.{drop_all}
use Rattle.p21_values.specs.Ends.{ClaimsNothing}
use Rattle.p21_values.specs.Same.{first_of, AreBelow, at_places, partner, same_of}
use Rattle.p21_values.proofs.SameLemmas.{below_at, below_remove, counted_next, counted_none, item_at, looked_false, looked_unknown, partner_below, partner_end, partner_found, places_length, same_aggregates, same_elements_are, same_made}
use Rattle.p21_values.proofs.same.+same.Goals as goal
use Rattle.p21_values.proofs.same.+same.Goals.{partner-in-Unknown, partner-in-False}

-- the first of two places within a number
first_within : (p : Option ℕ) (i n : ℕ) → IfSome p (λ j. j < n) → i < n → IfSome (first_of p (Some i)) (λ j. j < n)
first_within None i n h lt = lt
first_within (Some j) i n h lt = h

pub partner-bounds-ws-left : goal.partner-bounds-ws-left
partner-bounds-ws-left g t c = below_at _ _ _ c.requires c.loop-i-test.true

pub partner-offset_bounds-ws-left : goal.partner-offset_bounds-ws-left
partner-offset_bounds-ws-left g t c = let h = below_at _ _ _ c.requires c.loop-i-test.true in omega (arith, h)

pub partner-returns-in-True-clause-partner : goal.partner-returns-in-True-clause-partner
partner-returns-in-True-clause-partner g t c = λ k.
    let ws = c.args.ws.now in
    let left = c.args.left.now in
    let lt : c.loop-i.i < length (at_places (map plain ws) left) = omega (arith, places_length (map plain ws) left) in
    partner_found (same_of (g.I.Instances.same c.args.instances.now) (plain c.args.v.now)) (at_places (map plain ws) left) c.loop-i.i (plain c.index-ws-left.result) c.loop-i.possible lt
    (item_at ws left c.loop-i.i c.index-ws-left.result c.loop-i-test.true c.requires c.index-ws-left.is)
    (sym (c.in_ok-same.ensures k) ∙ c.in-True.is)
    (c.loop-i.invariant.0 k)

pub partner-loop-i-preserved : goal.partner-loop-i-preserved
partner-loop-i-preserved g t c =
    let ws = c.args.ws.now in
    let left = c.args.left.now in
    let lt : c.loop-i.i < length (at_places (map plain ws) left) = omega (arith, places_length (map plain ws) left) in
    let at = item_at ws left c.loop-i.i c.index-ws-left.result c.loop-i-test.true c.requires c.index-ws-left.is in
    elim c.match-branch-3.branch [
      | partner-in-Unknown w ↦ rw (w.possible-is, w.first_of-possible.ensures) (λ k. looked_unknown (same_of (g.I.Instances.same c.args.instances.now) (plain c.args.v.now)) (at_places (map plain ws) left) c.loop-i.i (plain c.index-ws-left.result) c.loop-i.possible lt at (sym (c.in_ok-same.ensures k) ∙ w.in-Unknown.is) (c.loop-i.invariant.0 k), first_within c.loop-i.possible c.loop-i.i (length left) c.loop-i.invariant.1 c.loop-i-test.true)
      | partner-in-False w ↦ rw w.possible-is (λ k. looked_false (same_of (g.I.Instances.same c.args.instances.now) (plain c.args.v.now)) (at_places (map plain ws) left) c.loop-i.i (plain c.index-ws-left.result) c.loop-i.possible lt at (sym (c.in_ok-same.ensures k) ∙ w.in-False.is) (c.loop-i.invariant.0 k), c.loop-i.invariant.1)
    ]

pub partner-returns-clause-partner : goal.partner-returns-clause-partner
partner-returns-clause-partner g t c = λ k.
    let ws = c.args.ws.now in
    let left = c.args.left.now in
    let none : drop c.loop-i.i (at_places (map plain ws) left) ≡ [] = drop_all c.loop-i.i (at_places (map plain ws) left) (omega (arith, places_length (map plain ws) left)) in
    c.possible_partner.ensures ∙ partner_end (same_of (g.I.Instances.same c.args.instances.now) (plain c.args.v.now)) (at_places (map plain ws) left) c.loop-i.i c.loop-i.possible none (c.loop-i.invariant.0 k)

pub counted_same-returns-in_default : goal.counted_same-returns-in_default
counted_same-returns-in_default g t c = λ k.
    let e = g.I.Instances.same c.args.instances.now in
    let ws = map plain c.args.ws.now in
    let none = ap (λ l. partner (same_of e (plain c.v-item.result)) (at_places ws l)) (sym c.deref.ensures.value) ∙ sym (c.in_ok-found.ensures.partner k) ∙ c.in_default.is in
    counted_none e c.args.vs.now c.loop-v.v-index c.v-item.result (at_places ws c.loop-v.left.items) c.loop-v.all _ c.loop-v-test.true c.v-item.is none (c.loop-v.invariant.0 k)

pub counted_same-loop-v-preserved : goal.counted_same-loop-v-preserved
counted_same-loop-v-preserved g t c =
    let e = g.I.Instances.same c.args.instances.now in
    let ws = map plain c.args.ws.now in (
      λ k. counted_next e c.args.vs.now c.loop-v.v-index c.v-item.result ws c.loop-v.left.items c.remove.new.self.items c.in-Some.found c.loop-v.all c.and-all.result _ c.loop-v-test.true c.v-item.is (ap (λ l. partner (same_of e (plain c.v-item.result)) (at_places ws l)) (sym c.deref.ensures.value) ∙ sym (c.in_ok-found.ensures.partner k) ∙ c.in-Some.is) c.remove.ensures.items c.and-all.ensures (c.loop-v.invariant.0 k),
      subst (AreBelow (length c.args.ws.now)) (sym c.remove.ensures.items) (below_remove (length c.args.ws.now) c.loop-v.left.items c.in-Some.found.0 c.loop-v.invariant.1),
    )

pub same-returns-in-Aggregate-Aggregate : goal.same-returns-in-Aggregate-Aggregate
same-returns-in-Aggregate-Aggregate g t c = λ k.
    let h = c.in-Aggregate-Aggregate in
    let whole = same_aggregates (g.I.Instances.same c.args.instances.now) c.args.a.now c.args.b.now h.k h.l h.vs h.ws h.is-0 h.is-1 in
    let e = same_elements_are _ _ _ c.comparison.result h.vs h.ws c.deref-in-Aggregate-Aggregate.result.now c.deref-in-Aggregate-Aggregate-3.result.now c.deref-in-Aggregate-Aggregate-2.result.now c.deref-in-Aggregate-Aggregate-4.result.now whole c.comparison.ensures c.deref-in-Aggregate-Aggregate.ensures c.deref-in-Aggregate-Aggregate-2.ensures.value c.deref-in-Aggregate-Aggregate-3.ensures c.deref-in-Aggregate-Aggregate-4.ensures.value in
    subst (λ x. MatchResult c.same_elements.result (λ t. t ≡ x) ClaimsNothing) e (c.same_elements.ensures k)

pub same-returns-in-Made-Made : goal.same-returns-in-Made-Made
same-returns-in-Made-Made g t c = λ k.
    let h = c.in-Made-Made in
    let whole = same_made (g.I.Instances.same c.args.instances.now) c.args.a.now c.args.b.now h.f h.g h.vs h.ws h.is-0 h.is-1 in
    let e = same_elements_are _ _ _ c.of_entities.result h.vs h.ws c.deref-in-Made-Made.result.now c.deref-in-Made-Made-3.result.now c.deref-in-Made-Made-2.result.now c.deref-in-Made-Made-4.result.now whole c.of_entities.ensures c.deref-in-Made-Made.ensures c.deref-in-Made-Made-2.ensures.value c.deref-in-Made-Made-3.ensures c.deref-in-Made-Made-4.ensures.value in
    subst (λ x. MatchResult c.same_elements-in-Made-Made.result (λ t. t ≡ x) ClaimsNothing) e (c.same_elements-in-Made-Made.ensures k)
