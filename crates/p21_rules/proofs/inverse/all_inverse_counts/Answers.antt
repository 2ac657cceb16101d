use Rattle.std.proofs.Common.{◌≡◌, ◌+◌, ◌++◌, ◌∷◌, ◌∙◌, ◌<◌, List, [], map, drop, refl, sym, ap, subst, append_assoc}
use Rattle.std.specs.Prelude.{All}
use Rattle.std.proofs.lemmas.List.{append-nil, drop_more, drop_all}
use Rattle.p21_tree.specs.Views.{plain_instance}
use Rattle.p21_tree.specs.declared.instances.RawInstance.{RawInstance}
use Rattle.p21_schema.specs.Place.{IsEntityOf}
use Rattle.p21_schema.specs.declared.ids.EntityId.{EntityId}
use Rattle.p21_rules.specs.declared.rule.InverseRule.{InverseRule}
use Rattle.p21_rules.specs.Counters.{CountAll}
use Rattle.p21_rules.specs.InverseCount.{AreCountsOf}
use Rattle.p21_rules.specs.InverseCount as inverse
use Rattle.p21_rules.proofs.ConcernedLemmas.{entities_known, simple_at, simple_long}
use Rattle.p21_rules.proofs.inverse.all_inverse_counts.Goals as goal

pub concerns_of-requires : goal.concerns_of-requires
concerns_of-requires c =
    let s = c.args.schema.now in
    subst (λ (ws : List EntityId). All (IsEntityOf s) ws) (sym c.in_ok-wanted.ensures) (entities_known s (λ (r : InverseRule). r.entity) c.args.rules.now (λ k r less. (c.requires.rules k r less).entity))

pub bounds-entities-place : goal.bounds-entities-place
bounds-entities-place c =
    subst (λ n. c.loop-place.place < n) (sym (simple_long c.args.schema.now c.args.instances.now c.args.entities.now c.requires.entities)) c.loop-place-test.true

pub subject_of-requires-clause-own : goal.subject_of-requires-clause-own
subject_of-requires-clause-own c = simple_at c.args.schema.now c.args.instances.now c.args.entities.now c.loop-place.place c.index-instances-place.result c.requires.entities c.loop-place-test.true c.index-instances-place.is

pub loop-place-preserved : goal.loop-place-preserved
loop-place-preserved c = λ fs rest.
    let s = c.args.schema.now in
    let rules = c.args.rules.now in
    let is = c.args.instances.now in
    let k = c.loop-place.place in
    let r = c.index-instances-place.result in
    let all = map plain_instance is in
    let left : map plain_instance (drop k is) ≡ plain_instance r ∷ map plain_instance (drop (k + 1) is) =
    ap (map plain_instance) (drop_more is k r c.loop-place-test.true ∙ ap (λ (x : RawInstance). x ∷ drop (k + 1) is) (sym c.index-instances-place.is)) in
    let counted = subst (λ m. CountAll s rules m (λ n. all)) (sym c.deref.ensures.value) c.in_ok-counters.ensures in
    let added = c.in_ok-push_faults.ensures all counted in
    let here : AreCountsOf s rules all (plain_instance r ∷ map plain_instance (drop (k + 1) is)) (added.0 ++ fs) = inverse.more added.1 rest refl in
    let whole = c.loop-place.invariant (added.0 ++ fs) (subst (λ l. AreCountsOf s rules all l (added.0 ++ fs)) (sym left) here) in
    subst (AreCountsOf s rules all all) (sym (append_assoc c.loop-place.faults.items added.0 fs) ∙ ap (λ l. l ++ fs) (sym added.2)) whole

pub returns : goal.returns
returns c =
    let s = c.args.schema.now in
    let rules = c.args.rules.now in
    let is = c.args.instances.now in
    let all = map plain_instance is in
    let none : AreCountsOf s rules all (map plain_instance (drop c.loop-place.place is)) [] =
    subst (λ (l : List RawInstance). AreCountsOf s rules all (map plain_instance l) []) (sym (drop_all c.loop-place.place is c.loop-place-test.false)) inverse.none in
    subst (AreCountsOf s rules all all) (append-nil c.loop-place.faults.items) (c.loop-place.invariant [] none)
