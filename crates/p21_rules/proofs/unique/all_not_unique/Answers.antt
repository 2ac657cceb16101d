use Rattle.std.proofs.Common.{◌≡◌, ◌+◌, ◌++◌, ◌∷◌, ◌∙◌, ◌<◌, List, [], map, take, drop, refl, sym, ap, subst, append_assoc}
use Rattle.std.specs.Prelude.{All}
use Rattle.std.proofs.lemmas.List.{append-nil, drop_more, drop_all, take_more, map-append}
use Rattle.p21_tree.specs.Sentence.{Instance}
use Rattle.p21_tree.specs.Views.{plain_instance}
use Rattle.p21_tree.specs.declared.instances.RawInstance.{RawInstance}
use Rattle.p21_schema.specs.Place.{IsEntityOf}
use Rattle.p21_schema.specs.declared.ids.EntityId.{EntityId}
use Rattle.p21_rules.specs.declared.rule.UniqueRule.{UniqueRule}
use Rattle.p21_rules.specs.Firsts.{Holds}
use Rattle.p21_rules.specs.NotUnique.{AreFaultsBehind}
use Rattle.p21_rules.specs.NotUnique as unique
use Rattle.p21_rules.proofs.ConcernedLemmas.{entities_known, simple_at, simple_long}
use Rattle.p21_rules.proofs.unique.all_not_unique.Goals as goal

pub concerns_of-requires : goal.concerns_of-requires
concerns_of-requires c =
    let s = c.args.schema.now in
    subst (λ (ws : List EntityId). All (IsEntityOf s) ws) (sym c.in_ok-wanted.ensures) (entities_known s (λ (r : UniqueRule). r.entity) c.args.rules.now (λ k r less. (c.requires.rules k r less).entity))

pub bounds-entities-place : goal.bounds-entities-place
bounds-entities-place c =
    subst (λ n. c.loop-place.place < n) (sym (simple_long c.args.schema.now c.args.instances.now c.args.entities.now c.requires.entities)) c.loop-place-test.true

pub subject_of-requires-clause-own : goal.subject_of-requires-clause-own
subject_of-requires-clause-own c = simple_at c.args.schema.now c.args.instances.now c.args.entities.now c.loop-place.place c.index-instances-place.result c.requires.entities c.loop-place-test.true c.index-instances-place.is

pub loop-place-preserved : goal.loop-place-preserved
loop-place-preserved c =
    let s = c.args.schema.now in
    let rules = c.args.rules.now in
    let is = c.args.instances.now in
    let k = c.loop-place.place in
    let r = c.index-instances-place.result in
    let inv = c.loop-place.invariant in
    let before = map plain_instance (take k is) in
    let i = plain_instance r in
    let left : map plain_instance (drop k is) ≡ i ∷ map plain_instance (drop (k + 1) is) =
    ap (map plain_instance) (drop_more is k r c.loop-place-test.true ∙ ap (λ (x : RawInstance). x ∷ drop (k + 1) is) (sym c.index-instances-place.is)) in
    let seen : map plain_instance (take (k + 1) is) ≡ before ++ i ∷ [] =
    ap (map plain_instance) (take_more is k r c.loop-place-test.true ∙ ap (λ (x : RawInstance). take k is ++ x ∷ []) (sym c.index-instances-place.is)) ∙ map-append plain_instance (take k is) (r ∷ []) in
    let added = c.in_ok-push_faults.ensures before inv.held in
    let faults = added.0 in
    record {
      held = subst (λ (l : List Instance). Holds s rules c.push_faults.new.firsts (λ k. l)) (sym seen) added.1;
      told = λ fs rest.
          let behind = subst (λ (l : List Instance). AreFaultsBehind s rules l (map plain_instance (drop (k + 1) is)) fs) seen rest in
          let here = unique.more faults.1 behind refl in
          let all = inv.told (faults.0 ++ fs) (subst (λ (l : List Instance). AreFaultsBehind s rules before l (faults.0 ++ fs)) (sym left) here) in
          subst (AreFaultsBehind s rules [] (map plain_instance is)) (sym (append_assoc c.loop-place.faults.items faults.0 fs) ∙ ap (λ l. l ++ fs) (sym faults.2)) all;
    }

pub returns : goal.returns
returns c =
    let s = c.args.schema.now in
    let rules = c.args.rules.now in
    let is = c.args.instances.now in
    let k = c.loop-place.place in
    let none = subst (λ (l : List RawInstance). AreFaultsBehind s rules (map plain_instance (take k is)) (map plain_instance l) []) (sym (drop_all k is c.loop-place-test.false)) unique.none in
    subst (AreFaultsBehind s rules [] (map plain_instance is)) (append-nil c.loop-place.faults.items) (c.loop-place.invariant.told [] none)
