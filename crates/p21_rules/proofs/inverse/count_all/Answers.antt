use Rattle.std.proofs.Common.{◌≡◌, ◌+◌, ◌++◌, ◌∷◌, ◌∙◌, ◌<◌, List, [], length, map, take, ap, subst, sym, arith}
use Rattle.std.specs.Prelude.{All}
use Rattle.std.proofs.lemmas.List.{length-map, length-take, map-append, take_all, take_more}
use Rattle.p21_tree.specs.Sentence.{Instance}
use Rattle.p21_tree.specs.Views.{plain_instance}
use Rattle.p21_tree.specs.declared.instances.RawInstance.{RawInstance}
use Rattle.p21_schema.specs.Place.{IsEntityOf}
use Rattle.p21_schema.specs.declared.ids.EntityId.{EntityId}
use Rattle.p21_rules.specs.declared.rule.InverseRule.{InverseRule}
use Rattle.p21_rules.specs.Counters.{CountAll}
use Rattle.p21_rules.proofs.ConcernedLemmas.{entities_known, simple_at, simple_long}
use Rattle.p21_rules.proofs.inverse.count_all.Goals as goal

pub concerns_of-requires : goal.concerns_of-requires
concerns_of-requires c =
    let s = c.args.schema.now in
    subst (λ (ws : List EntityId). All (IsEntityOf s) ws) (sym c.in_ok-wanted.ensures) (entities_known s (λ (r : InverseRule). r.source) c.args.rules.now (λ k r less. (c.requires.rules k r less).source))

pub bounds-entities-place : goal.bounds-entities-place
bounds-entities-place c =
    subst (λ n. c.loop-place.place < n) (sym (simple_long c.args.schema.now c.args.instances.now c.args.entities.now c.requires.entities)) c.loop-place-test.true

pub subject_of-requires-clause-own : goal.subject_of-requires-clause-own
subject_of-requires-clause-own c = simple_at c.args.schema.now c.args.instances.now c.args.entities.now c.loop-place.place c.index-instances-place.result c.requires.entities c.loop-place-test.true c.index-instances-place.is

pub loop-place-preserved : goal.loop-place-preserved
loop-place-preserved c =
    let s = c.args.schema.now in
    let rules = c.args.rules.now in
    let is = c.args.instances.now in
    let k = c.loop-place.place in
    let r = c.index-instances-place.result in
    let before = map plain_instance (take k is) in
    let less = c.loop-place-test.true in
    let long : length before ≡ k = length-map (take k is) plain_instance ∙ length-take k is ∙ omega (arith, less) in
    let seen : before ++ plain_instance r ∷ [] ≡ map plain_instance (take (k + 1) is) =
    sym (ap (map plain_instance) (take_more is k r less ∙ ap (λ (x : RawInstance). take k is ++ x ∷ []) (sym c.index-instances-place.is)) ∙ map-append plain_instance (take k is) (r ∷ [])) in
    subst (λ (l : List Instance). CountAll s rules c.count_instance.new.all.items (λ k. l)) seen (c.in_ok-count_instance.ensures before long c.loop-place.invariant)

pub returns : goal.returns
returns c =
    let is = c.args.instances.now in
    subst (λ (l : List RawInstance). CountAll c.args.schema.now c.args.rules.now c.loop-place.all.items (λ k. map plain_instance l)) (take_all c.loop-place.place is c.loop-place-test.false) c.loop-place.invariant
