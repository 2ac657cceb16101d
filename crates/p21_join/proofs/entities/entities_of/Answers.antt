use Rattle.std.proofs.Common.{◌≡◌, ℕ, ◌+◌, ◌<◌, ◌≤◌, Option, List, [], ◌∷◌, ◌++◌, length, get_or, take, sym, ap, subst, ◌∙◌}
use Rattle.std.proofs.lemmas.List.{map-append, take_all, take_more}
use Rattle.p21_express.specs.Schema.{Schema}
use Rattle.p21_schema.specs.declared.ids.EntityId.{EntityId}
use Rattle.p21_tree.specs.Sentence.{Instance}
use Rattle.p21_tree.specs.declared.instances.RawInstance.{RawInstance}
use Rattle.p21_tree.specs.Views.{plain_instance}
use Rattle.p21_check.specs.EntityOf.{AreSimpleEntities, IsSimpleEntity}
use Rattle.p21_join.specs.Model.{instances_of, plain_instances}
use Rattle.p21_join.proofs.entities.entities_of.Goals as goal

-- one more after the others
entities_more : (s : Schema) (is : List Instance) (es : List (Option EntityId)) (i : Instance) (e : Option EntityId) → AreSimpleEntities s is es → IsSimpleEntity s i e → AreSimpleEntities s (is ++ i ∷ []) (es ++ e ∷ [])
entities_more s [] [] i e h own = (own, tt)
entities_more s [] (f ∷ es) i e h own = absurd h
entities_more s (j ∷ is) [] i e h own = absurd h
entities_more s (j ∷ is) (f ∷ es) i e h own = (h.0, entities_more s is es i e h.1 own)

instances_more : (is : List RawInstance) (k : ℕ) (i : RawInstance) → k < length is → i ≡ get_or is k i → plain_instances (take k is) ++ plain_instance i ∷ [] ≡ plain_instances (take (k + 1) is)
instances_more is k i less there =
    ap (λ x. plain_instances (take k is) ++ plain_instance x ∷ []) there ∙ sym (map-append plain_instance (take k is) (get_or is k i ∷ [])) ∙ ap plain_instances (sym (take_more is k i less))

pub loop-instance-preserved : goal.loop-instance-preserved
loop-instance-preserved c =
    let s = c.args.schema.now in
    let is = instances_of c.args.model.now in
    let es = c.loop-instance.entities.items in
    let k = c.loop-instance.instance-index in
    let i = c.instance-item.result in
    let same = c.instances-instance-items.ensures in
    let less = subst (λ (l : List RawInstance). k < length l) same c.loop-instance-test.true in
    let there = subst (λ (l : List RawInstance). i ≡ get_or l k i) same c.instance-item.is in
    subst (AreSimpleEntities s (plain_instances (take (k + 1) is))) (sym c.in_ok-push.ensures.items)
    (subst (λ (l : List Instance). AreSimpleEntities s l (es ++ c.simple_entity.result ∷ [])) (instances_more is k i less there) (entities_more s (plain_instances (take k is)) es (plain_instance i) c.simple_entity.result c.loop-instance.invariant c.simple_entity.ensures))

pub returns : goal.returns
returns c =
    let is = instances_of c.args.model.now in
    let all : take c.loop-instance.instance-index is ≡ is = take_all c.loop-instance.instance-index is (subst (λ (l : List RawInstance). length l ≤ c.loop-instance.instance-index) c.instances-instance-items.ensures c.loop-instance-test.false) in
    subst (λ (l : List RawInstance). AreSimpleEntities c.args.schema.now (plain_instances l) c.loop-instance.entities.items) all c.loop-instance.invariant
