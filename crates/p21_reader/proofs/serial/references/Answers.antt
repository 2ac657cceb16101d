use Rattle.std.proofs.Common.{◌≡◌, ℕ, List, Option, Some, None, get_or, refl, sym, ap, subst, ◌∙◌}
use Rattle.p21_express.specs.Schema.{Schema}
use Rattle.p21_tree.specs.declared.faults.FaultKind.{FaultKind}
use Rattle.p21_tree.specs.declared.instances.RawInstance.{RawInstance}
use Rattle.p21_tree.specs.Views.{plain_instance}
use Rattle.p21_schema.specs.declared.ids.EntityId.{EntityId}
use Rattle.p21_check.specs.EntityOf.{IsSimpleEntity}
use Rattle.p21_check.specs.References.{IsReferenceFault, named_in}
use Rattle.p21_join.specs.Entities.{model_of, schema_of}
use Rattle.p21_join.specs.declared.model.Model.{Model}
use Rattle.p21_join.specs.Model.{instances_of, plain_instances}
use Rattle.p21_reader.proofs.ReferenceLemmas.{At, no_local_fault, first_fault, answered_more, answered_all}
use Rattle.p21_reader.proofs.serial.references.Goals as goal

-- what is said among the instances of one model, among those of the same
judged : (s : Schema) (m n : Model) (i : RawInstance) (k : Option FaultKind) → m ≡ n → IsReferenceFault s (named_in (plain_instances (instances_of m))) (plain_instance i) k → IsReferenceFault s (named_in (plain_instances (instances_of n))) (plain_instance i) k
judged s m n i k e h = subst (λ (x : Model). IsReferenceFault s (named_in (plain_instances (instances_of x))) (plain_instance i) k) e h

-- what is known of an instance at a place
own_at : (s t : Schema) (m n : Model) (items : List RawInstance) (k : ℕ) (i : RawInstance) (own : Option EntityId) → t ≡ s → n ≡ m → At (instances_of m) items k i
    → ((d : RawInstance) → IsSimpleEntity t (plain_instance (get_or (instances_of n) k d)) own) → IsSimpleEntity s (plain_instance i) own
own_at s t m n items k i own e f at h =
    let here : get_or (instances_of m) k i ≡ i = ap (λ l. get_or l k i) (sym at.all) ∙ sym at.there in
    subst (λ (x : RawInstance). IsSimpleEntity s (plain_instance x) own) here (subst (λ (x : Model). IsSimpleEntity s (plain_instance (get_or (instances_of x) k i)) own) f (subst (λ (x : Schema). IsSimpleEntity x (plain_instance (get_or (instances_of n) k i)) own) e (h i)))

pub check_references_among-requires : goal.check_references_among-requires
check_references_among-requires c κs =
    let s = c.args.schema.now in
    let made = c.of-entities.result in
    let items = c.instances-instance-items.result.now in
    let i = c.instance-item.result in
    let at : At (instances_of c.args.model.now) items c.loop-place.place i = record { all = c.instances-instance-items.ensures; less = c.loop-place-test.true; there = c.instance-item.is } in
    let own = own_at s (schema_of made) c.args.model.now (model_of made) items c.loop-place.place i c.entity-own.result c.of-entities.ensures.schema c.of-entities.ensures.model at c.entity-own.ensures in
    ((refl, (refl, tt)), (c.of-entities.ensures.schema, (own, no_local_fault s (instances_of c.args.model.now) items c.loop-place.place i c.requires.faultless at)))

pub returns-in-Err-clause-fault : goal.returns-in-Err-clause-fault
returns-in-Err-clause-fault c =
    let items = c.instances-instance-items.result.now in
    let at : At (instances_of c.args.model.now) items c.loop-place.place c.instance-item.result = record { all = c.instances-instance-items.ensures; less = c.loop-place-test.true; there = c.instance-item.is } in
    first_fault c.args.schema.now (instances_of c.args.model.now) items c.loop-place.place c.instance-item.result c.in-Err.kind at c.loop-place.invariant (judged c.args.schema.now (model_of c.of-entities.result) c.args.model.now c.instance-item.result (Some c.in-Err.kind) c.of-entities.ensures.model c.in-Err.ensures)

pub loop-place-preserved : goal.loop-place-preserved
loop-place-preserved c =
    let items = c.instances-instance-items.result.now in
    let at : At (instances_of c.args.model.now) items c.loop-place.place c.instance-item.result = record { all = c.instances-instance-items.ensures; less = c.loop-place-test.true; there = c.instance-item.is } in
    answered_more c.args.schema.now (instances_of c.args.model.now) items c.loop-place.place c.instance-item.result at c.loop-place.invariant (judged c.args.schema.now (model_of c.of-entities.result) c.args.model.now c.instance-item.result None c.of-entities.ensures.model c.in_default.ensures)

pub returns-clause-ok : goal.returns-clause-ok
returns-clause-ok c = answered_all c.args.schema.now (instances_of c.args.model.now) c.instances-instance-items.result.now c.loop-place.place c.instances-instance-items.ensures c.loop-place-test.false c.loop-place.invariant
