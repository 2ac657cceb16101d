use Rattle.p21_express.specs.Schema.{Entity}
use Rattle.p21_express.specs.Plain.{plain_entity}
use Rattle.p21_schema.proofs.NameLemmas.{new_name, more_names}
use Rattle.p21_schema.proofs.names.entity_names.Goals as goal

pub push-requires : goal.push-requires
push-requires c = new_name (λ (d : Entity). d.name) plain_entity c.args.entities.now c.loop-entity.entity-index c.entity-item.result c.deref.result.now c.loop-entity-test.true c.entity-item.is c.deref.ensures.value c.loop-entity.names c.requires c.loop-entity.invariant

pub loop-entity-preserved : goal.loop-entity-preserved
loop-entity-preserved c = more_names (λ (d : Entity). d.name) plain_entity c.args.entities.now c.loop-entity.entity-index c.entity-item.result c.deref.result.now c.loop-entity-test.true c.entity-item.is c.deref.ensures.value c.loop-entity.names c.push.new.self c.loop-entity.invariant c.in_ok-push.ensures
