use Rattle.p21_rules.specs.declared.rule.InverseRule.{InverseRule}
use Rattle.p21_rules.specs.declared.rule.UniqueRule.{UniqueRule}
use Rattle.p21_rule_run.proofs.TextLemmas.{entity_there}
use Rattle.p21_rule_run.proofs.fault_text.push_fault.Goals as goal

pub push_not_unique-requires : goal.push_not_unique-requires
push_not_unique-requires c = entity_there c.args.schema.now (λ (r : UniqueRule). r.entity) c.args.rules.now.unique.items c.deref.result.now c.in-NotUnique.fault.rule c.unique_entity-entity.result c.unique_entity-entity.ensures c.deref.ensures.value (λ k d less. (c.requires.unique k d less).entity)

pub push_inverse_count-requires : goal.push_inverse_count-requires
push_inverse_count-requires c = entity_there c.args.schema.now (λ (r : InverseRule). r.entity) c.args.rules.now.inverse.items c.deref-in-InverseCount.result.now c.in-InverseCount.fault.rule c.inverse_entity-entity.result c.inverse_entity-entity.ensures c.deref-in-InverseCount.ensures.value (λ k d less. (c.requires.inverse k d less).entity)
