use Rattle.std.proofs.Common.{take}
use Rattle.p21_check.specs.EntityOf.{AreSimpleEntities}
use Rattle.p21_join.specs.Model.{instances_of, plain_instances}
use Rattle.p21_join.proofs.entities.entities_of.Given as goal

-- the instances before this one have these entities
abbrev pub invariant-loop-instance : goal.invariant-loop-instance
invariant-loop-instance l = AreSimpleEntities l.schema (plain_instances (take l.instance-index (instances_of l.model))) l.entities.items
