use Rattle.std.proofs.Common.{Some, None}
use Rattle.p21_express.specs.declared.checks.names.Declared.TheVariants as declared
use Rattle.p21_express.proofs.PositionLemmas.{type_position}
use Rattle.p21_express.proofs.checks.cycles.type_at.Goals as goal

pub returns-in-Some-Entity : goal.returns-in-Some-Entity
returns-in-Some-Entity c = λ s h. type_position s c.args.name.now h.distinct (Some (declared.Entity _)) (rw c.in-Some-Entity.field-0-is at (c.in-Some-Entity.ensures s h.index_is))

pub returns-in-Some-Select : goal.returns-in-Some-Select
returns-in-Some-Select c = λ s h. type_position s c.args.name.now h.distinct (Some (declared.Select _)) (rw c.in-Some-Select.field-0-is at (c.in-Some-Select.ensures s h.index_is))

pub returns-in-Some-Type : goal.returns-in-Some-Type
returns-in-Some-Type c = λ s h. type_position s c.args.name.now h.distinct (Some (declared.Type _)) (rw c.in-Some-Type.field-0-is at (c.in-Some-Type.ensures s h.index_is))

pub returns-in-None : goal.returns-in-None
returns-in-None c = λ s h. type_position s c.args.name.now h.distinct None (c.in-None.ensures s h.index_is)
