use Rattle.std.proofs.Common.{◌↔◌, drop, map}
use Rattle.p21_express.specs.WellFormed.{IsIn}
use Rattle.p21_schema.specs.Place.{entity_name}
use Rattle.p21_check.proofs.supertypes.is_subtype.Given as goal

-- the other is a supertype where it is one of those that are left
abbrev pub invariant-loop-supertype : goal.invariant-loop-supertype
invariant-loop-supertype l = IsIn (map (entity_name l.schema) (drop l.supertype-index l.supertypes)) (entity_name l.schema l.other) ↔ IsIn (map (entity_name l.schema) l.supertypes) (entity_name l.schema l.other)
