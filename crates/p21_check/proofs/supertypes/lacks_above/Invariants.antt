use Rattle.std.proofs.Common.{◌↔◌, drop}
use Rattle.p21_schema.specs.Place.{entity_name}
use Rattle.p21_check.specs.Sets.{AnyIn, HasEntity}
use Rattle.p21_check.proofs.supertypes.lacks_above.Given as goal

-- a supertype is lacking where one of those that are left is
abbrev pub invariant-loop-supertype : goal.invariant-loop-supertype
invariant-loop-supertype l = AnyIn (drop l.supertype-index l.supertypes) (λ e. ¬ (HasEntity l.schema l.set (entity_name l.schema e))) ↔ AnyIn l.supertypes (λ e. ¬ (HasEntity l.schema l.set (entity_name l.schema e)))
