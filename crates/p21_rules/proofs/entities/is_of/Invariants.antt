use Rattle.std.proofs.Common.{List, ℕ, drop}
use Rattle.p21_check.specs.Sets.{AnyIn}
use Rattle.p21_schema.specs.Place.{entity_name}
use Rattle.p21_rules.specs.Named.{AreNamed, IsBelow}
use Rattle.p21_rules.proofs.entities.is_of.Given as goal

-- a name below the entity is among those that are left
abbrev pub invariant-loop-place : goal.invariant-loop-place
invariant-loop-place l = (ks : List (List ℕ)) → AreNamed l.schema ks l.named → AnyIn ks (IsBelow l.schema (entity_name l.schema l.entity)) → AnyIn (drop l.place ks) (IsBelow l.schema (entity_name l.schema l.entity))
