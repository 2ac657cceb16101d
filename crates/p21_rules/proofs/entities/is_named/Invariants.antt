use Rattle.std.proofs.Common.{◌≡◌, List, ℕ, drop}
use Rattle.p21_check.specs.Sets.{AnyIn}
use Rattle.p21_schema.specs.Place.{entity_name}
use Rattle.p21_rules.specs.Named.{AreNamed}
use Rattle.p21_rules.proofs.entities.is_named.Given as goal

-- the entity's name is among those that are left
abbrev pub invariant-loop-place : goal.invariant-loop-place
invariant-loop-place l = (ks : List (List ℕ)) → AreNamed l.schema ks l.named → AnyIn ks (λ k. entity_name l.schema l.entity ≡ k) → AnyIn (drop l.place ks) (λ k. entity_name l.schema l.entity ≡ k)
