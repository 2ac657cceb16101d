use Rattle.std.proofs.Common.{ℕ, ◌<◌}
use Rattle.p21_schema.specs.DeclarationTable.{known_schema, IsNotOwn}
use Rattle.p21_schema.specs.Ancestry.{entity_id, IsA}
use Rattle.p21_schema.proofs.declarations.attribute_above.Given as goal

abbrev pub invariant-loop-owner : goal.invariant-loop-owner
invariant-loop-owner l = (d : ℕ) → d < l.owner → IsA (known_schema l.known) (entity_id l.entity) (entity_id d) → IsNotOwn (known_schema l.known) d l.name
