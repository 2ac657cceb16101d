use Rattle.std.proofs.Common.{◌≡◌, ◌<◌, ℕ, List, Some, slice_get}
use Rattle.p21_express.specs.WellFormed.{Origin}
use Rattle.p21_schema.specs.Place.{entity_name}
use Rattle.p21_schema.specs.Row.{IsRow}
use Rattle.p21_json.proofs.keys.is_taken.Given as goal

-- none before has the name
abbrev pub invariant-loop-before : goal.invariant-loop-before
invariant-loop-before l = (os : List Origin) (o : Origin) → IsRow l.schema (entity_name l.schema l.entity) os → slice_get os l.position ≡ Some o → (q : ℕ) (p : Origin) → q < l.before → slice_get os q ≡ Some p → ¬ (p.name ≡ o.name)
