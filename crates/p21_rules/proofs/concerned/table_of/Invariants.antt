use Rattle.std.proofs.Common.{◌≡◌, ◌∷◌, ℕ, [], Global, Some, Vec, length}
use Rattle.std.specs.Prelude.{slice_get}
use Rattle.p21_schema.specs.Place.{entity_name}
use Rattle.p21_schema.specs.declared.ids.EntityId.{EntityId}
use Rattle.p21_rules.specs.Concerned.{AreConcerned}
use Rattle.p21_rules.proofs.concerned.table_of.Given as goal

-- the numbers for the entities so far
abbrev pub invariant-loop-place : goal.invariant-loop-place
invariant-loop-place l = record {
  long : length l.table.items ≡ l.place;
  each : (e : EntityId) (ns : Vec ℕ Global) → slice_get l.table.items e.index ≡ Some ns → AreConcerned l.schema (entity_name l.schema e ∷ []) 0 l.wanted ns.items;
}
