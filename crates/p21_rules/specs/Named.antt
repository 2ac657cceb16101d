-- The entities that the records of an instance name.
use Rattle.std.specs.Prelude.{◌≡◌, ◌⊎◌, ℕ, List, Option, None, Some}
use Rattle.std.specs.List.{AllZip}
use Rattle.p21_express.specs.Schema.{Schema}
use Rattle.p21_express.specs.WellFormed.{IsAncestor, IsEntity}
use Rattle.p21_schema.specs.declared.ids.EntityId.{EntityId}
use Rattle.p21_schema.specs.Place.{entity_name, IsEntityOf}

-- the entity of this name, or none where there is none
abbrev pub IsNamed : Schema → List ℕ → Option EntityId → Type 0
IsNamed s k None = ¬ (IsEntity s k)
IsNamed s k (Some e) = IsEntityOf s e × (entity_name s e ≡ k)

-- the same of each name
abbrev pub AreNamed : Schema → List (List ℕ) → List (Option EntityId) → Type 0
AreNamed s ks es = AllZip (λ e k. IsNamed s k e) es ks

-- the name is the entity's, or that of one that has it as an ancestor
abbrev pub IsBelow : Schema → List ℕ → List ℕ → Type 0
IsBelow s n k = IsEntity s k × ((k ≡ n) ⊎ IsAncestor s k n)
