-- The terms of a schema.
use Rattle.std.specs.Prelude.{◌≡◌, ◌<◌, ℕ, List, [], length, map, get_or, string_bytes, String, Some}
use Rattle.p21_express.specs.Schema.{Schema, Expr}
use Rattle.p21_graph.specs.Graph.{rows_of}
use Rattle.p21_schema.specs.declared.ids.EntityId.{EntityId}
use Rattle.p21_schema.specs.declared.resolved.ResolvedExpr.{ResolvedExpr}
use Rattle.p21_schema.specs.declared.resolved.Target.{Target}
use Rattle.p21_schema.specs.Resolved.{resolved_expr, target_name}
use Rattle.p21_schema.specs.Row.{attributes_of}
use Rattle.p21_json.specs.declared.terms.Terms.TheInside.{Inside}
use Rattle.p21_json.specs.Spelled.{IsSpelled}
use Rattle.p21_json.specs.Flags.{AreLogical}
use Rattle.p21_json.specs.Keys.{AreDeclared, AreFlags}

-- texts by places are those of names by places
pub record AreTexts {A : Type 0} (texts : List (String A)) (names : List (List ℕ)) : Type 0 where
  pub count : length texts ≡ length names
  pub each : (i : ℕ) (d : String A) → i < length names → IsSpelled (string_bytes (get_or texts i d)) (get_or names i [])

pub record AreTerms (a : Inside) : Type 0 where
  pub entities : AreTexts a.entities.items (map (λ e. e.name) a.schema.now.entities)
  pub attributes : AreTexts a.attributes.items (map (λ o. o.name) (attributes_of a.schema.now.entities))
  pub types : AreTexts a.types.items (map (λ t. t.name) a.schema.now.types)
  pub logical : AreLogical a.schema.now a.logical.items
  pub declared : AreDeclared a.schema.now a.declared.items
  pub taken : (e : EntityId) → AreFlags a.schema.now e (get_or (rows_of a.taken) e.index [])

-- the type with a name in the place of each entity and type
abbrev pub IsExpr : Schema → ResolvedExpr → Expr → Type 0
IsExpr s x e = resolved_expr (map (λ e. e.name) s.entities) (map (λ t. t.name) s.types) x ≡ Some e

-- the name of an entity or a type
abbrev pub IsTarget : Schema → Target → List ℕ → Type 0
IsTarget s t n = target_name (map (λ e. e.name) s.entities) (map (λ t. t.name) s.types) t ≡ Some n
