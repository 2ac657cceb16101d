-- Types in which each name is an entity or a type, as plain values.
use Rattle.std.specs.Prelude.{ℕ, List, Option, Some, slice_get, option_map}
use Rattle.p21_express.specs.Schema.{Expr, integer, number, boolean, logical, real, text, binary, aggregate, named, array, list, set, bag}
use Rattle.p21_schema.specs.declared.resolved.Target.{Target}
use Rattle.p21_schema.specs.declared.resolved.Target.TheVariants as target
use Rattle.p21_schema.specs.declared.resolved.ResolvedExpr.{ResolvedExpr, fold-ResolvedExpr, ResolvedExpr-F}
use Rattle.p21_schema.specs.declared.resolved.ResolvedExpr.TheOpen as level

-- the name of what stands there, by the names of all entities and types
abbrev pub target_name : List (List ℕ) → List (List ℕ) → Target → Option (List ℕ)
target_name entities types (target.Entity e) = slice_get entities e.index
target_name entities types (target.Defined t) = slice_get types t.index

-- the type with names, where each id names something
abbrev pub resolved_level : List (List ℕ) → List (List ℕ) → ResolvedExpr-F (Option Expr) → Option Expr
resolved_level entities types level.Integer = Some integer
resolved_level entities types level.Number = Some number
resolved_level entities types level.Boolean = Some boolean
resolved_level entities types level.Logical = Some logical
resolved_level entities types level.Real = Some real
resolved_level entities types (level.Text w) = Some (text w)
resolved_level entities types (level.Binary w) = Some (binary w)
resolved_level entities types (level.Array b o e) = option_map (aggregate (array b o)) e.value
resolved_level entities types (level.List b u e) = option_map (aggregate (list b u)) e.value
resolved_level entities types (level.Set b e) = option_map (aggregate (set b)) e.value
resolved_level entities types (level.Bag b e) = option_map (aggregate (bag b)) e.value
resolved_level entities types (level.Named t) = option_map named (target_name entities types t)

abbrev pub resolved_expr : List (List ℕ) → List (List ℕ) → ResolvedExpr → Option Expr
resolved_expr entities types e = fold-ResolvedExpr (Option Expr) (resolved_level entities types) e
