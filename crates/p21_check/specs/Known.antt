-- Types of the code whose ids are a schema's.
use Rattle.std.specs.Prelude.{◌≡◌, ◌⊎◌, ℕ, Bool, true, List, Some, map}
use Rattle.p21_tree.specs.Tree.{Tree, absent}
use Rattle.p21_check.specs.Conforms.{Conforms}
use Rattle.p21_express.specs.Schema.{Schema, Expr, Aggregate, array, list, set, bag}
use Rattle.p21_express.specs.declared.declarations.Bounds.{Bounds}
use Rattle.p21_schema.specs.declared.resolved.ResolvedExpr.{ResolvedExpr}
use Rattle.p21_schema.specs.declared.resolved.Target.{Target}
use Rattle.p21_schema.specs.Resolved.{resolved_expr, target_name}

-- the type with a name in the place of each entity and type
abbrev pub IsExpr : Schema → ResolvedExpr → Expr → Type 0
IsExpr s x e = resolved_expr (map (λ e. e.name) s.entities) (map (λ t. t.name) s.types) x ≡ Some e

-- each id in it names something
abbrev pub IsKnownExpr : Schema → ResolvedExpr → Type 0
IsKnownExpr s x = (e : Expr) × IsExpr s x e

-- the name of an entity or a type
abbrev pub IsTarget : Schema → Target → List ℕ → Type 0
IsTarget s t n = target_name (map (λ e. e.name) s.entities) (map (λ t. t.name) s.types) t ≡ Some n

abbrev pub IsKnownTarget : Schema → Target → Type 0
IsKnownTarget s t = (n : List ℕ) × IsTarget s t n

-- a LIST, SET or BAG with these bounds
abbrev pub IsCollection : Aggregate → Bounds → Type 0
IsCollection (array b o) bounds = ⊥
IsCollection (list b u) bounds = b ≡ bounds
IsCollection (set b) bounds = b ≡ bounds
IsCollection (bag b) bounds = b ≡ bounds

-- an element that conforms, or is left out where it may be
abbrev pub IsElement : Schema → Bool → Expr → Tree → Type 0
IsElement s o e t = ((o ≡ true) × (t ≡ absent)) ⊎ Conforms s e t
