-- What a type takes that is more than one token.
use Rattle.std.specs.Prelude.{◌≡◌, ℕ, Bool, true, false, List, length}
use Rattle.p21_express.specs.Schema.{Schema, Expr, named}
use Rattle.p21_express.specs.declared.declarations.Bounds.{Bounds}
use Rattle.p21_schema.specs.declared.ids.TypeId.{TypeId}
use Rattle.p21_schema.specs.Place.{type_name}
use Rattle.p21_tree.specs.Plain.{plain_all}
use Rattle.p21_tree.specs.Tree.{Tree, items, typed}
use Rattle.p21_tree.specs.declared.params.Param.{Param}
use Rattle.p21_check.specs.declared.shape.Elements.{Elements}
use Rattle.p21_check.specs.Conforms.{Conforms, AreElements, IsSpan, IsWithin}
use Rattle.p21_check.specs.Known.{IsExpr}

-- so many elements may be there: of an ARRAY, or of another aggregate
abbrev pub IsCountBy : Bool → Bounds → ℕ → Type 0
IsCountBy true b n = IsSpan b.low b.high n
IsCountBy false b n = IsWithin b n

-- the type takes each list of so many such elements
pub record TakesElements (s : Schema) (e : Expr) (r : Elements) : Type 0 where
  pub item : Expr
  pub is : IsExpr s r.item.now item
  pub takes : (ps : List Param) → IsCountBy r.array r.bounds (length ps) → AreElements s r.optional item (plain_all ps) → Conforms s e (items (plain_all ps))

-- the type takes each parameter of this type with its keyword
abbrev pub TakesTyped : Schema → Expr → List ℕ → TypeId → Type 0
TakesTyped s e keyword id = (p : Tree) → Conforms s (named (type_name s id)) p → Conforms s e (typed keyword p)
