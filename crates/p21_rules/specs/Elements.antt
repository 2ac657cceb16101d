-- The lists that stand for a type.
use Rattle.std.specs.Prelude.{◌≡◌, ℕ, Bool, true, false, List, Option, Some, None}
use Rattle.p21_express.specs.Schema.{Schema, Expr, Aggregate, array, list, set, bag, aggregate, named, plain}
use Rattle.p21_schema.specs.Under.{StandsUnder}
use Rattle.p21_check.specs.Wanted.{by_names}
use Rattle.p21_rules.specs.declared.elements.Elements.{Elements}

-- the order of the elements counts
abbrev pub is_ordered : Aggregate → Bool
is_ordered (array b o) = true
is_ordered (list b u) = true
is_ordered (set b) = false
is_ordered (bag b) = false

-- The type is this aggregate of elements of a type, or the name of a type under which it stands.
pub data IsListOf (s : Schema) : Expr → Aggregate → Expr → Type 0 where
  itself : {a : Aggregate} {e : Expr} → IsListOf s (aggregate a e) a e
  under : {n : List ℕ} {a : Aggregate} {e : Expr} → StandsUnder s n (plain (aggregate a e)) → IsListOf s (named n) a e

-- these are the elements of the lists that stand for the type
pub record IsElementsOf (s : Schema) (x : Expr) (found : Elements) : Type 0 where
  pub aggregate_ : Aggregate
  pub element : Expr
  pub listed : IsListOf s x aggregate_ element
  pub ordered : found.ordered ≡ is_ordered aggregate_
  pub item : by_names s found.item.now ≡ Some element

-- the same, or no list stands for the type
abbrev pub AreElements : Schema → Expr → Option Elements → Type 0
AreElements s x None = (a : Aggregate) (e : Expr) → ¬ (IsListOf s x a e)
AreElements s x (Some found) = IsElementsOf s x found
