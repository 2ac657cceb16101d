-- Where a type has lists in which no two elements may be equal, as the code keeps it.
use Rattle.std.specs.Prelude.{◌≡◌, ◌⊎◌, ◌↔◌, ℕ, Bool, true, false, List, Some}
use Rattle.p21_tree.specs.Tree.{Tree, Trees, items, typed, cons}
use Rattle.p21_express.specs.Schema.{Schema, Expr, named}
use Rattle.p21_express.specs.WellFormed.{IsSelect}
use Rattle.p21_schema.specs.declared.resolved.ResolvedExpr.{ResolvedExpr}
use Rattle.p21_schema.specs.Place.{IsTypeOf, type_name}
use Rattle.p21_schema.specs.Select.{ReachesType}
use Rattle.p21_check.specs.declared.lists.Lists.{Lists}
use Rattle.p21_check.specs.declared.lists.Lists.TheVariants as lists
use Rattle.p21_check.specs.Repeats.{Repeats, RepeatsAmong, HasTwice, names_among}
use Rattle.p21_check.specs.Wanted.{by_names}

-- the parameter is typed, by a type that the SELECT reaches, and a list in it repeats a name
pub record IsRepeatingTyped (s : Schema) (select : List ℕ) (p : Tree) : Type 0 where
  pub keyword : List ℕ
  pub inner : Tree
  pub typed_ : p ≡ typed keyword inner
  pub reached : ReachesType s select keyword
  pub repeats : Repeats s (named keyword) inner

-- a list repeats a name, where no two of its elements may be equal, or one of its elements has such a list in it
abbrev pub RepeatsHere : Schema → Bool → Expr → Trees → Type 0
RepeatsHere s unique e ts = ((unique ≡ true) × HasTwice (names_among ts)) ⊎ RepeatsAmong s e ts

-- the parameter is a list of elements of the type, and repeats a name
pub record IsRepeatingList (s : Schema) (unique : Bool) (e : ResolvedExpr) (p : Tree) : Type 0 where
  pub element : Expr
  pub elements : Trees
  pub is : by_names s e ≡ Some element
  pub listed : p ≡ items elements
  pub repeats : RepeatsHere s unique element elements

-- a list in the parameter repeats a name
abbrev pub RepeatsBy : Schema → Lists → Tree → Type 0
RepeatsBy s lists.Nowhere p = ⊥
RepeatsBy s (lists.InTyped t) p = IsRepeatingTyped s (type_name s t) p
RepeatsBy s (lists.Here u e) p = IsRepeatingList s u e.now p

-- the same of elements
pub data RepeatsAmongBy (s : Schema) (l : Lists) : Trees → Type 0 where
  here : {t : Tree} {ts : Trees} → RepeatsBy s l t → RepeatsAmongBy s l (cons t ts)
  behind : {t : Tree} {ts : Trees} → RepeatsAmongBy s l ts → RepeatsAmongBy s l (cons t ts)

abbrev pub is_unique : Lists → Bool
is_unique lists.Nowhere = false
is_unique (lists.InTyped t) = false
is_unique (lists.Here u e) = u

-- what is named is of the schema
abbrev pub AreKnownLists : Schema → Lists → Type 0
AreKnownLists s lists.Nowhere = Unit {0}
AreKnownLists s (lists.InTyped t) = IsTypeOf s t × IsSelect s (type_name s t)
AreKnownLists s (lists.Here u e) = (x : Expr) × (by_names s e.now ≡ Some x)

-- these are the lists of a type
pub record AreListsOf (s : Schema) (x : Expr) (l : Lists) : Type 0 where
  pub known : AreKnownLists s l
  pub same : (p : Tree) → Repeats s x p ↔ RepeatsBy s l p

-- these are the lists of elements
pub record AreListsOfElements (s : Schema) (l inner : Lists) : Type 0 where
  pub known : AreKnownLists s inner
  pub same : (ts : Trees) → RepeatsBy s l (items ts) ↔ (((is_unique l ≡ true) × HasTwice (names_among ts)) ⊎ RepeatsAmongBy s inner ts)

-- these are the lists of the parameter in a typed one
pub record AreListsInside (s : Schema) (l inner : Lists) (keyword : List ℕ) : Type 0 where
  pub known : AreKnownLists s inner
  pub same : (p : Tree) → RepeatsBy s l (typed keyword p) ↔ RepeatsBy s inner p
