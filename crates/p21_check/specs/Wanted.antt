-- What a type asks of the references in a parameter, as the code keeps it.
use Rattle.std.specs.Prelude.{◌≡◌, ◌+◌, ◌⊎◌, ◌↔◌, ℕ, Bool, true, false, List, Option, Some, map}
use Rattle.p21_tree.specs.Tree.{Tree, Trees, reference, items, typed, cons}
use Rattle.p21_tree.specs.Sentence.{Instance}
use Rattle.p21_express.specs.Schema.{Schema, Expr, named}
use Rattle.p21_express.specs.WellFormed.{IsIn, IsEntity, IsSelect}
use Rattle.p21_schema.specs.declared.resolved.ResolvedExpr.{ResolvedExpr}
use Rattle.p21_schema.specs.Place.{IsEntityOf, entity_name, IsTypeOf, type_name}
use Rattle.p21_schema.specs.Resolved.{resolved_expr}
use Rattle.p21_schema.specs.Select.{SelectReaches, ReachesA, ReachesType}
use Rattle.p21_schema.specs.declared.ids.EntityId.{EntityId}
use Rattle.p21_schema.specs.Ancestry.{IsA}
use Rattle.p21_check.specs.declared.wanted.Wanted.{Wanted}
use Rattle.p21_check.specs.declared.wanted.Wanted.TheVariants as asked
use Rattle.p21_check.specs.References.{Reference, Refers, RefersAmong, IsWanted, name_count}

-- the type by its names
abbrev pub by_names : Schema → ResolvedExpr → Option Expr
by_names s e = resolved_expr (map (λ e. e.name) s.entities) (map (λ t. t.name) s.types) e

-- the parameter is an instance name, for which this is wanted
pub record IsName (p : Tree) (place : ℕ) (r : Reference) (wanted : List ℕ) : Type 0 where
  pub name : p ≡ reference r.name
  pub first : place ≡ 0
  pub for_ : r.wanted ≡ wanted

-- the parameter is typed, by a type that the SELECT reaches
pub record IsTyped (s : Schema) (select : List ℕ) (p : Tree) (place : ℕ) (r : Reference) : Type 0 where
  pub keyword : List ℕ
  pub inner : Tree
  pub typed_ : p ≡ typed keyword inner
  pub reached : ReachesType s select keyword
  pub refers : Refers s (named keyword) inner place r

-- the parameter is a list of elements of the type
pub record IsListed (s : Schema) (e : ResolvedExpr) (p : Tree) (place : ℕ) (r : Reference) : Type 0 where
  pub element : Expr
  pub elements : Trees
  pub is : by_names s e ≡ Some element
  pub listed : p ≡ items elements
  pub refers : RefersAmong s element elements place r

-- a reference that is asked for
abbrev pub Asks : Schema → Wanted → Tree → ℕ → Reference → Type 0
Asks s asked.Nothing p place r = ⊥
Asks s (asked.Entity e) p place r = IsName p place r (entity_name s e)
Asks s (asked.Select t) p place r = IsName p place r (type_name s t) ⊎ IsTyped s (type_name s t) p place r
Asks s (asked.Elements e) p place r = IsListed s e.now p place r

-- the same of elements
pub data AsksAmong (s : Schema) (w : Wanted) : Trees → ℕ → Reference → Type 0 where
  here : {t : Tree} {ts : Trees} {place : ℕ} {r : Reference} → Asks s w t place r → AsksAmong s w (cons t ts) place r
  behind : {t : Tree} {ts : Trees} {place : ℕ} {r : Reference} → AsksAmong s w ts place r → AsksAmong s w (cons t ts) (name_count t + place) r

-- what is asked is of the schema
abbrev pub IsAsked : Schema → Wanted → Type 0
IsAsked s asked.Nothing = Unit {0}
IsAsked s (asked.Entity e) = IsEntityOf s e
IsAsked s (asked.Select t) = IsTypeOf s t × IsSelect s (type_name s t)
IsAsked s (asked.Elements e) = (x : Expr) × (by_names s e.now ≡ Some x)

-- this is what the type asks
pub record IsAskedBy (s : Schema) (x : Expr) (w : Wanted) : Type 0 where
  pub asked_ : IsAsked s w
  pub same : (p : Tree) (place : ℕ) (r : Reference) → Refers s x p place r ↔ Asks s w p place r

-- this is what is asked of elements
pub record IsAskedOfElements (s : Schema) (w inner : Wanted) : Type 0 where
  pub asked_ : IsAsked s inner
  pub same : (ts : Trees) (place : ℕ) (r : Reference) → Asks s w (items ts) place r ↔ AsksAmong s inner ts place r

-- this is what is asked in a typed parameter
pub record IsAskedInside (s : Schema) (w inner : Wanted) (keyword : List ℕ) : Type 0 where
  pub asked_ : IsAsked s inner
  pub same : (p : Tree) (place : ℕ) (r : Reference) → Asks s w (typed keyword p) place r ↔ Asks s inner p place r

abbrev pub is_name : Wanted → Bool
is_name asked.Nothing = false
is_name (asked.Entity e) = true
is_name (asked.Select t) = true
is_name (asked.Elements e) = false

-- the instance is of an entity that is asked for
abbrev pub Admits : Schema → Wanted → Instance → Type 0
Admits s asked.Nothing i = Unit {0}
Admits s (asked.Entity e) i = IsWanted s i (entity_name s e)
Admits s (asked.Select t) i = IsWanted s i (type_name s t)
Admits s (asked.Elements e) i = Unit {0}

-- the name is that of an entity that is asked for
abbrev pub IsMetBy : Schema → Wanted → List ℕ → Type 0
IsMetBy s asked.Nothing n = ⊥
IsMetBy s (asked.Entity e) n = IsEntity s n × (n ≡ entity_name s e)
IsMetBy s (asked.Select t) n = IsEntity s n × SelectReaches s (type_name s t) n
IsMetBy s (asked.Elements e) n = ⊥

-- one of the names is
pub record IsNamed (s : Schema) (w : Wanted) (names : List (List ℕ)) : Type 0 where
  pub name : List ℕ
  pub among : IsIn names name
  pub meets : IsMetBy s w name

-- the entity or an ancestor of it is asked for
abbrev pub IsMetFrom : Schema → Wanted → EntityId → Type 0
IsMetFrom s asked.Nothing own = ⊥
IsMetFrom s (asked.Entity e) own = IsA s own e
IsMetFrom s (asked.Select t) own = ReachesA s (type_name s t) (entity_name s own)
IsMetFrom s (asked.Elements e) own = ⊥
