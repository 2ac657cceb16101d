-- What stands under a type.
use Rattle.std.specs.Prelude.{◌≡◌, ◌<◌, ◌⊎◌, IfSome, ℕ, List, [], Some, map, length, get_or}
use Rattle.std.specs.List.{AllByRecursion}
use Rattle.p21_express.specs.Schema.{Schema, Defined, Underlying, items, select, plain, named}
use Rattle.p21_express.specs.WellFormed.{IsIn, name_in}
use Rattle.p21_schema.specs.declared.resolved.Resolved.{Resolved}
use Rattle.p21_schema.specs.declared.resolved.Resolved.TheVariants as resolved
use Rattle.p21_schema.specs.Place.{no_type}
use Rattle.p21_schema.specs.Resolved.{target_name, resolved_expr}

-- it is more than a name alone
abbrev pub IsNoName : Underlying → Type 0
IsNoName u = (n : List ℕ) → ¬ (u ≡ plain (named n))

-- What stands under a type, where a type's name alone is followed to what stands under that type.
pub data StandsUnder (s : Schema) : List ℕ → Underlying → Type 0 where
  itself : {n : List ℕ} {u : Underlying} (t : Defined) → IsIn s.types t → t.name ≡ n → t.under ≡ u → IsNoName u → StandsUnder s n u
  followed : {n m : List ℕ} {u : Underlying} (t : Defined) → IsIn s.types t → t.name ≡ n → t.under ≡ plain (named m) → StandsUnder s m u → StandsUnder s n u

-- the same with an entity or a type in the place of each name
abbrev pub IsResolved : List (List ℕ) → List (List ℕ) → Resolved → Underlying → Type 0
IsResolved entities types (resolved.Items v) (items ns) = map (λ x. x.items) v.items ≡ ns
IsResolved entities types (resolved.Select v) (select ns) = map (target_name entities types) v.items ≡ map Some ns
IsResolved entities types (resolved.Plain e) (plain x) = resolved_expr entities types e ≡ Some x
IsResolved entities types _ _ = ⊥

-- The same with an entity or a type in the place of each name.
abbrev pub IsResolvedIn : Schema → Resolved → Underlying → Type 0
IsResolvedIn s = IsResolved (map (λ e. e.name) s.entities) (map (λ t. t.name) s.types)

-- each name in it is an entity's or a type's
abbrev pub AreKnown : List (List ℕ) → List (List ℕ) → Underlying → Type 0
AreKnown entities types (items ns) = Unit {0}
AreKnown entities types (select ns) = AllByRecursion (λ n. IsIn entities n ⊎ IsIn types n) ns
AreKnown entities types (plain e) = IfSome (name_in e) (λ n. IsIn entities n ⊎ IsIn types n)

-- the row of a type: the place of the type whose name alone stands under it
pub record IsOtherRow (types : List (List ℕ)) (row : List ℕ) (u : Underlying) : Type 0 where
  pub other : (b : ℕ) → IsIn row b → (b < length types) × (u ≡ plain (named (get_or types b [])))
  pub all : (n : List ℕ) → u ≡ plain (named n) → ¬ (row ≡ [])

pub record AreOthers (types : List (List ℕ)) (graph : List (List ℕ)) (all : List Defined) : Type 0 where
  pub count : length graph ≡ length all
  pub rows : (i : ℕ) → i < length all → IsOtherRow types (get_or graph i []) (get_or all i no_type).under

-- the way from a type ends at this one
pub record IsEnd (s : Schema) (i end : ℕ) : Type 0 where
  pub below : end < length s.types
  pub stands : StandsUnder s (get_or s.types i no_type).name (get_or s.types end no_type).under

pub record AreEnds (s : Schema) (ends : List ℕ) : Type 0 where
  pub count : length ends ≡ length s.types
  pub rows : (i : ℕ) → i < length s.types → IsEnd s i (get_or ends i 0)

pub record AreResolved (entities types : List (List ℕ)) (found : List Resolved) (all : List Defined) : Type 0 where
  pub count : length found ≡ length all
  pub rows : (i : ℕ) (d : Resolved) → i < length all → IsResolved entities types (get_or found i d) (get_or all i no_type).under
