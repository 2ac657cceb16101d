-- Own attributes and rows by their places.
use Rattle.std.specs.Prelude.{◌≡◌, ◌<◌, ◌≤◌, ◌+◌, ◌^◌, ℕ, zero, suc, Bool, nat_eq, cond, List, [], ◌∷◌, ◌++◌, Some, map, length, get_or, slice_get, take}
use Rattle.std.specs.List.{list_any}
use Rattle.p21_express.specs.Schema.{Schema}
use Rattle.p21_express.specs.WellFormed.{IsIn}
use Rattle.p21_schema.specs.declared.ids.AttrId.{AttrId}
use Rattle.p21_schema.specs.declared.rows.Own.{Own}
use Rattle.p21_schema.specs.declared.rows.Row.{Row}
use Rattle.p21_schema.specs.declared.rows.Rows.{Rows}
use Rattle.p21_schema.specs.Place.{no_entity, entity_name}
use Rattle.p21_schema.specs.Ancestry.{entity_id}
use Rattle.p21_schema.specs.Row.{own_attributes, attributes_of, attribute_at, IsAttributeOf, IsRow}

-- where the own attributes of an entity stand among all
pub record IsOwn (s : Schema) (i : ℕ) (own : Own) : Type 0 where
  pub from : own.from ≡ length (attributes_of (take i s.entities))
  pub count : own.to ≡ own.from + length (own_attributes (get_or s.entities i no_entity))

abbrev pub no_own : Own
no_own = record { from = 0; to = 0 }

pub record IsOwnTable (s : Schema) (table : List Own) : Type 0 where
  pub count : length table ≡ length s.entities
  pub rows : (i : ℕ) → i < length s.entities → IsOwn s i (get_or table i no_own)

abbrev pub same_id : AttrId → AttrId → Bool
same_id a b = nat_eq a.index b.index

-- the row with one attribute more, where it was not there
abbrev pub kept : List AttrId → AttrId → List AttrId
kept row a = cond (list_any (λ b. same_id b a) row) row (row ++ a ∷ [])

-- the row with these attributes more
abbrev pub all_kept : List AttrId → List AttrId → List AttrId
all_kept row [] = row
all_kept row (a ∷ others) = all_kept (kept row a) others

-- so many ids from one on
abbrev pub ids_from : ℕ → ℕ → List AttrId
ids_from i zero = []
ids_from i (suc n) = record { index = i } ∷ ids_from (suc i) n

-- the rows of some entities, one after the other
abbrev pub joined : (ℕ → List AttrId) → List ℕ → List AttrId
joined row [] = []
joined row (e ∷ es) = row e ++ joined row es

-- the row of the entity at a place
pub record IsRowAt (s : Schema) (i : ℕ) (ids : List AttrId) : Type 0 where
  pub is : IsRow s (entity_name s (entity_id i)) (map (attribute_at s) ids)
  pub known : (a : AttrId) → IsIn ids a → IsAttributeOf s a

-- the row of an entity among all
abbrev pub row_of : List (List AttrId) → ℕ → List AttrId
row_of all e = get_or all e []

-- with how many attributes of another row the row of an entity begins, and the rest of it
abbrev pub from_of : List Row → ℕ → ℕ
from_of rows e = get_or (map (λ row. row.from) rows) e 0

abbrev pub rest_of : List Row → ℕ → List AttrId
rest_of rows e = get_or (map (λ row. row.rest.items) rows) e []

-- a row begins with the whole row of an entity, and that row begins with fewer attributes of another
pub record IsBegun (all : List (List AttrId)) (rows : List Row) (above from : ℕ) : Type 0 where
  pub below : above < length rows
  pub count : from ≡ length (row_of all above)
  pub fewer : from_of rows above < from

-- so many attributes, if any, with which the row of these begins are the whole row of an entity
pub record IsBeginning (all : List (List AttrId)) (rows : List Row) (ids : List AttrId) (above from : ℕ) : Type 0 where
  pub within : from ≤ length ids
  pub same : take from ids ≡ take from (row_of all above)
  pub begun : 0 < from → IsBegun all rows above from

-- these attributes are those with which the row begins, if any, and then the rest
pub record IsRowOver (all : List (List AttrId)) (rows : List Row) (ids : List AttrId) (row : Row) : Type 0 where
  pub whole : ids ≡ take row.from (row_of all row.above) ++ row.rest.items
  pub begun : 0 < row.from → IsBegun all rows row.above row.from
  pub fits : length ids < 2 ^ 64

pub record AreRowsOver (all : List (List AttrId)) (rows : List Row) : Type 0 where
  pub count : length all ≡ length rows
  pub each : (e : ℕ) (row : Row) → e < length rows → row ≡ get_or rows e row → IsRowOver all rows (row_of all e) row

-- the indices of all attributes in the rows are below the count
abbrev pub AreWithin : ℕ → List Row → Type 0
AreWithin count rows = (e : ℕ) (a : AttrId) → IsIn (rest_of rows e) a → a.index < count

-- the row of another entity has the same attribute at the position
abbrev pub IsSamePosition : List (List AttrId) → ℕ → ℕ → ℕ → Type 0
IsSamePosition all e other position = position < length (row_of all e) → (position < length (row_of all other)) × (slice_get (row_of all e) position ≡ slice_get (row_of all other) position)

-- the row begins with the whole row of the first of some entities
abbrev pub BeginsWithFirst : List (List AttrId) → List ℕ → List AttrId → Type 0
BeginsWithFirst all es ids = (e : ℕ) → slice_get es 0 ≡ Some e → (rest : List AttrId) × (ids ≡ row_of all e ++ rest)

pub record IsRowTable (s : Schema) (table : Rows) : Type 0 where
  pub all : List (List AttrId)
  pub over : AreRowsOver all table.rows.items
  pub count : length all ≡ length s.entities
  pub rows : (i : ℕ) → i < length s.entities → IsRowAt s i (row_of all i)
