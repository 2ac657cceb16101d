-- Attributes, and the row of an entity.
use Rattle.std.specs.Prelude.{◌≡◌, ◌<◌, ◌&&◌, ℕ, Bool, not, List, [], ◌∷◌, ◌++◌, map, length, get_or}
use Rattle.std.specs.List.{filter}
use Rattle.std.specs.Str.{bytes_eq}
use Rattle.p21_express.specs.Schema.{Schema, Entity}
use Rattle.p21_express.specs.WellFormed.{IsIn, Origin, new_explicit}
use Rattle.p21_schema.specs.declared.ids.AttrId.{AttrId}

-- the newly declared explicit attributes of an entity, in order
abbrev pub own_attributes : Entity → List Origin
own_attributes e = map (λ n. record { entity = e.name; name = n }) (new_explicit e.attributes)

-- those of all entities, in the order of the text
abbrev pub attributes_of : List Entity → List Origin
attributes_of [] = []
attributes_of (e ∷ es) = own_attributes e ++ attributes_of es

-- the id is of this schema
abbrev pub IsAttributeOf : Schema → AttrId → Type 0
IsAttributeOf s a = a.index < length (attributes_of s.entities)

abbrev pub no_attribute : Origin
no_attribute = record { entity = []; name = [] }

-- the attribute that an id names, by its place in the text
abbrev pub attribute_at : Schema → AttrId → Origin
attribute_at s a = get_or (attributes_of s.entities) a.index no_attribute

abbrev pub same_origin : Origin → Origin → Bool
same_origin a b = bytes_eq a.entity b.entity && bytes_eq a.name b.name

-- each element at its first place alone: one that came before is dropped
abbrev pub first_places : {X : Type 0} → (X → X → Bool) → List X → List X
first_places same [] = []
first_places same (x ∷ xs) = x ∷ filter (λ y. not (same x y)) (first_places same xs)

mutual
  -- The row of an entity is the rows of its supertypes in order, and then its own newly declared explicit attributes, each
  -- attribute at its first place.
  pub data IsRow (s : Schema) : List ℕ → List Origin → Type 0 where
    row : {n : List ℕ} {all above : List Origin} (e : Entity) → IsIn s.entities e → e.name ≡ n → AreRows s e.supertypes above → all ≡ first_places same_origin (above ++ own_attributes e) → IsRow s n all

  -- the rows of some entities, one after the other
  pub data AreRows (s : Schema) : List (List ℕ) → List Origin → Type 0 where
    none : {all : List Origin} → all ≡ [] → AreRows s [] all
    more : {n : List ℕ} {ns : List (List ℕ)} {one rest all : List Origin} → IsRow s n one → AreRows s ns rest → all ≡ one ++ rest → AreRows s (n ∷ ns) all
