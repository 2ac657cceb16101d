-- Worked examples: the diamond of a small schema, and a type after two names.
use Rattle.std.proofs.Common.{ℕ, false, true, List, [], ◌∷◌, Some, None, refl, inl, inr, ◌≡◌}
use Rattle.std.specs.Prelude.{codes}
use Rattle.p21_express.specs.Schema.{Schema, Entity, Attribute, Defined, integer, plain, named}
use Rattle.p21_express.specs.WellFormed.{Origin}
use Rattle.p21_schema.specs.Row.{own_attributes, IsRow, row, none, more as further}
use Rattle.p21_schema.specs.Under.{StandsUnder, itself, followed}

abbrev attribute : List ℕ → Attribute
attribute n = record { name = n; of = None; optional = false; texpr = integer }

abbrev base : Entity
base = record { name = codes "BASE"; is_abstract = true; supertypes = []; attributes = attribute (codes "B") ∷ []; derived = [] }

abbrev left : Entity
left = record { name = codes "LEFT"; is_abstract = false; supertypes = codes "BASE" ∷ []; attributes = attribute (codes "L") ∷ []; derived = [] }

abbrev right : Entity
right = record { name = codes "RIGHT"; is_abstract = false; supertypes = codes "BASE" ∷ []; attributes = attribute (codes "R") ∷ []; derived = [] }

-- it newly declares D, declares B again, and derives a new attribute
abbrev both : Entity
both = record {
  name = codes "BOTH";
  is_abstract = false;
  supertypes = codes "LEFT" ∷ codes "RIGHT" ∷ [];
  attributes = attribute (codes "D") ∷ record { name = codes "B"; of = Some (codes "BASE"); optional = true; texpr = integer } ∷ [];
  derived = record { name = codes "E"; of = None } ∷ [];
}

abbrev length_type : Defined
length_type = record { name = codes "LENGTH"; under = plain (named (codes "MEASURE")) }

abbrev measure : Defined
measure = record { name = codes "MEASURE"; under = plain integer }

abbrev small : Schema
small = record { name = codes "SMALL"; entities = base ∷ left ∷ right ∷ both ∷ []; types = length_type ∷ measure ∷ []; distinct = false }

abbrev origin : List ℕ → List ℕ → Origin
origin e n = record { entity = e; name = n }

row_of_base : IsRow small (codes "BASE") (origin (codes "BASE") (codes "B") ∷ [])
row_of_base = row base (inl refl) refl (none refl) refl

row_of_left : IsRow small (codes "LEFT") (origin (codes "BASE") (codes "B") ∷ origin (codes "LEFT") (codes "L") ∷ [])
row_of_left = row left (inr (inl refl)) refl (further row_of_base (none refl) refl) refl

row_of_right : IsRow small (codes "RIGHT") (origin (codes "BASE") (codes "B") ∷ origin (codes "RIGHT") (codes "R") ∷ [])
row_of_right = row right (inr (inr (inl refl))) refl (further row_of_base (none refl) refl) refl

-- the attribute that both supertypes have stands once, at its first place
row_of_both : IsRow small (codes "BOTH") (origin (codes "BASE") (codes "B") ∷ origin (codes "LEFT") (codes "L") ∷ origin (codes "RIGHT") (codes "R") ∷ origin (codes "BOTH") (codes "D") ∷ [])
row_of_both = row both (inr (inr (inr (inl refl)))) refl (further row_of_left (further row_of_right (none refl) refl) refl) refl

-- a redeclaration and an attribute of DERIVE are no own attributes
own_of_both : own_attributes both ≡ origin (codes "BOTH") (codes "D") ∷ []
own_of_both = refl

under_length : StandsUnder small (codes "LENGTH") (plain integer)
under_length = followed length_type (inl refl) refl refl (itself measure (inr (inl refl)) refl refl (λ n e. cc))
