-- Names but for the case of their letters.
use Rattle.std.specs.Prelude.{◌≡◌, ℕ, List, [], ◌∷◌, ◌++◌, map, Vec}
use Rattle.std.specs.List.{flat_map}
use Rattle.std.specs.Char.{to_ascii_lowercase}
use Rattle.p21_express.specs.Schema.{Schema, Entity, Attribute}
use Rattle.p21_express.specs.WellFormed.{with_new, new_explicit}
use Rattle.p21_spelling.specs.declared.declared.Spellings.{Spellings}

-- a name in lower case
abbrev pub lower : List ℕ → List ℕ
lower name = map to_ascii_lowercase name

-- spellings in lower case
abbrev pub names_in : {A : Type 0} → List (Vec ℕ A) → List (List ℕ)
names_in spelled = map (λ v. lower v.items) spelled

-- the name of an attribute, where it is newly declared
abbrev pub attribute_names : Attribute → List (List ℕ)
attribute_names a = with_new a.of a.name []

-- the names of the explicit attributes that an entity newly declares
abbrev pub own_names : Entity → List (List ℕ)
own_names e = new_explicit e.attributes

-- each spelling is the declared name but for the case of letters, in the order of the text
pub record AreSpelled (s : Schema) (spelled : Spellings) : Type 0 where
  pub entities : names_in spelled.entities.items ≡ map (λ e. lower e.name) s.entities
  pub attributes : names_in spelled.attributes.items ≡ map lower (flat_map own_names s.entities)
  pub types : names_in spelled.types.items ≡ map (λ t. lower t.name) s.types
