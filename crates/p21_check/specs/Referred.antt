-- The references of an instance, kept apart from it.
use Rattle.std.specs.Prelude.{◌≡◌, ◌+◌, ◌++◌, ◌↔◌, ℕ, List, [], All, Contains, map, length, get_or}
use Rattle.p21_tree.specs.Sentence.{Instance}
use Rattle.p21_express.specs.Schema.{Schema}
use Rattle.p21_check.specs.declared.referred.Reference.{Reference as Kept}
use Rattle.p21_check.specs.declared.wanted.Wanted.{Wanted}
use Rattle.p21_check.specs.declared.wanted.Wanted.TheVariants as asked
use Rattle.p21_check.specs.References.{Reference, HasReference}
use Rattle.p21_check.specs.Wanted.{IsAsked}

-- what the numbers of a schema stand for: the names of its entities, and after them those of its types
abbrev pub numbered : Schema → List (List ℕ)
numbered s = map (λ e. e.name) s.entities ++ map (λ t. t.name) s.types

-- the reference, with the name of the entity or the SELECT that is wanted in place of its number
-- The entities of a schema are numbered first, then its types, each in the order of the text.
abbrev pub plain_reference : Schema → Kept → Reference
plain_reference s r = record { name = r.name; wanted = get_or (numbered s) r.wanted [] }

-- the number is that of the entity or the SELECT of which an instance is asked for
abbrev pub IsNumberOf : Schema → Wanted → ℕ → Type 0
IsNumberOf s asked.Nothing n = ⊥
IsNumberOf s (asked.Entity e) n = n ≡ e.index
IsNumberOf s (asked.Select t) n = n ≡ length s.entities + t.index
IsNumberOf s (asked.Elements e) n = ⊥

-- The number of the reference is that of an entity or a SELECT of this schema.
pub record IsReferenceOf (s : Schema) (r : Kept) : Type 0 where
  pub wanted : Wanted
  pub asked_ : IsAsked s wanted
  pub number : IsNumberOf s wanted r.wanted

-- Those that are kept stand for these references and no others. Their order, and how often one is there, mean nothing.
pub record Stand (s : Schema) (These : Reference → Type 0) (rs : List Kept) : Type 0 where
  pub known_ : All (IsReferenceOf s) rs
  pub same : (r : Reference) → Contains (map (plain_reference s) rs) r ↔ These r

-- the instance has this reference, at some place
abbrev pub HasSomewhere : Schema → Instance → Reference → Type 0
HasSomewhere s i r = (rec_ : ℕ) × (attr : ℕ) × (place : ℕ) × HasReference s i rec_ attr place r

-- these are the references of the instance
-- They stand for the references of the instance and for no others; their order, and how often one is there, mean
-- nothing.
abbrev pub AreReferencesOf : Schema → Instance → List Kept → Type 0
AreReferencesOf s i rs = Stand s (HasSomewhere s i) rs

-- a reference that is asked for at some place
abbrev pub Somewhere : (ℕ → Reference → Type 0) → Reference → Type 0
Somewhere Asked r = (place : ℕ) × Asked place r

-- what stands for these references came after what was there
abbrev pub Adds : Schema → (Reference → Type 0) → List Kept → List Kept → Type 0
Adds s These old new = (rs : List Kept) × (new ≡ old ++ rs) × Stand s These rs
