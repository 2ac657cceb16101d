-- Entity sets of the code, and the declarations of an attribute by their entities.
use Rattle.std.specs.Prelude.{◌≡◌, ◌⊎◌, ◌↔◌, Bool, List, ℕ, map}
use Rattle.p21_express.specs.Schema.{Schema}
use Rattle.p21_express.specs.WellFormed.{IsIn, IsEntity, IsAncestor}
use Rattle.p21_tree.specs.Tree.{Tree}
use Rattle.p21_tree.specs.declared.instances.Record.{Record}
use Rattle.p21_schema.specs.Place.{IsEntityOf, entity_name}
use Rattle.p21_schema.specs.declared.declarations.Declaration.{Declaration as Coded}
use Rattle.p21_schema.specs.Declaration.{Declaration, Form, AreResolvedIn}
use Rattle.p21_schema.specs.Declaration as form
use Rattle.p21_check.specs.declared.entity_set.EntitySet.{EntitySet}
use Rattle.p21_check.specs.declared.entity_set.EntitySet.TheVariants as set
use Rattle.p21_check.specs.Known.{IsElement}
use Rattle.p21_check.specs.Marks.{AreMarksOf}
use Rattle.p21_check.specs.Repeats.{RepeatsByForm}

-- the keywords of some records
abbrev pub keywords_of : List Record → List (List ℕ)
keywords_of rs = map (λ r. r.keyword.now) rs

-- the entities of the set
abbrev pub HasEntity : Schema → EntitySet → List ℕ → Type 0
HasEntity s (set.Simple e) n = (entity_name s e ≡ n) ⊎ IsAncestor s (entity_name s e) n
HasEntity s (set.Complex rs marks) n = IsIn (keywords_of rs.now) n × IsEntity s n

-- it is the set of what the records name
abbrev pub IsSetOfRecords : Schema → EntitySet → List Record → Type 0
IsSetOfRecords s set rs = (n : List ℕ) → HasEntity s set n ↔ (IsIn (keywords_of rs) n × IsEntity s n)

-- just the entities that the records name are marked
abbrev pub AreMarksOfRecords : Schema → List Bool → List Record → Type 0
AreMarksOfRecords s marks rs = AreMarksOf s marks (IsIn (keywords_of rs))

-- its id is of this schema, or its marks are of its records
abbrev pub IsSetOf : Schema → EntitySet → Type 0
IsSetOf s (set.Simple e) = IsEntityOf s e
IsSetOf s (set.Complex rs marks) = AreMarksOfRecords s marks.now rs.now

-- some element of the list is such
abbrev pub AnyIn : {X : Type 0} → List X → (X → Type 0) → Type 0
AnyIn {X} xs P = (x : X) × IsIn xs x × P x

-- an entity of the set declares in DERIVE
abbrev pub Derives : (List ℕ → Type 0) → Declaration → Type 0
Derives InSet d = InSet d.entity × (d.form ≡ form.derived)

-- no entity of the set declares in DERIVE
abbrev pub IsNotDerived : Schema → EntitySet → List Coded → Type 0
IsNotDerived s set cs = (ds : List Declaration) → AreResolvedIn s cs ds → ¬ (AnyIn ds (Derives (HasEntity s set)))

-- an entity of the set declares below this one
abbrev pub IsAgainBelow : Schema → (List ℕ → Type 0) → List ℕ → Declaration → Type 0
IsAgainBelow s InSet n d = InSet d.entity × IsAncestor s d.entity n

-- the parameter conforms to the declared type, or is `$` where it is OPTIONAL
abbrev pub FitsForm : Schema → Tree → Form → Type 0
FitsForm s t form.derived = ⊥
FitsForm s t (form.explicit o e) = IsElement s o e t

-- the declaration is by an entity of the set, of which none declares in DERIVE, and none below this one declares again
abbrev pub CountsAmong : Schema → (List ℕ → Type 0) → List Declaration → Declaration → Type 0
CountsAmong s InSet ds d = InSet d.entity × ¬ (AnyIn ds (Derives InSet)) × ¬ (AnyIn ds (IsAgainBelow s InSet d.entity))

-- where it counts, the parameter fits it
abbrev pub FitsCounting : Schema → (List ℕ → Type 0) → List Declaration → Tree → Declaration → Type 0
FitsCounting s InSet ds t d = CountsAmong s InSet ds d → FitsForm s t d.form

-- it counts, and a list in the parameter repeats a name by it
abbrev pub RepeatsCounting : Schema → (List ℕ → Type 0) → List Declaration → Tree → Declaration → Type 0
RepeatsCounting s InSet ds t d = CountsAmong s InSet ds d × RepeatsByForm s t d.form

-- each element of the list is such
abbrev pub EachIn : {X : Type 0} → List X → (X → Type 0) → Type 0
EachIn {X} xs P = (x : X) → IsIn xs x → P x
