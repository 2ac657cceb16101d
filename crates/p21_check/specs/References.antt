-- The references of an instance to others, and the first that is at fault.
use Rattle.std.specs.Prelude.{◌≡◌, ◌<◌, ◌+◌, ◌⊎◌, ℕ, Bool, List, Option, Some, None, slice_get, find, nat_eq}
use Rattle.p21_tree.specs.Tree.{Tree, Trees, absent, derived, int, real, str, enumeration, binary, reference, items, typed, nil, cons}
use Rattle.p21_tree.specs.Grammar.{Entry}
use Rattle.p21_tree.specs.Sentence.{Instance}
use Rattle.p21_tree.specs.declared.faults.FaultKind.{FaultKind}
use Rattle.p21_tree.specs.declared.faults.FaultKind.TheVariants as kind
use Rattle.p21_express.specs.Schema.{Schema, Defined, Expr, Aggregate}
use Rattle.p21_express.specs.Schema as type
use Rattle.p21_express.specs.WellFormed.{IsIn, IsEntity, IsSelect, Origin}
use Rattle.p21_schema.specs.Declaration.{Declaration}
use Rattle.p21_schema.specs.Declaration as form
use Rattle.p21_schema.specs.Select.{SelectReaches, ReachesType}
use Rattle.p21_check.specs.EntitySet.{IsInSet}
use Rattle.p21_check.specs.Slot.{Counts}
use Rattle.p21_check.specs.Attributes.{AreAttributes}
use Rattle.p21_check.specs.LocalFault.{tree_get}

-- a reference: the instance name, and the entity that is wanted there or the SELECT of which an entity is wanted
pub record Reference : Type 0 where
  pub name : ℕ
  pub wanted : List ℕ

abbrev mutual
  -- the number of instance names in a parameter
  pub name_count : Tree → ℕ
  name_count absent = 0
  name_count derived = 0
  name_count (int s) = 0
  name_count (real s) = 0
  name_count (str s) = 0
  name_count (enumeration s) = 0
  name_count (binary s) = 0
  name_count (reference n) = 1
  name_count (items ts) = names_count ts
  name_count (typed k t) = name_count t

  -- the same of a list of trees
  pub names_count : Trees → ℕ
  names_count nil = 0
  names_count (cons t ts) = name_count t + names_count ts

mutual
  -- What instance name stands in a parameter for an entity or a SELECT of its type. The place is the number of instance names
  -- before it in the parameter. A typed parameter is of the type that is its keyword.
  pub data Refers (s : Schema) : Expr → Tree → ℕ → Reference → Type 0 where
    entity : {n : List ℕ} {name : ℕ} → IsEntity s n → Refers s (type.named n) (reference name) 0 (record { name = name; wanted = n })
    select : {n : List ℕ} {name : ℕ} → IsSelect s n → Refers s (type.named n) (reference name) 0 (record { name = name; wanted = n })
    typed_as : {n k : List ℕ} {p : Tree} {place : ℕ} {r : Reference} → IsSelect s n → ReachesType s n k → Refers s (type.named k) p place r → Refers s (type.named n) (typed k p) place r
    defined : {n : List ℕ} {e : Expr} {p : Tree} {place : ℕ} {r : Reference} (t : Defined) → IsIn s.types t → t.name ≡ n → t.under ≡ type.plain e → Refers s e p place r → Refers s (type.named n) p place r
    element : {a : Aggregate} {e : Expr} {ts : Trees} {place : ℕ} {r : Reference} → RefersAmong s e ts place r → Refers s (type.aggregate a e) (items ts) place r

  -- the same of elements that are all of one type
  pub data RefersAmong (s : Schema) : Expr → Trees → ℕ → Reference → Type 0 where
    here : {e : Expr} {t : Tree} {ts : Trees} {place : ℕ} {r : Reference} → Refers s e t place r → RefersAmong s e (cons t ts) place r
    behind : {e : Expr} {t : Tree} {ts : Trees} {place : ℕ} {r : Reference} → RefersAmong s e ts place r → RefersAmong s e (cons t ts) (name_count t + place) r

-- The entity set of the instance holds the entity that is wanted, or an entity that the SELECT reaches.
pub data IsWanted (s : Schema) (i : Instance) (n : List ℕ) : Type 0 where
  entity : IsEntity s n → IsInSet s i n → IsWanted s i n
  reached : {e : List ℕ} → IsSelect s n → SelectReaches s n e → IsInSet s i e → IsWanted s i n

-- A reference of a parameter of the instance: for an attribute, against each of its declarations that count.
pub record HasReference (s : Schema) (i : Instance) (rec_ attr place : ℕ) (r : Reference) : Type 0 where
  pub entry : Entry
  pub attributes : List Origin
  pub attribute : Origin
  pub parameter : Tree
  pub declaration : Declaration
  pub optional : Bool
  pub texpr : Expr
  pub there : slice_get i.records rec_ ≡ Some entry
  pub are : AreAttributes s i.complex entry.keyword attributes
  pub for_ : slice_get attributes attr ≡ Some attribute
  pub given : tree_get entry.params attr ≡ Some parameter
  pub counts : Counts s (IsInSet s i) attribute declaration
  pub explicit : declaration.form ≡ form.explicit optional texpr
  pub refers : Refers s texpr parameter place r

-- what is wrong with a reference, where the instances are those that have the names
abbrev pub IsAtFault : Schema → (ℕ → Option Instance) → Reference → ℕ → ℕ → FaultKind → Type 0
IsAtFault s named r rec_ attr k =
    ((named r.name ≡ None) × (k ≡ kind.MissingReference rec_ attr r.name))
    ⊎ ((found : Instance) × (named r.name ≡ Some found) × ¬ (IsWanted s found r.wanted) × (k ≡ kind.WrongReference rec_ attr r.name))

-- the instance has this fault at a place
pub record HasFaultAt (s : Schema) (named : ℕ → Option Instance) (i : Instance) (rec_ attr place : ℕ) (k : FaultKind) : Type 0 where
  pub refers_to : Reference
  pub stands : HasReference s i rec_ attr place refers_to
  pub fault : IsAtFault s named refers_to rec_ attr k

-- one place is before another: by the record, then by the attribute, then by the place in the parameter
pub data IsBefore (rec_ attr place : ℕ) (later_rec later_attr later_place : ℕ) : Type 0 where
  by_record : rec_ < later_rec → IsBefore rec_ attr place later_rec later_attr later_place
  by_attribute : rec_ ≡ later_rec → attr < later_attr → IsBefore rec_ attr place later_rec later_attr later_place
  by_place : rec_ ≡ later_rec → attr ≡ later_attr → place < later_place → IsBefore rec_ attr place later_rec later_attr later_place

-- the fault stands at a place, and none before it
pub record IsFirstFault (s : Schema) (named : ℕ → Option Instance) (i : Instance) (k : FaultKind) : Type 0 where
  pub rec_ : ℕ
  pub attr : ℕ
  pub place : ℕ
  pub has : HasFaultAt s named i rec_ attr place k
  pub first : (r a p : ℕ) (other : FaultKind) → IsBefore r a p rec_ attr place → ¬ (HasFaultAt s named i r a p other)

-- The first reference of an instance, from the left, that no instance answers, or one that is not wanted there. There is none
-- where each reference is answered as it is wanted.
abbrev pub IsReferenceFault : Schema → (ℕ → Option Instance) → Instance → Option FaultKind → Type 0
IsReferenceFault s named i None = (r a p : ℕ) (k : FaultKind) → ¬ (HasFaultAt s named i r a p k)
IsReferenceFault s named i (Some k) = IsFirstFault s named i k

-- the first instance of a list that has the name
-- Of a `TypeOf` or an `EntityOf`, its ghost `named` says it.
abbrev pub named_in : List Instance → ℕ → Option Instance
named_in is n = find (λ i. nat_eq i.name n) is
