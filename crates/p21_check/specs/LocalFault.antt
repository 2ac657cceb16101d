-- The faults that an instance has by itself.
use Rattle.std.specs.Prelude.{◌≡◌, ◌≢◌, ◌<◌, ◌⊎◌, ℕ, suc, zero, true, false, List, Option, Some, None, slice_get, length}
use Rattle.p21_express.specs.Schema.{Schema, Entity}
use Rattle.p21_express.specs.WellFormed.{IsIn, IsEntity, IsSupertype, Origin}
use Rattle.p21_tree.specs.Tree.{Tree, Trees, nil, cons}
use Rattle.p21_tree.specs.Grammar.{Entry}
use Rattle.p21_tree.specs.Sentence.{Instance}
use Rattle.p21_tree.specs.declared.faults.FaultKind.{FaultKind}
use Rattle.p21_tree.specs.declared.faults.FaultKind.TheVariants as kind
use Rattle.p21_check.specs.EntitySet.{IsInSet, keywords}
use Rattle.p21_check.specs.Attributes.{AreAttributes}
use Rattle.p21_check.specs.Conforms.{tree_count}
use Rattle.p21_check.specs.Slot.{FitsSlot}
use Rattle.p21_check.specs.Repeats.{RepeatsInSlot}

-- the parameter at a place
abbrev pub tree_get : Trees → ℕ → Option Tree
tree_get nil k = None
tree_get (cons t ts) zero = Some t
tree_get (cons t ts) (suc k) = tree_get ts k

-- ABSTRACT SUPERTYPE stands after the entity's name
pub record IsAbstract (s : Schema) (n : List ℕ) : Type 0 where
  pub entity : Entity
  pub declared : IsIn s.entities entity
  pub name_is : entity.name ≡ n
  pub abstract_ : entity.is_abstract ≡ true

-- a record's keyword is no entity
pub record HasUnknownEntity (s : Schema) (i : Instance) : Type 0 where
  pub keyword : List ℕ
  pub written : IsIn (keywords i) keyword
  pub unknown : ¬ (IsEntity s keyword)

-- it is a simple instance of an abstract entity
pub record HasAbstractEntity (s : Schema) (i : Instance) : Type 0 where
  pub keyword : List ℕ
  pub simple : i.complex ≡ false
  pub written : IsIn (keywords i) keyword
  pub is_abstract : IsAbstract s keyword

-- two records have one keyword
pub record NamesTwice (i : Instance) : Type 0 where
  pub keyword : List ℕ
  pub first : ℕ
  pub second : ℕ
  pub before : first < second
  pub there : slice_get (keywords i) first ≡ Some keyword
  pub again : slice_get (keywords i) second ≡ Some keyword

-- a record's entity stands without one of its supertypes
pub record LacksSupertype (s : Schema) (i : Instance) : Type 0 where
  pub keyword : List ℕ
  pub supertype : List ℕ
  pub written : IsIn (keywords i) keyword
  pub above : IsSupertype s keyword supertype
  pub lacking : ¬ (IsInSet s i supertype)

-- a record's abstract entity stands without a subtype of it
pub record LacksSubtype (s : Schema) (i : Instance) : Type 0 where
  pub keyword : List ℕ
  pub written : IsIn (keywords i) keyword
  pub is_abstract : IsAbstract s keyword
  pub lacking : (subtype : List ℕ) → IsSupertype s subtype keyword → ¬ (IsInSet s i subtype)

-- A complex instance names an entity twice, or without one of its supertypes, or an abstract one without a subtype. (Where no
-- supertype is lacking, an entity with some descendant has a subtype there too.)
pub record IsBadComplex (s : Schema) (i : Instance) : Type 0 where
  pub complex : i.complex ≡ true
  pub bad : NamesTwice i ⊎ (LacksSupertype s i ⊎ LacksSubtype s i)

-- the record at this place has a wrong number of parameters
pub record HasWrongCount (s : Schema) (i : Instance) (rec_ : ℕ) : Type 0 where
  pub entry : Entry
  pub attributes : List Origin
  pub there : slice_get i.records rec_ ≡ Some entry
  pub are : AreAttributes s i.complex entry.keyword attributes
  pub wrong : tree_count entry.params ≢ length attributes

-- the parameter at this place of the record at this place does not fit its attribute
pub record HasBadAttribute (s : Schema) (i : Instance) (rec_ attr : ℕ) : Type 0 where
  pub entry : Entry
  pub attributes : List Origin
  pub attribute : Origin
  pub parameter : Tree
  pub there : slice_get i.records rec_ ≡ Some entry
  pub are : AreAttributes s i.complex entry.keyword attributes
  pub for_ : slice_get attributes attr ≡ Some attribute
  pub given : tree_get entry.params attr ≡ Some parameter
  pub unfit : ¬ (FitsSlot s (IsInSet s i) attribute parameter)

-- A list in the parameter at this place of the record at this place has one instance name twice, and stands for a SET or a
-- LIST OF UNIQUE by a declaration that counts. This is asked where the schema's rules say so. (A parameter that does not fit
-- is a fault that comes before.)
pub record HasRepeatedReference (s : Schema) (i : Instance) (rec_ attr : ℕ) : Type 0 where
  pub entry : Entry
  pub attributes : List Origin
  pub attribute : Origin
  pub parameter : Tree
  pub ruled : s.distinct ≡ true
  pub there : slice_get i.records rec_ ≡ Some entry
  pub are : AreAttributes s i.complex entry.keyword attributes
  pub for_ : slice_get attributes attr ≡ Some attribute
  pub given : tree_get entry.params attr ≡ Some parameter
  pub repeats : RepeatsInSlot s (IsInSet s i) attribute parameter

-- the instance has a fault of this kind, there where the kind says
abbrev pub HasFault : Schema → Instance → FaultKind → Type 0
HasFault s i kind.UnknownEntity = HasUnknownEntity s i
HasFault s i kind.AbstractEntity = HasAbstractEntity s i
HasFault s i kind.BadComplex = IsBadComplex s i
HasFault s i (kind.WrongCount r) = HasWrongCount s i r
HasFault s i (kind.BadAttribute r a) = HasBadAttribute s i r a
HasFault s i (kind.RepeatedReference r a) = HasRepeatedReference s i r a
HasFault s i kind.BadToken = ⊥
HasFault s i kind.Unexpected = ⊥
HasFault s i kind.Truncated = ⊥
HasFault s i kind.TooDeep = ⊥
HasFault s i kind.HeaderEntities = ⊥
HasFault s i kind.WrongSchema = ⊥
HasFault s i kind.DuplicateName = ⊥
HasFault s i (kind.MissingReference r a n) = ⊥
HasFault s i (kind.WrongReference r a n) = ⊥

-- the number of a kind that an instance may have by itself
abbrev pub kind_number : FaultKind → ℕ
kind_number kind.UnknownEntity = 8
kind_number kind.AbstractEntity = 9
kind_number kind.BadComplex = 10
kind_number (kind.WrongCount r) = 11
kind_number (kind.BadAttribute r a) = 12
kind_number (kind.RepeatedReference r a) = 15
kind_number kind.BadToken = 0
kind_number kind.Unexpected = 0
kind_number kind.Truncated = 0
kind_number kind.TooDeep = 0
kind_number kind.HeaderEntities = 0
kind_number kind.WrongSchema = 0
kind_number kind.DuplicateName = 0
kind_number (kind.MissingReference r a n) = 0
kind_number (kind.WrongReference r a n) = 0

-- the record that a kind speaks of
abbrev pub kind_record : FaultKind → ℕ
kind_record (kind.WrongCount r) = r
kind_record (kind.BadAttribute r a) = r
kind_record (kind.RepeatedReference r a) = r
kind_record kind.BadToken = 0
kind_record kind.Unexpected = 0
kind_record kind.Truncated = 0
kind_record kind.TooDeep = 0
kind_record kind.HeaderEntities = 0
kind_record kind.WrongSchema = 0
kind_record kind.DuplicateName = 0
kind_record kind.UnknownEntity = 0
kind_record kind.AbstractEntity = 0
kind_record kind.BadComplex = 0
kind_record (kind.MissingReference r a n) = 0
kind_record (kind.WrongReference r a n) = 0

-- the attribute that a kind speaks of
abbrev pub kind_attribute : FaultKind → ℕ
kind_attribute (kind.BadAttribute r a) = a
kind_attribute (kind.RepeatedReference r a) = a
kind_attribute kind.BadToken = 0
kind_attribute kind.Unexpected = 0
kind_attribute kind.Truncated = 0
kind_attribute kind.TooDeep = 0
kind_attribute kind.HeaderEntities = 0
kind_attribute kind.WrongSchema = 0
kind_attribute kind.DuplicateName = 0
kind_attribute kind.UnknownEntity = 0
kind_attribute kind.AbstractEntity = 0
kind_attribute kind.BadComplex = 0
kind_attribute (kind.WrongCount r) = 0
kind_attribute (kind.MissingReference r a n) = 0
kind_attribute (kind.WrongReference r a n) = 0

-- The one is looked for before the other: by the number of the kind, then by the record, then by the attribute.
pub data ComesBefore (a b : FaultKind) : Type 0 where
  by_number : kind_number a < kind_number b → ComesBefore a b
  by_record : kind_number a ≡ kind_number b → kind_record a < kind_record b → ComesBefore a b
  by_attribute : kind_number a ≡ kind_number b → kind_record a ≡ kind_record b → kind_attribute a < kind_attribute b → ComesBefore a b

-- The fault of an instance by itself is the first that it has: of the kinds in the order of their numbers, each from the left
-- over records and attributes. There is none where it has none of them.
abbrev pub IsLocalFault : Schema → Instance → Option FaultKind → Type 0
IsLocalFault s i None = (k : FaultKind) → ¬ (HasFault s i k)
IsLocalFault s i (Some k) = HasFault s i k × ((other : FaultKind) → ComesBefore other k → ¬ (HasFault s i other))
