-- Instances of each kind, and what may be wrong with their records.
use Rattle.std.specs.Prelude.{◌≡◌, ◌<◌, ℕ, Bool, true, false, List, [], ◌∷◌, Option, Some, None, Result, MatchOption, MatchResult, map, length, slice_get}
use Rattle.p21_express.specs.Schema.{Schema}
use Rattle.p21_express.specs.WellFormed.{IsEntity, IsSupertype, Origin}
use Rattle.p21_tree.specs.Tree.{Tree, Trees}
use Rattle.p21_tree.specs.Grammar.{Entry}
use Rattle.p21_tree.specs.Sentence.{Instance}
use Rattle.p21_tree.specs.Views.{plain_record}
use Rattle.p21_tree.specs.declared.instances.Record.{Record}
use Rattle.p21_tree.specs.declared.faults.FaultKind.{FaultKind}
use Rattle.p21_tree.specs.declared.faults.FaultKind.TheVariants as kind
use Rattle.p21_check.specs.Attributes.{AreAttributes}
use Rattle.p21_check.specs.Slot.{FitsSlot}
use Rattle.p21_check.specs.Repeats.{RepeatsInSlot}
use Rattle.p21_check.specs.LocalFault.{IsLocalFault, tree_get, IsAbstract, HasWrongCount, HasBadAttribute, HasRepeatedReference}
use Rattle.p21_check.specs.Marks.{AreMarksOf}
use Rattle.p21_check.specs.Sets.{AnyIn}

abbrev pub simple_instance : ℕ → ℕ → Entry → Instance
simple_instance name at e = record { name = name; at = at; complex = false; records = e ∷ [] }

abbrev pub complex_instance : ℕ → ℕ → List Record → Instance
complex_instance name at rs = record { name = name; at = at; complex = true; records = map plain_record rs }

-- what `check_local` answers
abbrev pub IsAnswer : Schema → Instance → Result (Unit {0}) FaultKind → Type 0
IsAnswer s i r = MatchResult r (λ _. IsLocalFault s i None) (λ k. IsLocalFault s i (Some k))

-- the first record with a repeated reference, and the first attribute of that one
pub record IsFirstRepeated (s : Schema) (i : Instance) (k : FaultKind) : Type 0 where
  pub rec_ : ℕ
  pub attr : ℕ
  pub is : k ≡ kind.RepeatedReference rec_ attr
  pub repeated : HasRepeatedReference s i rec_ attr
  pub records : (q b : ℕ) → q < rec_ → ¬ (HasRepeatedReference s i q b)
  pub attributes : (b : ℕ) → b < attr → ¬ (HasRepeatedReference s i rec_ b)

-- what the search for repeated references answers
abbrev pub IsDistinctAnswer : Schema → Instance → Result (Unit {0}) FaultKind → Type 0
IsDistinctAnswer s i r = MatchResult r (λ _. (q b : ℕ) → ¬ (HasRepeatedReference s i q b)) (IsFirstRepeated s i)

-- the parameter at this place repeats a name in a list, by a declaration of its attribute that counts
abbrev pub IsRepeatingAt : Schema → (List ℕ → Type 0) → List Origin → Trees → ℕ → Type 0
IsRepeatingAt s InSet os ts a = (o : Origin) × (t : Tree) × (slice_get os a ≡ Some o) × (tree_get ts a ≡ Some t) × RepeatsInSlot s InSet o t

-- the first such parameter, or there is none
abbrev pub IsFirstRepeating : Schema → (List ℕ → Type 0) → List Origin → Trees → Option ℕ → Type 0
IsFirstRepeating s InSet os ts r = MatchOption r ((b : ℕ) → ¬ (IsRepeatingAt s InSet os ts b)) (λ a. IsRepeatingAt s InSet os ts a × ((b : ℕ) → b < a → ¬ (IsRepeatingAt s InSet os ts b)))

-- the parameter at this place does not fit its attribute
abbrev pub IsUnfitAt : Schema → (List ℕ → Type 0) → List Origin → Trees → ℕ → Type 0
IsUnfitAt s InSet os ts a = (o : Origin) × (t : Tree) × (slice_get os a ≡ Some o) × (tree_get ts a ≡ Some t) × ¬ (FitsSlot s InSet o t)

-- the first parameter that does not fit, or there is none
abbrev pub IsFirstUnfit : Schema → (List ℕ → Type 0) → List Origin → Trees → Option ℕ → Type 0
IsFirstUnfit s InSet os ts r = MatchOption r ((b : ℕ) → ¬ (IsUnfitAt s InSet os ts b)) (λ a. IsUnfitAt s InSet os ts a × ((b : ℕ) → b < a → ¬ (IsUnfitAt s InSet os ts b)))

-- the first record with a wrong count, or there is none
abbrev pub IsFirstWrong : Schema → Instance → Option ℕ → Type 0
IsFirstWrong s i r = MatchOption r ((q : ℕ) → ¬ (HasWrongCount s i q)) (λ r. HasWrongCount s i r × ((q : ℕ) → q < r → ¬ (HasWrongCount s i q)))

-- the first record with a bad attribute, and the first of that one, or there is none
abbrev pub IsFirstBadAttribute : Schema → Instance → Option (ℕ × ℕ) → Type 0
IsFirstBadAttribute s i r = MatchOption r ((q b : ℕ) → ¬ (HasBadAttribute s i q b)) (λ p. HasBadAttribute s i p.0 p.1 × ((q b : ℕ) → q < p.0 → ¬ (HasBadAttribute s i q b)) × ((b : ℕ) → b < p.1 → ¬ (HasBadAttribute s i p.0 b)))

-- the record's keyword is an entity
abbrev pub NamesEntity : Schema → Record → Type 0
NamesEntity s r = IsEntity s r.keyword.now

abbrev pub IsUnknown : Schema → Record → Type 0
IsUnknown s r = ¬ (IsEntity s r.keyword.now)

-- the record has the number of parameters that a record of a complex instance has
abbrev pub HasRightCount : Schema → Record → Type 0
HasRightCount s r = (os : List Origin) × (AreAttributes s true r.keyword.now os × (length r.params ≡ length os))

-- an entity stands in SUBTYPE OF of the record's that is not in the set
abbrev pub LacksAbove : Schema → (List ℕ → Type 0) → Record → Type 0
LacksAbove s InSet r = (m : List ℕ) × (IsSupertype s r.keyword.now m × ¬ (InSet m))

-- the record's entity names this one in SUBTYPE OF
abbrev pub IsSubtypeRecord : Schema → List ℕ → Record → Type 0
IsSubtypeRecord s n r = IsSupertype s r.keyword.now n

-- just the entities that those of the records name in SUBTYPE OF are marked
abbrev pub AreMarksAbove : Schema → List Bool → List Record → Type 0
AreMarksAbove s marks rs = AreMarksOf s marks (λ n. AnyIn rs (IsSubtypeRecord s n))

-- the record's entity is abstract, and no record is of a subtype
abbrev pub LacksBelow : Schema → List Record → Record → Type 0
LacksBelow s rs r = IsAbstract s r.keyword.now × ¬ (AnyIn rs (IsSubtypeRecord s r.keyword.now))

-- the record at this place has the keyword of an earlier one
abbrev pub IsNamedBefore : List (List ℕ) → ℕ → Type 0
IsNamedBefore ks second = (n : List ℕ) × (first : ℕ) × (first < second) × (slice_get ks first ≡ Some n) × (slice_get ks second ≡ Some n)
