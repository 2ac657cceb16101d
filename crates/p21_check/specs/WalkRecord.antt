-- What a walk over the parameters of a simple instance found.
use Rattle.std.specs.Prelude.{◌≡◌, ℕ, List, Some, length, slice_get}
use Rattle.p21_express.specs.Schema.{Schema}
use Rattle.p21_express.specs.WellFormed.{Origin}
use Rattle.p21_tree.specs.Plain.{plain, plain_all}
use Rattle.p21_tree.specs.Tree.{Tree, derived}
use Rattle.p21_tree.specs.declared.params.Param.{Param}
use Rattle.p21_check.specs.declared.leaf.Passed.{Passed}
use Rattle.p21_check.specs.declared.referred.Reference.{Reference as Kept}
use Rattle.p21_check.specs.Asked.{AskedBy}
use Rattle.p21_check.specs.LocalFault.{tree_get}
use Rattle.p21_check.specs.Passed.{Stands, StandInRow}
use Rattle.p21_check.specs.References.{Reference}
use Rattle.p21_check.specs.Referred.{Adds, Somewhere}
use Rattle.p21_check.specs.Sets.{HasEntity}
use Rattle.p21_check.specs.Slot.{FitsSlot}
use Rattle.p21_schema.specs.declared.ids.EntityId.{EntityId}
use Rattle.p21_check.specs.declared.entity_set.EntitySet.TheVariants as set

-- the entity of a simple instance, and its ancestors
abbrev pub SetOf : Schema → EntityId → List ℕ → Type 0
SetOf s own n = HasEntity s (set.Simple own) n

-- A parameter stands there that fits the attribute, and the references in it came after others.
pub record WalksSlot (s : Schema) (InSet : List ℕ → Type 0) (o : Origin) (text : List ℕ) (at : ℕ) (old new : List Kept) (r : Passed) : Type 0 where
  pub param : Param
  pub stands : Stands 63 text at r param
  pub fits : FitsSlot s InSet o (plain param)
  pub refers : Adds s (Somewhere (AskedBy s InSet o (plain param))) old new

-- an asterisk stands there
abbrev pub WalksStar : List ℕ → ℕ → Passed → Type 0
WalksStar text at r = (left : ℕ) → (p : Param) × (plain p ≡ derived) × Stands left text at r p

-- each parameter fits its attribute
abbrev pub FitSlots : Schema → (List ℕ → Type 0) → List Origin → List Param → Type 0
FitSlots s InSet os ps = (a : ℕ) (o : Origin) (t : Tree) → slice_get os a ≡ Some o → tree_get (plain_all ps) a ≡ Some t → FitsSlot s InSet o t

-- a reference in one of the parameters
abbrev pub AskedByOne : Schema → (List ℕ → Type 0) → List Origin → List Param → Reference → Type 0
AskedByOne s InSet os ps r = (a : ℕ) × (o : Origin) × (t : Tree) × (slice_get os a ≡ Some o) × (tree_get (plain_all ps) a ≡ Some t) × Somewhere (AskedBy s InSet o t) r

-- Parameters stand there for the first so many attributes, each fits its own, and the references in them came after others.
pub record WalksParameters (s : Schema) (InSet : List ℕ → Type 0) (os : List Origin) (count : ℕ) (text : List ℕ) (at : ℕ) (old new : List Kept) (r : Passed) : Type 0 where
  pub params : List Param
  pub stand : StandInRow 63 text at r params
  pub counted : length params ≡ count
  pub fit : FitSlots s InSet os params
  pub refer : Adds s (AskedByOne s InSet os params) old new
