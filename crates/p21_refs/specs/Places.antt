-- The instances of a file by their places.
use Rattle.std.specs.Prelude.{◌≡◌, ◌<◌, ℕ, Bool, true, false, List, Option, Some, None, length, slice_index_or}
use Rattle.p21_express.specs.Schema.{Schema}
use Rattle.p21_tree.specs.declared.faults.Fault.{Fault}
use Rattle.p21_tree.specs.declared.faults.FaultKind.{FaultKind}
use Rattle.p21_tree.specs.Sentence.{Instance}
use Rattle.p21_check.specs.References.{IsReferenceFault, named_in}

-- each reference of the instance at a place is answered as it is wanted
abbrev pub IsAnsweredAt : Schema → List Instance → ℕ → Type 0
IsAnsweredAt s all place = (d : Instance) → IsReferenceFault s (named_in all) (slice_index_or all place d) None

-- the instance at a place has a reference fault
abbrev pub IsFaultyAt : Schema → List Instance → ℕ → Type 0
IsFaultyAt s all place = (kind : FaultKind) × ((d : Instance) → IsReferenceFault s (named_in all) (slice_index_or all place d) (Some kind))

-- whether the instance at a place has a reference fault
abbrev pub IsFaultinessAt : Schema → List Instance → ℕ → Bool → Type 0
IsFaultinessAt s all place true = IsFaultyAt s all place
IsFaultinessAt s all place false = IsAnsweredAt s all place

-- all instances before a place are answered
abbrev pub AreAnsweredBefore : Schema → List Instance → ℕ → Type 0
AreAnsweredBefore s all end = (place : ℕ) → place < end → IsAnsweredAt s all place

-- the first instance that has a reference fault stands at a place
pub record IsFirstFaulty (s : Schema) (all : List Instance) (place : ℕ) : Type 0 where
  pub within : place < length all
  pub before : AreAnsweredBefore s all place
  pub faulty : IsFaultyAt s all place

-- the reference fault of the instance at a place, at its name, or none
abbrev pub IsFaultAt : Schema → List Instance → ℕ → Option Fault → Type 0
IsFaultAt s all place None = IsAnsweredAt s all place
IsFaultAt s all place (Some f) = (d : Instance) → IsReferenceFault s (named_in all) (slice_index_or all place d) (Some f.kind) × (f.at ≡ (slice_index_or all place d).at)
