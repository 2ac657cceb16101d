-- The fault of an instance among the instances of its file.
use Rattle.std.specs.Prelude.{◌≡◌, List, ◌∷◌, ◌++◌, Contains, Option, Some, None}
use Rattle.p21_express.specs.Schema.{Schema}
use Rattle.p21_tree.specs.declared.faults.FaultKind.{FaultKind}
use Rattle.p21_tree.specs.declared.faults.FaultKind.TheVariants as kind
use Rattle.p21_tree.specs.Sentence.{Instance}
use Rattle.p21_check.specs.LocalFault.{IsLocalFault}

-- an earlier instance, faulty or not, has the name of this one
abbrev pub IsRepeated : List Instance → Instance → Type 0
IsRepeated earlier i = (other : Instance) × Contains earlier other × (other.name ≡ i.name)

-- The fault of an instance after earlier ones is that its name is repeated, and else the fault that it has by itself, if it
-- has one. `Own` says which that is.
pub data IsFaultAmong (Own : Option FaultKind → Type 0) (earlier : List Instance) (i : Instance) : Option FaultKind → Type 0 where
  repeated : IsRepeated earlier i → IsFaultAmong Own earlier i (Some kind.DuplicateName)
  alone : {fault : Option FaultKind} → ¬ (IsRepeated earlier i) → Own fault → IsFaultAmong Own earlier i fault

-- the same by its local fault against a schema
abbrev pub IsInstanceFault : Schema → List Instance → Instance → Option FaultKind → Type 0
IsInstanceFault s earlier i fault = IsFaultAmong (IsLocalFault s i) earlier i fault

-- none of the instances of a file has a fault
abbrev pub HaveNoFault : Schema → List Instance → Type 0
HaveNoFault s is = (earlier later : List Instance) (i : Instance) → is ≡ earlier ++ i ∷ later → IsInstanceFault s earlier i None
