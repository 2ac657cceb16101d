-- All faults of the references of a file's instances.
use Rattle.std.specs.Prelude.{List, [], ◌∷◌, Some, None}
use Rattle.p21_express.specs.Schema.{Schema}
use Rattle.p21_tree.specs.declared.faults.Fault.{Fault}
use Rattle.p21_tree.specs.declared.faults.FaultKind.{FaultKind}
use Rattle.p21_tree.specs.Sentence.{Instance}
use Rattle.p21_check.specs.References.{IsReferenceFault, named_in}

-- The reference faults of some instances, among all instances of the file, are those of the instances that have one, in the order
-- of the instances, each at the name of its instance.
pub data AreReferenceFaults (s : Schema) (all : List Instance) : List Instance → List Fault → Type 0 where
  none : AreReferenceFaults s all [] []
  answered : {i : Instance} {is : List Instance} {fs : List Fault} → IsReferenceFault s (named_in all) i None → AreReferenceFaults s all is fs → AreReferenceFaults s all (i ∷ is) fs
  faulty : {i : Instance} {is : List Instance} {fs : List Fault} {kind : FaultKind} → IsReferenceFault s (named_in all) i (Some kind) → AreReferenceFaults s all is fs → AreReferenceFaults s all (i ∷ is) (record { kind = kind; at = i.at } ∷ fs)
