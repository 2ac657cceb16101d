-- What the steps of a serial reading do.
use Rattle.std.specs.Prelude.{◌≡◌, ℕ, List, [], ◌∷◌, ◌++◌, Result, Ok, Err, None}
use Rattle.p21_express.specs.Schema.{Schema}
use Rattle.p21_tree.specs.declared.faults.Fault.{Fault}
use Rattle.p21_tree.specs.declared.faults.TreeError.{TreeError}
use Rattle.p21_tree.specs.declared.faults.TreeError.TheVariants as error
use Rattle.p21_tree.specs.Sentence.{Instance, Opening}
use Rattle.p21_cut.specs.Pieces.{PiecesAre}
use Rattle.p21_reader.specs.declared.stop.Stop.{Stop}
use Rattle.p21_reader.specs.declared.stop.Stop.TheVariants as stop
use Rattle.p21_reader.specs.GrammarOutcome.{FileBeginsWith}
use Rattle.p21_reader.specs.InstanceFault.{HaveNoFault}
use Rattle.p21_reader.specs.Values.{Value, Whole, whole, IsCarriedFault, IsValueFault}

-- a fact for a fault
abbrev pub OnFault : Stop → (Fault → Type 0) → Type 0
OnFault (stop.Fault fault) P = P fault
OnFault stop.Memory P = Unit {0}

-- why a text gave no tree, as why a file gives no model
abbrev pub IsStopOf : TreeError → Stop → Type 0
IsStopOf (error.Grammar f) e = e ≡ stop.Fault f
IsStopOf error.Memory e = e ≡ stop.Memory

-- The instance of a value without a fault goes after the others. Otherwise the fault of the value is told.
abbrev pub AddsValue : List Instance → Value → Result (Unit {0}) Stop → List Instance → Type 0
AddsValue old v (Ok u) new = (w : Whole) × (v ≡ whole w) × IsCarriedFault old w None × (new ≡ old ++ w.instance ∷ [])
AddsValue old v (Err (stop.Fault f)) new = IsValueFault old v f
AddsValue old v (Err stop.Memory) new = Unit {0}

-- The file is read up to a place: after its preface stand these instances, and none of them has a fault.
pub record IsReadUpTo (s : Schema) (file : List ℕ) (o : Opening) (is : List Instance) (place : ℕ) : Type 0 where
  pub begins : FileBeginsWith file o is place
  pub faultless : HaveNoFault s is

-- all pieces are read, and the tail begins at a place
abbrev pub EndsBehind : Schema → List ℕ → Opening → List Instance → ℕ → Type 0
EndsBehind s file o is end = (place number : ℕ) × IsReadUpTo s file o is place × PiecesAre file place number [] end
