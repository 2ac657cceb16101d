-- All faults of a file against a schema.
use Rattle.std.specs.Prelude.{◌≢◌, ℕ, List, [], ◌∷◌, ◌++◌, Option, Some, None, Result, Ok, Err}
use Rattle.p21_express.specs.Schema.{Schema}
use Rattle.p21_tree.specs.declared.faults.Fault.{Fault}
use Rattle.p21_tree.specs.declared.faults.FaultKind.{FaultKind}
use Rattle.p21_tree.specs.Sentence.{Instance, Opening}
use Rattle.p21_tree.specs.Texts.{IsFileText}
use Rattle.p21_check.specs.Header.{IsHeaderFault}
use Rattle.p21_refs.specs.AllReferenceFaults.{AreReferenceFaults}
use Rattle.p21_reader.specs.GrammarOutcome.{FileStopsBehind}
use Rattle.p21_reader.specs.InstanceFault.{IsInstanceFault}
use Rattle.p21_reader.specs.LocalFault.{IsOpeningFault, HasNoLocalFault}
use Rattle.p21_reader.specs.Reading.{IsReading}

-- The faults of instances that stand after earlier ones are those of the instances that have one, in the order of the
-- instances, each at the name of its instance. `instance_of` tells an instance, and `IsFault` its fault after those before it.
pub data AreFaultsOf {T : Type 0} (instance_of : T → Instance) (IsFault : List Instance → T → Option FaultKind → Type 0) : List Instance → List T → List Fault → Type 0 where
  none : {earlier : List Instance} → AreFaultsOf instance_of IsFault earlier [] []
  faultless : {earlier : List Instance} {x : T} {xs : List T} {fs : List Fault} → IsFault earlier x None → AreFaultsOf instance_of IsFault (earlier ++ instance_of x ∷ []) xs fs → AreFaultsOf instance_of IsFault earlier (x ∷ xs) fs
  faulty : {earlier : List Instance} {x : T} {xs : List T} {fs : List Fault} {kind : FaultKind} → IsFault earlier x (Some kind) → AreFaultsOf instance_of IsFault (earlier ++ instance_of x ∷ []) xs fs
      → AreFaultsOf instance_of IsFault earlier (x ∷ xs) (record { kind = kind; at = (instance_of x).at } ∷ fs)

-- the same of all instances of a file, by the local fault of each against a schema and the names before it
abbrev pub AreInstanceFaults : Schema → List Instance → List Fault → Type 0
AreInstanceFaults s is fs = AreFaultsOf (λ i. i) (IsInstanceFault s) [] is fs

-- All faults of a file. A fault before its instances stands alone. Else they are the faults of the instances that stand whole before
-- the first grammar fault, and after them that fault, where there is one. Where there is none of these, they are the reference
-- faults.
pub data AreAllFaults (s : Schema) (file : List ℕ) : List Fault → Type 0 where
  before_instances : {f : Fault} → IsOpeningFault s file f → AreAllFaults s file (f ∷ [])
  up_to_grammar : {o : Opening} {is : List Instance} {fs : List Fault} {f : Fault} → FileStopsBehind file o is f → IsHeaderFault s o None → AreInstanceFaults s is fs → AreAllFaults s file (fs ++ f ∷ [])
  of_instances : {o : Opening} {is : List Instance} {f : Fault} {fs : List Fault} → IsFileText file o is → IsHeaderFault s o None → AreInstanceFaults s is (f ∷ fs) → AreAllFaults s file (f ∷ fs)
  of_references : {is : List Instance} {fs : List Fault} → HasNoLocalFault s file is → AreReferenceFaults s is is fs → AreAllFaults s file fs

-- The answer of a reading that tells all faults: these, where there is one, and else the instances.
abbrev pub IsReadingWithAll : Schema → List ℕ → Result (List Instance) (List Fault) → Type 0
IsReadingWithAll s file (Ok is) = AreAllFaults s file [] × IsReading s file (Ok is)
IsReadingWithAll s file (Err fs) = AreAllFaults s file fs × (fs ≢ [])
