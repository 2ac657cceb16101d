-- The fault that a file has before its references are followed.
use Rattle.std.specs.Prelude.{ℕ, List, [], ◌∷◌, ◌++◌, Some, None}
use Rattle.p21_express.specs.Schema.{Schema}
use Rattle.p21_tree.specs.declared.faults.Fault.{Fault}
use Rattle.p21_tree.specs.declared.faults.FaultKind.{FaultKind}
use Rattle.p21_tree.specs.Sentence.{Instance, Opening}
use Rattle.p21_tree.specs.Texts.{BeginsPreface, HasPrefaceFault, IsFileText}
use Rattle.p21_check.specs.Header.{IsHeaderFault}
use Rattle.p21_reader.specs.GrammarOutcome.{FileBeginsWith, FileStopsBehind}
use Rattle.p21_reader.specs.InstanceFault.{IsInstanceFault, HaveNoFault}

-- The fault that a file has before its instances: a grammar fault in its preface; else a fault of its header, at the HEADER
-- token.
pub data IsOpeningFault (s : Schema) (file : List ℕ) : Fault → Type 0 where
  in_preface : {f : Fault} → HasPrefaceFault file f → IsOpeningFault s file f
  in_header : {o : Opening} {kind : FaultKind} → BeginsPreface file o → IsHeaderFault s o (Some kind) → IsOpeningFault s file (record { kind = kind; at = o.header_at })

-- The local fault of a file is the first that there is of: the fault before its instances; of the instances that stand whole
-- before the first grammar fault, the fault of the first that has one, at its name; the first grammar fault.
pub data IsLocalFaultOfFile (s : Schema) (file : List ℕ) : Fault → Type 0 where
  in_opening : {f : Fault} → IsOpeningFault s file f → IsLocalFaultOfFile s file f
  in_instance : {o : Opening} {earlier : List Instance} {i : Instance} {place : ℕ} {kind : FaultKind} → FileBeginsWith file o (earlier ++ i ∷ []) place → IsHeaderFault s o None → HaveNoFault s earlier → IsInstanceFault s earlier i (Some kind)
      → IsLocalFaultOfFile s file (record { kind = kind; at = i.at })
  behind_instances : {o : Opening} {is : List Instance} {f : Fault} → FileStopsBehind file o is f → IsHeaderFault s o None → HaveNoFault s is → IsLocalFaultOfFile s file f

-- The file has no local fault, and these are its instances.
pub record HasNoLocalFault (s : Schema) (file : List ℕ) (is : List Instance) : Type 0 where
  pub opening : Opening
  pub is_file : IsFileText file opening is
  pub header : IsHeaderFault s opening None
  pub faultless : HaveNoFault s is
