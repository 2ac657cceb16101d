-- What pieces are by themselves, and what the values of a file's pieces say of the file.
use Rattle.std.specs.Prelude.{◌≡◌, ℕ, List, ◌∷◌, ◌++◌, map, Option, Some, None, Result, Ok, Err}
use Rattle.p21_express.specs.Schema.{Schema}
use Rattle.p21_tree.specs.declared.faults.Fault.{Fault}
use Rattle.p21_tree.specs.declared.faults.FaultKind.{FaultKind}
use Rattle.p21_tree.specs.declared.pieces.Piece.{Piece}
use Rattle.p21_tree.specs.Sentence.{Instance}
use Rattle.p21_tree.specs.Fault.{tails}
use Rattle.p21_tree.specs.Texts.{IsPieceText, HasPieceFault, HasTail, HasFault}
use Rattle.p21_check.specs.LocalFault.{IsLocalFault}
use Rattle.p21_reader.specs.InstanceFault.{IsFaultAmong}
use Rattle.p21_refs.specs.FirstReferenceFault.{AreAnswered, IsFirstReferenceFault}

-- an instance that stands whole in its piece, and the fault that it is said to have by itself, if any
pub record Whole : Type 0 where
  pub instance : Instance
  pub own : Option FaultKind

-- The value of a piece: its grammar fault, or its instance.
pub data Value : Type 0 where
  grammar : Fault → Value
  whole : Whole → Value

-- what a piece is by itself against a schema
abbrev pub IsJudged : Schema → Piece → Value → Type 0
IsJudged s p (grammar f) = HasPieceFault p f
IsJudged s p (whole w) = IsPieceText p w.instance × IsLocalFault s w.instance w.own

-- the instances alone
abbrev pub instances_in : List Whole → List Instance
instances_in ws = map (λ w. w.instance) ws

-- the fault of a whole instance after earlier ones, by what it is said to have by itself
abbrev pub IsCarriedFault : List Instance → Whole → Option FaultKind → Type 0
IsCarriedFault earlier w fault = IsFaultAmong (λ own. own ≡ w.own) earlier w.instance fault

-- none of the whole instances has a fault
abbrev pub CarryNoFault : List Whole → Type 0
CarryNoFault ws = (earlier later : List Whole) (w : Whole) → ws ≡ earlier ++ w ∷ later → IsCarriedFault (instances_in earlier) w None

-- the fault of a value after earlier instances: that of the grammar, or that of its instance, at its name
abbrev pub IsValueFault : List Instance → Value → Fault → Type 0
IsValueFault earlier (grammar g) f = f ≡ g
IsValueFault earlier (whole w) f = IsCarriedFault earlier w (Some f.kind) × (f.at ≡ w.instance.at)

-- The first fault of values is that of the first value that has one, after whole instances.
pub record IsFirstValueFault (vs : List Value) (f : Fault) : Type 0 where
  pub earlier : List Whole
  pub value : Value
  pub later : List Value
  pub parts : vs ≡ map whole earlier ++ value ∷ later
  pub faultless : CarryNoFault earlier
  pub is_fault : IsValueFault (instances_in earlier) value f

-- The values have no fault, and these are their instances.
pub record HaveInstances (vs : List Value) (is : List Instance) : Type 0 where
  pub wholes : List Whole
  pub are : vs ≡ map whole wholes
  pub faultless : CarryNoFault wholes
  pub instances : is ≡ instances_in wholes

-- The answer to the values of a file's pieces, where the tail begins at a place: the first fault of the values; else the fault
-- of the tail; else the first reference fault of their instances; else these.
pub data IsAnswerTo (s : Schema) (file : List ℕ) (end : ℕ) (vs : List Value) : Result (List Instance) Fault → Type 0 where
  value : {f : Fault} → IsFirstValueFault vs f → IsAnswerTo s file end vs (Err f)
  tail : {is : List Instance} {f : Fault} → HaveInstances vs is → HasFault tails file end f → IsAnswerTo s file end vs (Err f)
  reference : {is : List Instance} {f : Fault} → HaveInstances vs is → HasTail file end → IsFirstReferenceFault s is f → IsAnswerTo s file end vs (Err f)
  read : {is : List Instance} → HaveInstances vs is → HasTail file end → AreAnswered s is is → IsAnswerTo s file end vs (Ok is)
