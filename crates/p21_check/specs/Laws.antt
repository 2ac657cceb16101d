-- What holds of every schema, header section and instance.
use Rattle.std.specs.Prelude.{◌≡◌, ℕ, List, Option, None, All, Any}
use Rattle.p21_express.specs.Schema.{Schema}
use Rattle.p21_tree.specs.Sentence.{Instance, Opening}
use Rattle.p21_tree.specs.declared.faults.FaultKind.{FaultKind}
use Rattle.p21_check.specs.Header.{IsHeaderFault}
use Rattle.p21_check.specs.LocalFault.{IsLocalFault, HasFault}
use Rattle.p21_check.specs.References.{IsReferenceFault, HasFaultAt}
use Rattle.p21_check.specs.declared.referred.Reference.{Reference}
use Rattle.p21_check.specs.Referred.{plain_reference, AreReferencesOf}
use Rattle.p21_check.specs.Walk.{IsAnswered}

-- no two answers, each a fault or none, are right of the header section
abbrev pub HasOneHeaderFault : Schema → Opening → Type 0
HasOneHeaderFault s opening = (a b : Option FaultKind) → IsHeaderFault s opening a → IsHeaderFault s opening b → a ≡ b

-- no two answers are right of the instance by itself
abbrev pub HasOneLocalFault : Schema → Instance → Type 0
HasOneLocalFault s i = (a b : Option FaultKind) → IsLocalFault s i a → IsLocalFault s i b → a ≡ b

-- no two answers are right of the references of the instance, where these instances have the names
abbrev pub HasOneReferenceFault : Schema → (ℕ → Option Instance) → Instance → Type 0
HasOneReferenceFault s named i = (a b : Option FaultKind) → IsReferenceFault s named i a → IsReferenceFault s named i b → a ≡ b

-- no answer of none is right of an instance that has a fault by itself, whichever it is
abbrev pub PassesNoLocalFault : Schema → Instance → Type 0
PassesNoLocalFault s i = (k : FaultKind) → HasFault s i k → ¬ (IsLocalFault s i None)

-- no answer of none is right of its references where one of them is at fault, wherever it stands
abbrev pub PassesNoReferenceFault : Schema → (ℕ → Option Instance) → Instance → Type 0
PassesNoReferenceFault s named i = (rec_ attr place : ℕ) → (k : FaultKind) → HasFaultAt s named i rec_ attr place k → ¬ (IsReferenceFault s named i None)

-- where the references of an instance are all answered, they have no fault
abbrev pub PassesAnswered : Schema → (ℕ → Option Instance) → Instance → List Reference → Type 0
PassesAnswered s named i rs = AreReferencesOf s i rs → All (λ r. IsAnswered s named (plain_reference s r)) rs → IsReferenceFault s named i None

-- where one of them is not answered, they have one
abbrev pub RefusesUnanswered : Schema → (ℕ → Option Instance) → Instance → List Reference → Type 0
RefusesUnanswered s named i rs = AreReferencesOf s i rs → Any (λ r. ¬ (IsAnswered s named (plain_reference s r))) rs → ¬ (IsReferenceFault s named i None)
