-- How an operation ends.
use Rattle.std.specs.Prelude.{◌≡◌, Result, Ok, Err}
use Rattle.p21_values.specs.Plain.{Val, plain}
use Rattle.p21_values.specs.declared.value.Value.{Value}
use Rattle.p21_values.specs.declared.stop.Stop.{Stop}
use Rattle.p21_values.specs.declared.stop.Stop.TheVariants.{Memory, Limit, NotCompared, NotComputed, TooDeep}

-- the end for want of memory
abbrev pub memory : Stop
memory = Memory

-- a value of A, or that it is not computed, or nested too deeply
pub data Outcome (A : Type 0) : Type 0 where
  gives : A → Outcome A
  not_computed : Outcome A
  too_deep : Outcome A

-- an end for want of memory or of steps, or where values are not compared, says nothing of the values
abbrev pub ClaimsNothing : Stop → Type 0
ClaimsNothing Memory = Unit {0}
ClaimsNothing Limit = Unit {0}
ClaimsNothing NotCompared = Unit {0}
ClaimsNothing NotComputed = ⊥
ClaimsNothing TooDeep = ⊥

-- an end that says that a value is not computed, or nested too deeply, comes where the definition says so
abbrev pub EndsWith : {A : Type 0} → Stop → Outcome A → Type 0
EndsWith Memory o = Unit {0}
EndsWith Limit o = Unit {0}
EndsWith NotCompared o = Unit {0}
EndsWith NotComputed o = o ≡ not_computed
EndsWith TooDeep o = o ≡ too_deep

-- a result is the value that the definition gives, or ends as it says
abbrev pub Gives : Result Value Stop → Outcome Val → Type 0
Gives (Ok v) o = o ≡ gives (plain v)
Gives (Err e) o = EndsWith e o
