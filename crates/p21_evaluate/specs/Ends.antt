-- How evaluations end.
use Rattle.std.specs.Prelude.{◌≡◌, ℕ, Result, Ok, Err, Option, Some, None, List, map, Vec}
use Rattle.std.specs.Global.{Global}
use Rattle.p21_values.specs.Plain.{Val, Vals, nothing, plain, plain_all}
use Rattle.p21_values.specs.Ends.{Outcome, gives, not_computed, too_deep, EndsWith}
use Rattle.p21_values.specs.declared.value.Value.{Value}
use Rattle.p21_values.specs.declared.stop.Stop.{Stop}
use Rattle.p21_evaluate.specs.declared.world.Reply.{Reply}
use Rattle.p21_evaluate.specs.declared.world.Reply.TheVariants.{Value as value_reply, Call as call_reply}
use Rattle.p21_evaluate.specs.declared.end.End.{End}
use Rattle.p21_evaluate.specs.declared.end.End.TheVariants.{GoesOn, Escapes, Skips, Returns}

-- what comes of a value, where there is one
abbrev pub and_then : {A B : Type 0} → Outcome A → (A → Outcome B) → Outcome B
and_then (gives x) f = f x
and_then not_computed f = not_computed
and_then too_deep f = too_deep

-- what is answered about a value: a value, or what a function gives for it
pub data Replied : Type 0 where
  value : Val → Replied
  call : ℕ → Replied

-- how a statement ends: with its variables, behind it, behind the loop around it or at the loop's next turn, or with the function's value
pub data Step : Type 0 where
  goes_on : List Val → Step
  escapes : List Val → Step
  skips : List Val → Step
  returns : Val → Step

-- a result is these values, or ends as the definition does
abbrev pub GivesAll : Result (Vec Value Global) Stop → Outcome (List Val) → Type 0
GivesAll (Ok vs) o = o ≡ gives (map plain vs.items)
GivesAll (Err e) o = EndsWith e o

-- so are the elements of an aggregate
abbrev pub GivesVals : Result (Vec Value Global) Stop → Outcome Vals → Type 0
GivesVals (Ok vs) o = o ≡ gives (plain_all vs.items)
GivesVals (Err e) o = EndsWith e o

-- so is a place
abbrev pub GivesPlace : Result ℕ Stop → Outcome ℕ → Type 0
GivesPlace (Ok k) o = o ≡ gives k
GivesPlace (Err e) o = EndsWith e o

-- so is what is answered
abbrev pub plain_reply : Reply → Replied
plain_reply (value_reply v) = value (plain v)
plain_reply (call_reply k) = call k

abbrev pub Replies : Result Reply Stop → Outcome Replied → Type 0
Replies (Ok r) o = o ≡ gives (plain_reply r)
Replies (Err e) o = EndsWith e o

-- the end of a statement, where the variables have these values
abbrev pub step_of : End → List Value → Step
step_of GoesOn slots = goes_on (map plain slots)
step_of Escapes slots = escapes (map plain slots)
step_of Skips slots = skips (map plain slots)
step_of (Returns v) slots = returns (plain v)

-- a statement ends as the definition says
abbrev pub Does : Result End Stop → List Value → Outcome Step → Type 0
Does (Ok end) slots o = o ≡ gives (step_of end slots)
Does (Err e) slots o = EndsWith e o

-- the value of a function whose statements ended so
abbrev pub returned_value : End → Val
returned_value (Returns v) = plain v
returned_value _ = nothing

-- how a loop ends behind a turn that ended so, where it does
abbrev pub leaves : End → Option End
leaves GoesOn = None
leaves Skips = None
leaves Escapes = Some GoesOn
leaves (Returns v) = Some (Returns v)
