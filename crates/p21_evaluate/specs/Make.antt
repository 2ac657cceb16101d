-- What is made of several values.
use Rattle.std.specs.Prelude.{ℕ, List, [], ◌∷◌}
use Rattle.p21_values.specs.Elements.{with_element_of}
use Rattle.p21_values.specs.Ends.{Outcome, gives}
use Rattle.p21_values.specs.Operators.{binary_of}
use Rattle.p21_values.specs.Parts.{range_of}
use Rattle.p21_values.specs.Plain.{Val, nothing, several}
use Rattle.p21_values.specs.Sets.{vals}
use Rattle.p21_values.specs.declared.kind.Kind.TheVariants as kind
use Rattle.p21_values.specs.declared.operators.BinaryOperator.{BinaryOperator}
use Rattle.p21_values.specs.declared.operators.BinaryOperator.TheVariants as binary
use Rattle.p21_values.specs.declared.truth.Truth.{Truth}
use Rattle.p21_evaluate.specs.Ends.{and_then}
use Rattle.p21_evaluate.specs.declared.term.Making.{Making}
use Rattle.p21_evaluate.specs.declared.term.Making.TheVariants as making
use Rattle.p21_evaluate.specs.declared.term.Construction.{Construction}

-- an interval `{a < b < c}`: both comparisons hold
abbrev pub interval_of : (ℕ → ℕ → Truth) → BinaryOperator → BinaryOperator → List Val → Outcome Val
interval_of e op op' (a ∷ b ∷ c ∷ []) = and_then (binary_of e op a b) (λ v. and_then (binary_of e op' b c) (λ w. binary_of e binary.And v w))
interval_of e op op' _ = gives nothing

-- `[i:j]`
abbrev pub part_of : List Val → Val
part_of (v ∷ i ∷ j ∷ []) = range_of v i j
part_of _ = nothing

-- an aggregate with another element at an index, as an assignment `x[i] := v` leaves it
abbrev pub with_part_of : List Val → Val
with_part_of (v ∷ i ∷ w ∷ []) = with_element_of v i w
with_part_of _ = nothing

-- what is made of several values, where instances give the rest
abbrev pub made_of : (ℕ → ℕ → Truth) → (Construction → List Val → Outcome Val) → Making → List Val → Outcome Val
made_of e made making.Initializer vs = gives (several kind.Initializer (vals vs))
made_of e made making.Part vs = gives (part_of vs)
made_of e made making.WithElement vs = gives (with_part_of vs)
made_of e made (making.Interval op op') vs = interval_of e op op' vs
made_of e made (making.Construction c) vs = made c vs
