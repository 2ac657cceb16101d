-- What holds of every expression and statement.
use Rattle.std.specs.Prelude.{◌≡◌, ◌≤◌, ◌↔◌, ◌++◌, ◌∷◌, [], ℕ, suc, pos, List, false}
use Rattle.std.specs.Global.{Global}
use Rattle.std.specs.declared.boxed.Box.{Box}
use Rattle.p21_values.specs.Ends.{Outcome, gives, not_computed, too_deep}
use Rattle.p21_values.specs.Plain.{Val, Vals, truth, several, none, more}
use Rattle.p21_values.specs.declared.kind.Kind.{Kind}
use Rattle.p21_values.specs.declared.operators.BinaryOperator.{BinaryOperator}
use Rattle.p21_values.specs.declared.operators.BinaryOperator.TheVariants as binary
use Rattle.p21_values.specs.declared.operators.UnaryOperator.TheVariants as unary
use Rattle.p21_values.specs.declared.truth.Truth.TheVariants.{True}
use Rattle.p21_evaluate.specs.Meaning.{Answers, is_true, keeps_places, meaning, does}
use Rattle.p21_evaluate.specs.declared.term.Combination.TheVariants as combination
use Rattle.p21_evaluate.specs.declared.term.Function.{Function}
use Rattle.p21_evaluate.specs.declared.term.Literal.TheVariants as literal
use Rattle.p21_evaluate.specs.declared.term.Statement.{Statement}
use Rattle.p21_evaluate.specs.declared.term.Term.{Term}
use Rattle.p21_evaluate.specs.declared.term.Term.TheVariants as term

-- the second is the first, unless that is nested too deeply
abbrev pub Deepens : {A : Type 0} → Outcome A → Outcome A → Type 0
Deepens (gives x) p = p ≡ gives x
Deepens not_computed p = p ≡ not_computed
Deepens too_deep p = Unit {0}

-- what an expression means within a depth, it means within each greater one
abbrev pub ExpressionDeepens : ℕ → ℕ → Type 0
ExpressionDeepens n m = (w : Answers) (fs : List Function) (t : Term) (env : List Val) → n ≤ m → Deepens (meaning n w fs t env) (meaning m w fs t env)

-- so does a statement
abbrev pub StatementDeepens : ℕ → ℕ → Type 0
StatementDeepens n m = (w : Answers) (fs : List Function) (s : Statement) (env : List Val) → n ≤ m → Deepens (does n w fs s env) (does m w fs s env)

-- the expression `a op b`
abbrev pub IsCombined : BinaryOperator → Term → Term → Term → Type 0
IsCombined op t a b = (x y : Box Term Global) × (t ≡ term.Combine (combination.Operator op) x y) × (x.value ≡ a) × (y.value ≡ b)

-- where an operator gives a value, it gives the same with its operands the other way round
abbrev pub Commutes : BinaryOperator → Type 0
Commutes op = (n : ℕ) (w : Answers) (fs : List Function) (t u a b : Term) (env : List Val) (v : Val) → IsCombined op t a b → IsCombined op u b a → meaning n w fs t env ≡ gives v → meaning n w fs u env ≡ gives v

-- a test is TRUE of no element: of each it gives a value, which is not TRUE
abbrev pub IsTrueOfNone : (Val → Outcome Val) → Vals → Type 0
IsTrueOfNone test none = Unit {0}
IsTrueOfNone test (more v vs) = ((answer : Val) × (test v ≡ gives answer) × (is_true answer ≡ false)) × IsTrueOfNone test vs

-- the expression `SIZEOF(QUERY(x <* over | condition)) = 0`
abbrev pub IsNone : Term → Term → Term → Type 0
IsNone t over condition = (size zero_ query from test : Box Term Global) × (t ≡ term.Combine (combination.Operator binary.Equal) size zero_) × (size.value ≡ term.Apply unary.SizeOf query) × (zero_.value ≡ term.Literal (literal.Integer (pos 0))) × (query.value ≡ term.Query from test) × (from.value ≡ over) × (test.value ≡ condition)

-- over an aggregate that is no array it is TRUE exactly where the condition is TRUE of no element
abbrev pub NoneIsTrue : Type 0
NoneIsTrue = (n : ℕ) (w : Answers) (fs : List Function) (t over condition : Term) (env : List Val) (k : Kind) (vs : Vals) → keeps_places k ≡ false → IsNone t over condition → meaning n w fs over env ≡ gives (several k vs) → (meaning (suc (suc (suc n))) w fs t env ≡ gives (truth True)) ↔ IsTrueOfNone (λ x. meaning n w fs condition (env ++ x ∷ [])) vs
