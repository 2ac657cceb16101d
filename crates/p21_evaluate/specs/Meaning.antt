-- What expressions and statements mean.
use Rattle.std.specs.Prelude.{◌≡◌, ℕ, ℤ, zero, suc, pos, neg_ℤ, ◌+◌, ◌/◌, ◌+ℤ◌, ◌-ℤ◌, ◌*ℤ◌, Bool, true, false, List, [], ◌∷◌, ◌++◌, Option, Some, None, slice_get, slice_set, replicate, if◌then◌else◌, int_lt, unsigned_abs}
use Rattle.p21_values.specs.Plain.{Val, Vals, nothing, truth, whole, several, none, more, plain, bare}
use Rattle.p21_values.specs.Ends.{Outcome, gives, not_computed, too_deep}
use Rattle.p21_values.specs.Operators.{binary_of, unary_of}
use Rattle.p21_values.specs.declared.truth.Truth.{Truth}
use Rattle.p21_values.specs.declared.truth.Truth.TheVariants.{True}
use Rattle.p21_values.specs.declared.value.Value.{Value}
use Rattle.p21_values.specs.declared.kind.Kind.{Kind}
use Rattle.p21_values.specs.declared.kind.Kind.TheVariants as kind
use Rattle.p21_values.specs.declared.operators.BinaryOperator.TheVariants as binary
use Rattle.p21_evaluate.specs.Literals.{literal_of}
use Rattle.p21_evaluate.specs.Combine.{combined_of}
use Rattle.p21_evaluate.specs.Make.{made_of}
use Rattle.p21_evaluate.specs.Ends.{and_then, Replied, value, call, Step, goes_on, escapes, skips, returns}
use Rattle.p21_evaluate.specs.declared.term.Question.{Question}
use Rattle.p21_evaluate.specs.declared.term.Construction.{Construction}
use Rattle.p21_evaluate.specs.declared.term.Label.{Label}
use Rattle.p21_evaluate.specs.declared.term.Term.{Term, Literal, Local, Apply', Ask', Combine', Make', Query', Call', items-the_row-Term}
use Rattle.p21_evaluate.specs.declared.term.Statement.{Statement, Assign, If', Case', Repeat', Block', Escape, Skip, Return, items-the_row-Statement}
use Rattle.p21_evaluate.specs.declared.term.Function.{Function}

-- what the instances answer: whether two are the same, what is said about a value, and what is made of values
pub record Answers : Type 0 where
  pub same : ℕ → ℕ → Truth
  pub replied : Question → Val → Outcome Replied
  pub made : Construction → List Val → Outcome Val

-- the value of a variable, `?` where there is none
abbrev pub value_of_slot : Option Val → Val
value_of_slot None = nothing
value_of_slot (Some v) = v

-- whether a value is TRUE: defined types play no part
abbrev pub true_bare : Val → Bool
true_bare (truth True) = true
true_bare _ = false

abbrev pub is_true : Val → Bool
is_true v = true_bare (bare v)

-- what is answered about a value, where functions give these values
abbrev pub followed : (ℕ → List Val → Outcome Val) → Val → Replied → Outcome Val
followed calls v (value w) = gives w
followed calls v (call k) = calls k (v ∷ [])

-- whether an aggregate keeps the places of the elements that a query leaves out: an array has as many as it has indices
abbrev pub keeps_places : Kind → Bool
keeps_places (kind.Array i) = true
keeps_places _ = false

-- what stands for an element that is left out: `?` where its place is kept
abbrev pub left_out : Bool → Vals → Vals
left_out true vs = more nothing vs
left_out false vs = vs

-- an element before others, where a test is TRUE of it
abbrev pub keep_if : Bool → Bool → Val → Vals → Vals
keep_if p true v vs = more v vs
keep_if p false v vs = left_out p vs

-- values, and others after them
abbrev pub before : List Value → Vals → Vals
before [] ws = ws
before (v ∷ vs) ws = more (plain v) (before vs ws)

-- the elements for which a test is TRUE
abbrev pub kept : Bool → (Val → Outcome Val) → Vals → Outcome Vals
kept p test none = gives none
kept p test (more v vs) = and_then (test v) (λ answer. and_then (kept p test vs) (λ ws. gives (keep_if p (is_true answer) v ws)))

-- a query over an aggregate: one of the same kind with these elements; over another value it is `?`
abbrev pub query_bare : (Val → Outcome Val) → Val → Outcome Val
query_bare test (several k vs) = and_then (kept (keeps_places k) test vs) (λ ws. gives (several k ws))
query_bare test _ = gives nothing

-- defined types of the aggregate play no part
abbrev pub query_of : (Val → Outcome Val) → Val → Outcome Val
query_of test v = query_bare test (bare v)

-- the values of expressions, from the left
abbrev pub each : (Term → Outcome Val) → List Term → Outcome (List Val)
each go [] = gives []
each go (e ∷ es) = and_then (go e) (λ v. and_then (each go es) (λ vs. gives (v ∷ vs)))

-- what comes after a statement that went on
abbrev pub onward : (List Val → Outcome Step) → Step → Outcome Step
onward f (goes_on env) = f env
onward f (escapes env) = gives (escapes env)
onward f (skips env) = gives (skips env)
onward f (returns v) = gives (returns v)

-- statements, one after the other
abbrev pub block : (Statement → List Val → Outcome Step) → List Statement → List Val → Outcome Step
block go [] env = gives (goes_on env)
block go (s ∷ ss) env = and_then (go s env) (onward (block go ss))

-- the value of a function whose statements ended so
abbrev pub returned : Step → Val
returned (returns v) = v
returned _ = nothing

-- a call of a function, if it is there
abbrev pub called : (List Statement → List Val → Outcome Step) → Option Function → List Val → Outcome Val
called runs None args = gives nothing
called runs (Some f) args = and_then (runs f.body.items (args ++ replicate f.locals nothing)) (λ s. gives (returned s))

-- one of two, as a condition is TRUE or not
abbrev pub choose : {A : Type 0} → Bool → A → A → A
choose true a b = a
choose false a b = b

-- the place of the first label that equals a value, else the last place
abbrev pub place_of : (Term → Outcome Val) → (Val → Outcome Val) → List Label → ℕ → Outcome ℕ
place_of go equals [] last = gives last
place_of go equals (l ∷ ls) last = and_then (go l.value) (λ v. and_then (equals v) (λ answer. choose (is_true answer) (gives l.place) (place_of go equals ls last)))

-- the statement at a place, if there is one
abbrev pub chosen : (Statement → List Val → Outcome Step) → Option Statement → List Val → Outcome Step
chosen runs None env = gives (goes_on env)
chosen runs (Some s) env = runs s env

-- how many integers stand from one to another by steps; none where the step leads away
abbrev pub span_of : ℤ → ℤ → ℤ → ℕ
span_of a b s =
    if int_lt (pos 0) s
    then (if int_lt b a then 0 else unsigned_abs (b -ℤ a) / unsigned_abs s + 1)
    else (if int_lt a b then 0 else unsigned_abs (b -ℤ a) / unsigned_abs s + 1)

-- how many turns a loop has: none where a bound or the step is no integer; by steps of 0 it is not computed
abbrev pub span_bare : Val → Val → Val → Outcome ℕ
span_bare (whole a) (whole b) (whole (pos zero)) = not_computed
span_bare (whole a) (whole b) (whole s) = gives (span_of a b s)
span_bare _ _ _ = gives 0

abbrev pub count_of : Val → Val → Val → Outcome ℕ
count_of a b s = span_bare (bare a) (bare b) (bare s)

-- the integer of a turn, where so many are done
abbrev pub stepped_bare : Val → Val → ℕ → Val
stepped_bare (whole a) (whole s) n = whole (a +ℤ pos n *ℤ s)
stepped_bare _ _ n = nothing

abbrev pub stepped_of : Val → Val → ℕ → Val
stepped_of a s n = stepped_bare (bare a) (bare s) n

-- whether UNTIL ends a loop behind a turn
abbrev pub until_of : (List Val → Outcome Val) → Step → Outcome Step
until_of until (goes_on env) = and_then (until env) (λ v. gives (choose (is_true v) (escapes env) (goes_on env)))
until_of until (skips env) = and_then (until env) (λ v. gives (choose (is_true v) (escapes env) (goes_on env)))
until_of until (escapes env) = gives (escapes env)
until_of until (returns v) = gives (returns v)

-- a turn of a loop: WHILE before it, the statements, UNTIL behind it
abbrev pub turn_of : (List Val → Outcome Val) → (List Val → Outcome Val) → (List Val → Outcome Step) → List Val → Outcome Step
turn_of condition until body env = and_then (condition env) (λ v. choose (is_true v) (and_then (body env) (until_of until)) (gives (escapes env)))

-- what comes after a turn of a loop
abbrev pub afterwards : (List Val → Outcome Step) → Step → Outcome Step
afterwards f (goes_on env) = f env
afterwards f (skips env) = f env
afterwards f (escapes env) = gives (goes_on env)
afterwards f (returns v) = gives (returns v)

-- so many turns, where some are done, from a value on by steps
abbrev pub turns : (List Val → Outcome Step) → ℕ → Val → Val → ℕ → ℕ → List Val → Outcome Step
turns turn k first step done zero env = gives (goes_on env)
turns turn k first step done (suc left) env = and_then (turn (slice_set env k (stepped_of first step done))) (afterwards (turns turn k first step (done + 1) left))

-- a loop from a value to another by steps
abbrev pub loop : (List Val → Outcome Step) → ℕ → Val → Val → Val → List Val → Outcome Step
loop turn k a b s env = and_then (count_of a b s) (λ n. turns turn k a s 0 n env)

-- a statement, by what its parts mean
abbrev pub does_by_parts : (ℕ → ℕ → Truth) → (Term → List Val → Outcome Val) → (Statement → List Val → Outcome Step) → Statement → List Val → Outcome Step
does_by_parts e go runs (Assign k t) env = and_then (go t env) (λ v. gives (goes_on (slice_set env k v)))
does_by_parts e go runs (If' t s ys s' ns) env = and_then (go t env) (λ v. choose (is_true v) (block runs (items-the_row-Statement _ ys) env) (block runs (items-the_row-Statement _ ns) env))
does_by_parts e go runs (Case' t ls last s ss) env = and_then (go t env) (λ v. and_then (place_of (λ t. go t env) (λ u. binary_of e binary.Equal v u) ls.items last) (λ k. chosen runs (slice_get (items-the_row-Statement _ ss) k) env))
does_by_parts e go runs (Repeat' k a b c condition until s ss) env = and_then (go a env) (λ v. and_then (go b env) (λ w. and_then (go c env) (λ u. loop (turn_of (go condition) (go until) (block runs (items-the_row-Statement _ ss))) k v w u env)))
does_by_parts e go runs (Block' s ss) env = block runs (items-the_row-Statement _ ss) env
does_by_parts e go runs Escape env = gives (escapes env)
does_by_parts e go runs Skip env = gives (skips env)
does_by_parts e go runs (Return t) env = and_then (go t env) (λ v. gives (returns v))

-- an expression, by what its parts and functions mean
abbrev pub by_parts : Answers → (Term → List Val → Outcome Val) → (ℕ → List Val → Outcome Val) → Term → List Val → Outcome Val
by_parts w go calls (Literal l) env = gives (literal_of l)
by_parts w go calls (Local k) env = gives (value_of_slot (slice_get env k))
by_parts w go calls (Apply' op p a) env = and_then (go a env) (unary_of op)
by_parts w go calls (Ask' q p a) env = and_then (go a env) (λ v. and_then (w.replied q v) (followed calls v))
by_parts w go calls (Combine' c p a q b) env = and_then (go a env) (λ v. and_then (go b env) (λ u. combined_of w.same c v u))
by_parts w go calls (Make' m s es) env = and_then (each (λ e. go e env) (items-the_row-Term _ es)) (made_of w.same w.made m)
by_parts w go calls (Query' p a q c) env = and_then (go a env) (query_of (λ x. go c (env ++ x ∷ [])))
by_parts w go calls (Call' f s es) env = and_then (each (λ e. go e env) (items-the_row-Term _ es)) (calls f)

-- what expressions and statements mean, where at most n are nested
abbrev mutual
  pub meaning : ℕ → Answers → List Function → Term → List Val → Outcome Val
  meaning zero w fs t env = too_deep
  meaning (suc n) w fs t env = by_parts w (meaning n w fs) (λ k. called (block (does n w fs)) (slice_get fs k)) t env

  pub does : ℕ → Answers → List Function → Statement → List Val → Outcome Step
  does zero w fs s env = too_deep
  does (suc n) w fs s env = does_by_parts w.same (meaning n w fs) (does n w fs) s env
