-- What is given within a depth is given within each greater one.
use Rattle.std.proofs.Common.{◌≡◌, ◌≤◌, ℕ, ℤ, zero, suc, pos, negsuc, ◌+◌, List, [], ◌∷◌, ◌++◌, refl, ap, sym, subst, arith, Bool, true, false, Option, Some, None, slice_get}
use Rattle.p21_values.specs.Ends.{Outcome, gives, not_computed, too_deep}
use Rattle.p21_values.specs.Plain.{Val, Vals, none, more, several, whole, bare}
use Rattle.p21_values.specs.Operators.{binary_of}
use Rattle.p21_values.specs.declared.operators.BinaryOperator.TheVariants as binary
use Rattle.p21_values.specs.declared.truth.Truth.{Truth}
use Rattle.p21_evaluate.specs.Ends.{and_then, Replied, value, call, Step, goes_on, escapes, skips, returns}
use Rattle.p21_evaluate.specs.Laws.{Deepens}
use Rattle.p21_evaluate.specs.Meaning.{Answers, meaning, by_parts, does, does_by_parts, each, keeps_places, kept, query_bare, query_of, followed, block, onward, called, choose, chosen, place_of, until_of, turn_of, afterwards, turns, count_of, loop}
use Rattle.p21_evaluate.specs.declared.term.Label.{Label}
use Rattle.p21_evaluate.specs.declared.term.Term.{Term, Literal, Local, Apply', Ask', Combine', Make', Query', Call', items-the_row-Term}
use Rattle.p21_evaluate.specs.declared.term.Statement.{Statement, Assign, If', Case', Repeat', Block', Escape, Skip, Return, items-the_row-Statement}
use Rattle.p21_evaluate.specs.declared.term.Function.{Function}

deep_same : {A : Type 0} (o : Outcome A) → Deepens o o
deep_same (gives x) = refl
deep_same not_computed = refl
deep_same too_deep = tt

deep_and : {A B : Type 0} (o p : Outcome A) (f g : A → Outcome B) → Deepens o p → ((x : A) → Deepens (f x) (g x)) → Deepens (and_then o f) (and_then p g)
deep_and (gives x) p f g h k = subst (λ q. Deepens (f x) (and_then q g)) (sym h) (k x)
deep_and not_computed p f g h k = ap (λ q. and_then q g) h
deep_and too_deep p f g h k = tt

deep_choice : {A : Type 0} (b : Bool) (o p o' p' : Outcome A) → Deepens o p → Deepens o' p' → Deepens (choose b o o') (choose b p p')
deep_choice true o p o' p' h h' = h
deep_choice false o p o' p' h h' = h'

module _ (go go' : Term → Outcome Val) (deep : (t : Term) → Deepens (go t) (go' t)) where
  each_deep : (ts : List Term) → Deepens (each go ts) (each go' ts)
  each_deep [] = refl
  each_deep (t ∷ ts) = deep_and (go t) (go' t) _ _ (deep t) (λ v. deep_and (each go ts) (each go' ts) _ _ (each_deep ts) (λ vs. refl))

  place_deep : (equals : Val → Outcome Val) (ls : List Label) (last : ℕ) → Deepens (place_of go equals ls last) (place_of go' equals ls last)
  place_deep equals [] last = refl
  place_deep equals (l ∷ ls) last =
      deep_and (go l.value) (go' l.value) _ _ (deep l.value) (λ v. deep_and (equals v) (equals v) _ _ (deep_same (equals v)) (λ answer. deep_choice _ (gives l.place) (gives l.place) _ _ refl (place_deep equals ls last)))

kept_deep : (p : Bool) (test test' : Val → Outcome Val) → ((v : Val) → Deepens (test v) (test' v)) → (vs : Vals) → Deepens (kept p test vs) (kept p test' vs)
kept_deep p test test' h none = refl
kept_deep p test test' h (more v vs) = deep_and (test v) (test' v) _ _ (h v) (λ answer. deep_and (kept p test vs) (kept p test' vs) _ _ (kept_deep p test test' h vs) (λ ws. refl))

query_bare_deep : (test test' : Val → Outcome Val) → ((v : Val) → Deepens (test v) (test' v)) → (v : Val) → Deepens (query_bare test v) (query_bare test' v)
query_bare_deep test test' h (several k vs) = deep_and (kept (keeps_places k) test vs) (kept (keeps_places k) test' vs) _ _ (kept_deep (keeps_places k) test test' h vs) (λ ws. refl)
query_bare_deep test test' h _ = refl

query_deep : (test test' : Val → Outcome Val) → ((v : Val) → Deepens (test v) (test' v)) → (v : Val) → Deepens (query_of test v) (query_of test' v)
query_deep test test' h v = query_bare_deep test test' h (bare v)

followed_deep : (calls calls' : ℕ → List Val → Outcome Val) → ((k : ℕ) (vs : List Val) → Deepens (calls k vs) (calls' k vs)) → (v : Val) (r : Replied) → Deepens (followed calls v r) (followed calls' v r)
followed_deep calls calls' h v (value w) = refl
followed_deep calls calls' h v (call k) = h k (v ∷ [])

onward_deep : (f f' : List Val → Outcome Step) → ((env : List Val) → Deepens (f env) (f' env)) → (s : Step) → Deepens (onward f s) (onward f' s)
onward_deep f f' h (goes_on env) = h env
onward_deep f f' h (escapes env) = refl
onward_deep f f' h (skips env) = refl
onward_deep f f' h (returns v) = refl

afterwards_deep : (f f' : List Val → Outcome Step) → ((env : List Val) → Deepens (f env) (f' env)) → (s : Step) → Deepens (afterwards f s) (afterwards f' s)
afterwards_deep f f' h (goes_on env) = h env
afterwards_deep f f' h (skips env) = h env
afterwards_deep f f' h (escapes env) = refl
afterwards_deep f f' h (returns v) = refl

until_deep : (until until' : List Val → Outcome Val) → ((env : List Val) → Deepens (until env) (until' env)) → (s : Step) → Deepens (until_of until s) (until_of until' s)
until_deep until until' h (goes_on env) = deep_and (until env) (until' env) _ _ (h env) (λ v. refl)
until_deep until until' h (skips env) = deep_and (until env) (until' env) _ _ (h env) (λ v. refl)
until_deep until until' h (escapes env) = refl
until_deep until until' h (returns v) = refl

turns_deep : (turn turn' : List Val → Outcome Step) → ((env : List Val) → Deepens (turn env) (turn' env)) → (k : ℕ) (first step : Val) (done left : ℕ) (env : List Val) → Deepens (turns turn k first step done left env) (turns turn' k first step done left env)
turns_deep turn turn' h k first step done zero env = refl
turns_deep turn turn' h k first step done (suc left) env =
    deep_and _ _ _ _ (h _) (afterwards_deep (turns turn k first step (done + 1) left) (turns turn' k first step (done + 1) left) (turns_deep turn turn' h k first step (done + 1) left))

loop_deep : (turn turn' : List Val → Outcome Step) → ((env : List Val) → Deepens (turn env) (turn' env)) → (k : ℕ) (a b s : Val) (env : List Val) → Deepens (loop turn k a b s env) (loop turn' k a b s env)
loop_deep turn turn' h k a b s env = deep_and (count_of a b s) (count_of a b s) _ _ (deep_same (count_of a b s)) (λ n. turns_deep turn turn' h k a s 0 n env)

module _ (runs runs' : Statement → List Val → Outcome Step) (deep : (s : Statement) (env : List Val) → Deepens (runs s env) (runs' s env)) where
  block_deep : (ss : List Statement) (env : List Val) → Deepens (block runs ss env) (block runs' ss env)
  block_deep [] env = refl
  block_deep (s ∷ ss) env = deep_and (runs s env) (runs' s env) _ _ (deep s env) (onward_deep (block runs ss) (block runs' ss) (block_deep ss))

  called_deep : (f : Option Function) (vs : List Val) → Deepens (called (block runs) f vs) (called (block runs') f vs)
  called_deep None vs = refl
  called_deep (Some f) vs = deep_and _ _ _ _ (block_deep f.body.items _) (λ s. refl)

  chosen_deep : (s : Option Statement) (env : List Val) → Deepens (chosen runs s env) (chosen runs' s env)
  chosen_deep None env = refl
  chosen_deep (Some s) env = deep s env

  module _ (go go' : Term → List Val → Outcome Val) (deep_terms : (t : Term) (env : List Val) → Deepens (go t env) (go' t env)) where
    turn_deep : (condition until : Term) (ss : List Statement) (env : List Val) → Deepens (turn_of (go condition) (go until) (block runs ss) env) (turn_of (go' condition) (go' until) (block runs' ss) env)
    turn_deep condition until ss env =
        deep_and (go condition env) (go' condition env) _ _ (deep_terms condition env) (λ v. deep_choice _ _ _ (gives (escapes env)) (gives (escapes env)) (deep_and (block runs ss env) (block runs' ss env) _ _ (block_deep ss env) (until_deep (go until) (go' until) (deep_terms until))) refl)

    does_deep : (e : ℕ → ℕ → Truth) (s : Statement) (env : List Val) → Deepens (does_by_parts e go runs s env) (does_by_parts e go' runs' s env)
    does_deep e (Assign k t) env = deep_and _ _ _ _ (deep_terms t env) (λ v. refl)
    does_deep e (If' t s ys s' ns) env = deep_and _ _ _ _ (deep_terms t env) (λ v. deep_choice _ _ _ _ _ (block_deep (items-the_row-Statement _ ys) env) (block_deep (items-the_row-Statement _ ns) env))
    does_deep e (Case' t ls last s ss) env =
        deep_and _ _ _ _ (deep_terms t env) (λ v. deep_and _ _ _ _ (place_deep (λ u. go u env) (λ u. go' u env) (λ u. deep_terms u env) (binary_of e binary.Equal v) ls.items last) (λ k. chosen_deep (slice_get (items-the_row-Statement _ ss) k) env))
    does_deep e (Repeat' k a b c condition until s ss) env =
        deep_and _ _ _ _ (deep_terms a env) (λ v. deep_and _ _ _ _ (deep_terms b env) (λ u. deep_and _ _ _ _ (deep_terms c env) (λ x. loop_deep _ _ (turn_deep condition until (items-the_row-Statement _ ss)) k v u x env)))
    does_deep e (Block' s ss) env = block_deep (items-the_row-Statement _ ss) env
    does_deep e Escape env = refl
    does_deep e Skip env = refl
    does_deep e (Return t) env = deep_and _ _ _ _ (deep_terms t env) (λ v. refl)

module _ (w : Answers) (go go' : Term → List Val → Outcome Val) (deep : (t : Term) (env : List Val) → Deepens (go t env) (go' t env)) (calls calls' : ℕ → List Val → Outcome Val) (deep_calls : (k : ℕ) (vs : List Val) → Deepens (calls k vs) (calls' k vs)) where
  parts_deep : (t : Term) (env : List Val) → Deepens (by_parts w go calls t env) (by_parts w go' calls' t env)
  parts_deep (Literal l) env = refl
  parts_deep (Local k) env = refl
  parts_deep (Apply' op p a) env = deep_and _ _ _ _ (deep a env) (λ v. deep_same _)
  parts_deep (Ask' q p a) env = deep_and _ _ _ _ (deep a env) (λ v. deep_and _ _ _ _ (deep_same (w.replied q v)) (followed_deep calls calls' deep_calls v))
  parts_deep (Combine' c p a q b) env = deep_and _ _ _ _ (deep a env) (λ v. deep_and _ _ _ _ (deep b env) (λ u. deep_same _))
  parts_deep (Make' m s es) env = deep_and _ _ _ _ (each_deep (λ e. go e env) (λ e. go' e env) (λ e. deep e env) (items-the_row-Term _ es)) (λ vs. deep_same _)
  parts_deep (Query' p a q c) env = deep_and _ _ _ _ (deep a env) (query_deep _ _ (λ x. deep c (env ++ x ∷ [])))
  parts_deep (Call' f s es) env = deep_and _ _ _ _ (each_deep (λ e. go e env) (λ e. go' e env) (λ e. deep e env) (items-the_row-Term _ es)) (deep_calls f)

mutual
  pub meaning_deep : (n m : ℕ) (w : Answers) (fs : List Function) (t : Term) (env : List Val) → n ≤ m → Deepens (meaning n w fs t env) (meaning m w fs t env)
  meaning_deep zero m w fs t env le = tt
  meaning_deep (suc n) zero w fs t env le = let no : ⊥ = omega arith in absurd no
  meaning_deep (suc n) (suc m) w fs t env le =
      let below : n ≤ m = omega arith in
      parts_deep w (meaning n w fs) (meaning m w fs) (λ u e. meaning_deep n m w fs u e below) _ _ (λ k vs. called_deep (does n w fs) (does m w fs) (λ s e. does_deepens n m w fs s e below) (slice_get fs k) vs) t env

  pub does_deepens : (n m : ℕ) (w : Answers) (fs : List Function) (s : Statement) (env : List Val) → n ≤ m → Deepens (does n w fs s env) (does m w fs s env)
  does_deepens zero m w fs s env le = tt
  does_deepens (suc n) zero w fs s env le = let no : ⊥ = omega arith in absurd no
  does_deepens (suc n) (suc m) w fs s env le =
      let below : n ≤ m = omega arith in
      does_deep (does n w fs) (does m w fs) (λ u e. does_deepens n m w fs u e below) (meaning n w fs) (meaning m w fs) (λ t e. meaning_deep n m w fs t e below) w.same s env
