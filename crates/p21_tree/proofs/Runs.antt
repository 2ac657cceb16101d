-- How the machine goes over tokens: what it did at the front of a list it does at the front of a longer one.
use Rattle.std.proofs.Common.{◌≡◌, List, [], ◌∷◌, ◌++◌, refl, ap, ◌∙◌}
use Rattle.p21_text.specs.Spelling.{Symbol}
use Rattle.p21_tree.specs.Machine.{State, Step, Answer, go, closed, refused, deep, going, ended, fault, next, step, run}

-- what more tokens make of an answer
abbrev pub goes_on : Answer → List Symbol → Answer
goes_on (going s) more_tokens = run more_tokens s
goes_on (ended found rest) more_tokens = ended found (rest ++ more_tokens)
goes_on (fault s t rest) more_tokens = fault s t (rest ++ more_tokens)

pub next_then : (s : State) (t : Symbol) (ts us : List Symbol) (o : Step) → ((r : State) → run (ts ++ us) r ≡ goes_on (run ts r) us) → next s t (ts ++ us) o (run (ts ++ us)) ≡ goes_on (next s t ts o (run ts)) us
next_then s t ts us (go r) again = again r
next_then s t ts us (closed found) again = refl
next_then s t ts us refused again = refl
next_then s t ts us deep again = refl

pub run_then : (ts us : List Symbol) (s : State) → run (ts ++ us) s ≡ goes_on (run ts s) us
unfolding run
run_then [] us s = refl
run_then (t ∷ ts) us s = next_then s t ts us (step s t) (λ r. run_then ts us r)

pub run_going : (ts us : List Symbol) (s r : State) → run ts s ≡ going r → run (ts ++ us) s ≡ run us r
run_going ts us s r e = run_then ts us s ∙ ap (λ a. goes_on a us) e
