-- Each state that the machine reaches can be closed, and what is closed is what the grammar allows.
use Rattle.std.proofs.Common.{◌≡◌, ℕ, suc, zero, ◌+◌, ◌≤◌, ◌-◌, true, false, Some, None, List, [], ◌∷◌, ◌++◌, refl, sym, ap, subst, ◌∙◌, append_assoc, append-nil, arith}
use Rattle.p21_text.specs.Spelling.{Symbol}
use Rattle.p21_text.specs.Spelling as token
use Rattle.p21_tree.specs.Tree.{Tree, Trees, nil, trees_append}
use Rattle.p21_tree.specs.Tree as tree
use Rattle.p21_tree.specs.Grammar.{IsParam, IsOptional, IsParams}
use Rattle.p21_tree.specs.Grammar as grammar
use Rattle.p21_tree.specs.Machine.{Stack, Mode, State, base, list, typed, first, want, behind_key, after, going, ended, run, start}
use Rattle.p21_tree.proofs.Complete.{state, run_leaf, run_open_typed, run_close, run_close_typed, optional_runs}
use Rattle.p21_tree.proofs.Sound.{InMode, Reads, AnswerReads, run_reads}
use Rattle.p21_tree.specs.Parts.{IsClosed}

-- one closing parenthesis for each that is open
abbrev pub closers : Stack → List Symbol
closers (base before) = token.rparen ∷ []
closers (list before below) = token.rparen ∷ closers below
closers (typed k below) = token.rparen ∷ closers below

abbrev pub Ends : State → List Symbol → Type 0
Ends s rest = (found : Trees) × (run rest s ≡ ended found [])

pub ends_after : (stack : Stack) (room : ℕ) (t : Tree) → Ends (state (after t) stack room) (closers stack)
ends_after (base before) room t = (trees_append before t, run_close None before t room [])
ends_after (list before below) room t =
    let h : Ends (state (after (tree.items (trees_append before t))) below (suc room)) (closers below) = ends_after below (suc room) (tree.items (trees_append before t)) in
    (h.0, run_close (Some below) before t room (closers below) ∙ h.1)
ends_after (typed k below) room t =
    let h : Ends (state (after (tree.typed k t)) below (suc room)) (closers below) = ends_after below (suc room) (tree.typed k t) in
    (h.0, run_close_typed k t below room (closers below) ∙ h.1)

pub ends_wanted : (stack : Stack) (room : ℕ) → Ends (state want stack room) (token.star ∷ closers stack)
ends_wanted stack room =
    let h : Ends (state (after tree.derived) stack room) (closers stack) = ends_after stack room tree.derived in
    (h.0, run_leaf grammar.derived false stack room (closers stack) ∙ h.1)

pub mode_ends : (left : ℕ) (mode : Mode) (stack : Stack) (room : ℕ) (ts : List Symbol) → InMode left mode stack room ts → (rest : List Symbol) × Ends (state mode stack room) rest
mode_ends left first stack room ts i =
    let h : Ends (state (after tree.derived) stack room) (closers stack) = ends_after stack room tree.derived in
    (token.star ∷ closers stack, (h.0, run_leaf grammar.derived true stack room (closers stack) ∙ h.1))
mode_ends left want stack room ts i = (token.star ∷ closers stack, ends_wanted stack room)
mode_ends left (behind_key k) stack room ts i =
    let h : Ends (state want (typed k stack) i.2) (token.star ∷ closers (typed k stack)) = ends_wanted (typed k stack) i.2 in
    (token.lparen ∷ token.star ∷ closers (typed k stack), (h.0, subst (λ r. run (token.lparen ∷ token.star ∷ closers (typed k stack)) (state (behind_key k) stack r) ≡ ended h.0 []) (sym i.5) (run_open_typed k stack i.2 (token.star ∷ closers (typed k stack)) ∙ h.1)))
mode_ends left (after t) stack room ts i = (closers stack, ends_after stack room t)

-- a state that was reached has a rest that ends it
pub reads_ends : (left : ℕ) (s : State) (ts : List Symbol) → Reads left s ts → (rest : List Symbol) × Ends s rest
reads_ends left s ts i = mode_ends left s.mode s.stack s.room ts i

pub going_reads : (left : ℕ) (ts : List Symbol) (s : State) → run ts (start left) ≡ going s → Reads left s ts
going_reads left ts s e = subst (λ a. AnswerReads left a [] ts) e (run_reads left ts (start left) [] (refl, refl))

pub ended_closed : (left : ℕ) (ts : List Symbol) (found : Trees) (rest : List Symbol) → run ts (start left) ≡ ended found rest → (used : List Symbol) × (ts ≡ used ++ rest) × IsClosed left used found
ended_closed left ts found rest e = subst (λ a. AnswerReads left a [] ts) e (run_reads left ts (start left) [] (refl, refl))

pub run_closed : (left : ℕ) (ts : List Symbol) (found : Trees) → run ts (start left) ≡ ended found [] → IsClosed left ts found
run_closed left ts found e =
    let h : (used : List Symbol) × (ts ≡ used ++ []) × IsClosed left used found = ended_closed left ts found [] e in
    subst (λ x. IsClosed left x found) (sym (h.1 ∙ append-nil h.0)) h.2

pub closed_runs : (left : ℕ) (ts : List Symbol) (found : Trees) (rest : List Symbol) → IsClosed left ts found → run (ts ++ rest) (start left) ≡ ended found rest
closed_runs left ts found rest h =
    ap (λ x. run (x ++ rest) (start left)) h.parts ∙ (ap (λ x. run x (start left)) (append_assoc h.inner (token.rparen ∷ []) rest) ∙ optional_runs h.params None rest)

mutual
  pub param_more : {left : ℕ} {ts : List Symbol} {t : Tree} → IsParam left ts t → IsParam (suc left) ts t
  param_more (grammar.leaf h) = grammar.leaf h
  param_more (grammar.list o) = grammar.list (optional_more o)
  param_more (grammar.typed h p) = grammar.typed h (param_more p)

  pub optional_more : {left : ℕ} {ts : List Symbol} {found : Trees} → IsOptional left ts found → IsOptional (suc left) ts found
  optional_more grammar.empty = grammar.empty
  optional_more (grammar.params ps) = grammar.params (params_more ps)

  pub params_more : {left : ℕ} {ts : List Symbol} {found : Trees} → IsParams left ts found → IsParams (suc left) ts found
  params_more (grammar.one p) = grammar.one (param_more p)
  params_more (grammar.comma p ps) = grammar.comma (param_more p) (params_more ps)

pub optional_by : (d left : ℕ) (ts : List Symbol) (found : Trees) → IsOptional left ts found → IsOptional (d + left) ts found
optional_by zero left ts found o = let e : left ≡ 0 + left = omega arith in subst (λ l. IsOptional l ts found) e o
optional_by (suc d) left ts found o = let e : suc (d + left) ≡ suc d + left = omega arith in subst (λ l. IsOptional l ts found) e (optional_more (optional_by d left ts found o))

-- what is allowed is allowed with a larger limit
pub closed_more : (left limit : ℕ) (ts : List Symbol) (found : Trees) → left ≤ limit → IsClosed left ts found → IsClosed limit ts found
closed_more left limit ts found h c =
    let e : (limit - left) + left ≡ limit = omega arith in
    record { inner = c.inner; parts = c.parts; params = subst (λ l. IsOptional l c.inner found) e (optional_by (limit - left) left c.inner found c.params) }
