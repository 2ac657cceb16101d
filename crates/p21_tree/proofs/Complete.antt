-- The machine accepts what the grammar allows.
use Rattle.std.proofs.Common.{◌≡◌, ℕ, suc, Bool, true, false, Option, Some, None, List, [], ◌∷◌, ◌++◌, refl, ap, ◌∙◌, append_assoc}
use Rattle.p21_text.specs.Spelling.{Symbol}
use Rattle.p21_text.specs.Spelling as token
use Rattle.p21_tree.specs.Tree.{Tree, Trees, nil, cons, trees_concat, trees_append}
use Rattle.p21_tree.specs.Tree as tree
use Rattle.p21_tree.specs.Grammar.{IsLeaf, IsKey, IsParam, IsOptional, IsParams}
use Rattle.p21_tree.specs.Grammar as grammar
use Rattle.p21_tree.specs.Machine.{Stack, Mode, State, Answer, base, list, typed, first, want, behind_key, after, leaf, key, ended, next, class_of, by_mode, run}

abbrev pub state : Mode → Stack → ℕ → State
state mode stack room = record { mode = mode; stack = stack; room = room }

-- a parameter is wanted: at the head of a list, or after a comma
abbrev pub wanted : Bool → Mode
wanted true = first
wanted false = want

pub leaf_class : {s : Symbol} {t : Tree} → IsLeaf s t → class_of s ≡ leaf t
leaf_class grammar.absent = refl
leaf_class grammar.derived = refl
leaf_class grammar.int = refl
leaf_class grammar.real = refl
leaf_class grammar.str = refl
leaf_class grammar.reference = refl
leaf_class grammar.enumeration = refl
leaf_class grammar.binary = refl

pub key_class : {s : Symbol} {k : List ℕ} → IsKey s k → class_of s ≡ key k
key_class grammar.standard = refl
key_class grammar.user = refl

pub run_leaf : {s : Symbol} {t : Tree} → IsLeaf s t → (head : Bool) (stack : Stack) (room : ℕ) (rest : List Symbol) → run (s ∷ rest) (state (wanted head) stack room) ≡ run rest (state (after t) stack room)
unfolding run
run_leaf {s} {t} h true stack room rest = ap (λ c. next (state first stack room) s rest (by_mode first stack room c) (run rest)) (leaf_class h)
run_leaf {s} {t} h false stack room rest = ap (λ c. next (state want stack room) s rest (by_mode want stack room c) (run rest)) (leaf_class h)

pub run_key : {s : Symbol} {k : List ℕ} → IsKey s k → (head : Bool) (stack : Stack) (room : ℕ) (rest : List Symbol) → run (s ∷ rest) (state (wanted head) stack (suc room)) ≡ run rest (state (behind_key k) stack (suc room))
unfolding run
run_key {s} {k} h true stack room rest = ap (λ c. next (state first stack (suc room)) s rest (by_mode first stack (suc room) c) (run rest)) (key_class h)
run_key {s} {k} h false stack room rest = ap (λ c. next (state want stack (suc room)) s rest (by_mode want stack (suc room) c) (run rest)) (key_class h)

pub run_open : (head : Bool) (stack : Stack) (room : ℕ) (rest : List Symbol) → run (token.lparen ∷ rest) (state (wanted head) stack (suc room)) ≡ run rest (state first (list nil stack) room)
unfolding run
run_open true stack room rest = refl
run_open false stack room rest = refl

pub run_open_typed : (k : List ℕ) (stack : Stack) (room : ℕ) (rest : List Symbol) → run (token.lparen ∷ rest) (state (behind_key k) stack (suc room)) ≡ run rest (state want (typed k stack) room)
unfolding run
run_open_typed k stack room rest = refl

pub run_close_typed : (k : List ℕ) (t : Tree) (stack : Stack) (room : ℕ) (rest : List Symbol) → run (token.rparen ∷ rest) (state (after t) (typed k stack) room) ≡ run rest (state (after (tree.typed k t)) stack (suc room))
unfolding run
run_close_typed k t stack room rest = refl

-- the list of the record itself, or a list inside it
abbrev pub listing : Option Stack → Trees → Stack
listing None before = base before
listing (Some below) before = list before below

-- what closing it gives
abbrev pub closing : Option Stack → Trees → ℕ → List Symbol → Answer
closing None found room rest = ended found rest
closing (Some below) found room rest = run rest (state (after (tree.items found)) below (suc room))

pub run_close : (c : Option Stack) (before : Trees) (t : Tree) (room : ℕ) (rest : List Symbol) → run (token.rparen ∷ rest) (state (after t) (listing c before) room) ≡ closing c (trees_append before t) room rest
unfolding run
run_close None before t room rest = refl
run_close (Some below) before t room rest = refl

pub run_close_empty : (c : Option Stack) (room : ℕ) (rest : List Symbol) → run (token.rparen ∷ rest) (state first (listing c nil) room) ≡ closing c nil room rest
unfolding run
run_close_empty None room rest = refl
run_close_empty (Some below) room rest = refl

pub run_comma : (c : Option Stack) (before : Trees) (t : Tree) (room : ℕ) (rest : List Symbol) → run (token.comma ∷ rest) (state (after t) (listing c before) room) ≡ run rest (state want (listing c (trees_append before t)) room)
unfolding run
run_comma None before t room rest = refl
run_comma (Some below) before t room rest = refl

pub concat_assoc : (a b c : Trees) → trees_concat (trees_concat a b) c ≡ trees_concat a (trees_concat b c)
concat_assoc nil b c = refl
concat_assoc (cons t a) b c = ap (cons t) (concat_assoc a b c)

mutual
  pub param_runs : {left : ℕ} {ts : List Symbol} {t : Tree} → IsParam left ts t → (head : Bool) (stack : Stack) (rest : List Symbol) → run (ts ++ rest) (state (wanted head) stack left) ≡ run rest (state (after t) stack left)
  param_runs {left} (grammar.leaf l) head stack rest = run_leaf l head stack left rest
  param_runs (grammar.list {left} {tokens} {ts} o) head stack rest =
      run_open head stack left ((tokens ++ token.rparen ∷ []) ++ rest)
      ∙ (rw append_assoc (optional_runs o (Some stack) rest))
  param_runs (grammar.typed {left} {key = s} {k} {tokens} {t} h p) head stack rest =
      run_key h head stack left (token.lparen ∷ ((tokens ++ token.rparen ∷ []) ++ rest))
      ∙ (run_open_typed k stack left ((tokens ++ token.rparen ∷ []) ++ rest)
      ∙ (rw append_assoc (param_runs p false (typed k stack) (token.rparen ∷ rest) ∙ run_close_typed k t stack left rest)))

  pub optional_runs : {left : ℕ} {ts : List Symbol} {found : Trees} → IsOptional left ts found → (c : Option Stack) (rest : List Symbol) → run (ts ++ token.rparen ∷ rest) (state first (listing c nil) left) ≡ closing c found left rest
  optional_runs {left} grammar.empty c rest = run_close_empty c left rest
  optional_runs (grammar.params ps) c rest = params_run ps true c nil rest

  pub params_run : {left : ℕ} {ts : List Symbol} {found : Trees} → IsParams left ts found → (head : Bool) (c : Option Stack) (before : Trees) (rest : List Symbol) → run (ts ++ token.rparen ∷ rest) (state (wanted head) (listing c before) left) ≡ closing c (trees_concat before found) left rest
  params_run (grammar.one {left} {tokens} {t} p) head c before rest =
      param_runs p head (listing c before) (token.rparen ∷ rest) ∙ run_close c before t left rest
  params_run (grammar.comma {left} {tokens} {others} {t} {ts} p ps) head c before rest =
      rw append_assoc (param_runs p head (listing c before) (token.comma ∷ (others ++ token.rparen ∷ rest))
      ∙ (run_comma c before t left (others ++ token.rparen ∷ rest)
      ∙ (params_run ps false c (trees_append before t) rest
      ∙ ap (λ x. closing c x left rest) (concat_assoc before (cons t nil) ts))))
