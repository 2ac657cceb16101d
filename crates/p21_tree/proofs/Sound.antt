-- What the machine has read: the tokens that lead to a state, by the grammar.
use Rattle.std.proofs.Common.{◌≡◌, ℕ, suc, zero, List, [], ◌∷◌, ◌++◌, refl, sym, ap, subst, ◌∙◌, append_assoc, append-nil}
use Rattle.p21_text.specs.Spelling.{Symbol}
use Rattle.p21_text.specs.Spelling as token
use Rattle.p21_tree.specs.Tree.{Tree, Trees, nil, cons, trees_append}
use Rattle.p21_tree.specs.Grammar.{IsLeaf, IsKey, IsParam, IsOptional, IsParams}
use Rattle.p21_tree.specs.Grammar as grammar
use Rattle.p21_tree.specs.Parts.{IsClosed}
use Rattle.p21_tree.specs.Machine.{Class, Stack, Mode, State, Step, Answer, base, list, typed, first, want, behind_key, after, leaf, key, open_, close_, comma, other, go, closed, refused, deep, going, ended, fault, next, class_of, begin, begin_first, close_empty, open_typed, go_on, by_mode, step, run}

-- parameters, each with its comma
abbrev pub WithCommas : ℕ → List Symbol → Trees → Type 0
WithCommas left ts nil = ts ≡ []
WithCommas left ts (cons t rest) = (p others : List Symbol) × (ts ≡ p ++ token.comma ∷ others) × IsParam left p t × WithCommas left others rest

-- The tokens up to where a parameter may begin: `left` more parentheses could be opened after the first one,
-- `room` more now.
abbrev pub Inside : ℕ → Stack → ℕ → List Symbol → Type 0
Inside left (base before) room ts = (room ≡ left) × WithCommas left ts before
Inside left (list before below) room ts = (a b : List Symbol) × (ts ≡ a ++ token.lparen ∷ b) × Inside left below (suc room) a × WithCommas room b before
Inside left (typed k below) room ts = (a : List Symbol) × (s : Symbol) × (ts ≡ a ++ s ∷ token.lparen ∷ []) × IsKey s k × Inside left below (suc room) a

abbrev pub InMode : ℕ → Mode → Stack → ℕ → List Symbol → Type 0
InMode left first stack room ts = Inside left stack room ts
InMode left want stack room ts = Inside left stack room ts
InMode left (behind_key k) stack room ts = (a : List Symbol) × (s : Symbol) × (r : ℕ) × (ts ≡ a ++ s ∷ []) × IsKey s k × (room ≡ suc r) × Inside left stack room a
InMode left (after t) stack room ts = (a p : List Symbol) × (ts ≡ a ++ p) × IsParam room p t × Inside left stack room a

-- the tokens lead to this state
abbrev pub Reads : ℕ → State → List Symbol → Type 0
Reads left s ts = InMode left s.mode s.stack s.room ts

abbrev pub StepReads : ℕ → Step → List Symbol → Type 0
StepReads left (go s) ts = Reads left s ts
StepReads left (closed found) ts = IsClosed left ts found
StepReads left refused ts = Unit {0}
StepReads left deep ts = Unit {0}

-- what a token is, by its class
abbrev pub Says : Symbol → Class → Type 0
Says s (leaf t) = IsLeaf s t
Says s (key k) = IsKey s k
Says s open_ = s ≡ token.lparen
Says s close_ = s ≡ token.rparen
Says s comma = s ≡ token.comma
Says s other = Unit {0}

pub class_says : (s : Symbol) → Says s (class_of s)
class_says token.iso = tt
class_says token.end_iso = tt
class_says (token.keyword k) = grammar.standard
class_says (token.user_keyword k) = grammar.user
class_says (token.int s) = grammar.int
class_says (token.real s) = grammar.real
class_says (token.str s) = grammar.str
class_says (token.name n) = grammar.reference
class_says (token.enumeration s) = grammar.enumeration
class_says (token.binary s) = grammar.binary
class_says token.dollar = grammar.absent
class_says token.star = grammar.derived
class_says token.lparen = refl
class_says token.rparen = refl
class_says token.comma = refl
class_says token.equals = tt
class_says token.semi = tt
class_says token.end = tt
class_says token.bad = tt

pub commas_append : (left : ℕ) (ts : List Symbol) (before : Trees) (p : List Symbol) (t : Tree) → WithCommas left ts before → IsParam left p t → WithCommas left (ts ++ (p ++ token.comma ∷ [])) (trees_append before t)
commas_append left ts nil p t w h = (p, [], ap (λ x. x ++ (p ++ token.comma ∷ [])) w, h, refl)
commas_append left ts (cons u before) p t w h =
    (w.0, w.1 ++ (p ++ token.comma ∷ []), ap (λ x. x ++ (p ++ token.comma ∷ [])) w.2 ∙ append_assoc w.0 (token.comma ∷ w.1) (p ++ token.comma ∷ []), w.3, commas_append left w.1 before p t w.4 h)

pub commas_close : (left : ℕ) (ts : List Symbol) (before : Trees) (p : List Symbol) (t : Tree) → WithCommas left ts before → IsParam left p t → IsParams left (ts ++ p) (trees_append before t)
commas_close left ts nil p t w h = subst (λ x. IsParams left (x ++ p) (cons t nil)) (sym w) (grammar.one h)
commas_close left ts (cons u before) p t w h =
    subst (λ x. IsParams left x (cons u (trees_append before t))) (sym (ap (λ x. x ++ p) w.2 ∙ append_assoc w.0 (token.comma ∷ w.1) p)) (grammar.comma w.3 (commas_close left w.1 before p t w.4 h))

pub begin_reads : (left : ℕ) (stack : Stack) (room : ℕ) (c : Class) (s : Symbol) (ts : List Symbol) → Says s c → Inside left stack room ts → StepReads left (begin stack room c) (ts ++ s ∷ [])
begin_reads left stack room (leaf t) s ts h i = (ts, s ∷ [], refl, grammar.leaf h, i)
begin_reads left stack zero (key k) s ts h i = tt
begin_reads left stack (suc room) (key k) s ts h i = (ts, s, room, refl, h, refl, i)
begin_reads left stack zero open_ s ts h i = tt
begin_reads left stack (suc room) open_ s ts h i = (ts, [], ap (λ x. ts ++ x ∷ []) h, i, refl)
begin_reads left stack room close_ s ts h i = tt
begin_reads left stack room comma s ts h i = tt
begin_reads left stack room other s ts h i = tt

pub close_empty_reads : (left : ℕ) (stack : Stack) (room : ℕ) (s : Symbol) (ts : List Symbol) → s ≡ token.rparen → Inside left stack room ts → StepReads left (close_empty stack room) (ts ++ s ∷ [])
close_empty_reads left (base nil) room s ts h i = record { inner = []; parts = ap (λ x. x ++ s ∷ []) i.1 ∙ ap (λ x. x ∷ []) h; params = grammar.empty }
close_empty_reads left (base (cons t before)) room s ts h i = tt
close_empty_reads left (list nil below) room s ts h i =
    (i.0, token.lparen ∷ ([] ++ token.rparen ∷ []), ap (λ x. x ++ s ∷ []) (i.2 ∙ ap (λ x. i.0 ++ token.lparen ∷ x) i.4) ∙ (append_assoc i.0 (token.lparen ∷ []) (s ∷ []) ∙ ap (λ x. i.0 ++ token.lparen ∷ x ∷ []) h), grammar.list grammar.empty, i.3)
close_empty_reads left (list (cons t before) below) room s ts h i = tt
close_empty_reads left (typed k below) room s ts h i = tt

pub first_reads : (left : ℕ) (stack : Stack) (room : ℕ) (c : Class) (s : Symbol) (ts : List Symbol) → Says s c → Inside left stack room ts → StepReads left (begin_first stack room c) (ts ++ s ∷ [])
first_reads left stack room (leaf t) s ts h i = begin_reads left stack room (leaf t) s ts h i
first_reads left stack room (key k) s ts h i = begin_reads left stack room (key k) s ts h i
first_reads left stack room open_ s ts h i = begin_reads left stack room open_ s ts h i
first_reads left stack room close_ s ts h i = close_empty_reads left stack room s ts h i
first_reads left stack room comma s ts h i = begin_reads left stack room comma s ts h i
first_reads left stack room other s ts h i = begin_reads left stack room other s ts h i

pub typed_reads : (left : ℕ) (k : List ℕ) (stack : Stack) (room : ℕ) (c : Class) (s : Symbol) (ts : List Symbol) → Says s c → InMode left (behind_key k) stack room ts → StepReads left (open_typed k stack room c) (ts ++ s ∷ [])
typed_reads left k stack (suc room) open_ s ts h i =
    (i.0, i.1, ap (λ x. x ++ s ∷ []) i.3 ∙ (append_assoc i.0 (i.1 ∷ []) (s ∷ []) ∙ ap (λ x. i.0 ++ i.1 ∷ x ∷ []) h), i.4, i.6)
typed_reads left k stack zero c s ts h i = tt
typed_reads left k stack (suc room) (leaf t) s ts h i = tt
typed_reads left k stack (suc room) (key j) s ts h i = tt
typed_reads left k stack (suc room) close_ s ts h i = tt
typed_reads left k stack (suc room) comma s ts h i = tt
typed_reads left k stack (suc room) other s ts h i = tt

pub record_reads : (left : ℕ) (before : Trees) (t : Tree) (room : ℕ) (c : Class) (s : Symbol) (ts : List Symbol) → Says s c → InMode left (after t) (base before) room ts → StepReads left (go_on t (base before) room c) (ts ++ s ∷ [])
record_reads left before t room comma s ts h i =
    (i.4.0, subst (λ x. WithCommas left x (trees_append before t)) (sym (rw (i.2, h) (append_assoc i.0 i.1 (token.comma ∷ [])))) (commas_append left i.0 before i.1 t i.4.1 (subst (λ r. IsParam r i.1 t) i.4.0 i.3)))
record_reads left before t room close_ s ts h i =
    record { inner = i.0 ++ i.1; parts = rw (i.2, h) refl; params = grammar.params (commas_close left i.0 before i.1 t i.4.1 (subst (λ r. IsParam r i.1 t) i.4.0 i.3)) }
record_reads left before t room (leaf u) s ts h i = tt
record_reads left before t room (key k) s ts h i = tt
record_reads left before t room open_ s ts h i = tt
record_reads left before t room other s ts h i = tt

pub list_reads : (left : ℕ) (before : Trees) (below : Stack) (t : Tree) (room : ℕ) (c : Class) (s : Symbol) (ts : List Symbol) → Says s c → InMode left (after t) (list before below) room ts → StepReads left (go_on t (list before below) room c) (ts ++ s ∷ [])
list_reads left before below t room comma s ts h i =
    (i.4.0, i.4.1 ++ (i.1 ++ token.comma ∷ []), rw (i.2, i.4.2, h) (simp append_assoc), i.4.3, commas_append room i.4.1 before i.1 t i.4.4 i.3)
list_reads left before below t room close_ s ts h i =
    (i.4.0, token.lparen ∷ ((i.4.1 ++ i.1) ++ token.rparen ∷ []), rw (i.2, i.4.2, h) (simp append_assoc), grammar.list (grammar.params (commas_close room i.4.1 before i.1 t i.4.4 i.3)), i.4.3)
list_reads left before below t room (leaf u) s ts h i = tt
list_reads left before below t room (key k) s ts h i = tt
list_reads left before below t room open_ s ts h i = tt
list_reads left before below t room other s ts h i = tt

pub behind_reads : (left : ℕ) (k : List ℕ) (below : Stack) (t : Tree) (room : ℕ) (c : Class) (s : Symbol) (ts : List Symbol) → Says s c → InMode left (after t) (typed k below) room ts → StepReads left (go_on t (typed k below) room c) (ts ++ s ∷ [])
behind_reads left k below t room close_ s ts h i =
    (i.4.0, i.4.1 ∷ token.lparen ∷ (i.1 ++ token.rparen ∷ []), rw (i.2, i.4.2, h) (simp append_assoc), grammar.typed i.4.3 i.3, i.4.4)
behind_reads left k below t room comma s ts h i = tt
behind_reads left k below t room (leaf u) s ts h i = tt
behind_reads left k below t room (key j) s ts h i = tt
behind_reads left k below t room open_ s ts h i = tt
behind_reads left k below t room other s ts h i = tt

pub mode_reads : (left : ℕ) (mode : Mode) (stack : Stack) (room : ℕ) (c : Class) (s : Symbol) (ts : List Symbol) → Says s c → InMode left mode stack room ts → StepReads left (by_mode mode stack room c) (ts ++ s ∷ [])
mode_reads left first stack room c s ts h i = first_reads left stack room c s ts h i
mode_reads left want stack room c s ts h i = begin_reads left stack room c s ts h i
mode_reads left (behind_key k) stack room c s ts h i = typed_reads left k stack room c s ts h i
mode_reads left (after t) (base before) room c s ts h i = record_reads left before t room c s ts h i
mode_reads left (after t) (list before below) room c s ts h i = list_reads left before below t room c s ts h i
mode_reads left (after t) (typed k below) room c s ts h i = behind_reads left k below t room c s ts h i

pub step_reads : (left : ℕ) (s : State) (t : Symbol) (ts : List Symbol) → Reads left s ts → StepReads left (step s t) (ts ++ t ∷ [])
step_reads left s t ts i = mode_reads left s.mode s.stack s.room (class_of t) t ts (class_says t) i

-- what an answer says of the tokens `ts`, after the tokens `before`
abbrev pub AnswerReads : ℕ → Answer → List Symbol → List Symbol → Type 0
AnswerReads left (going s) before ts = Reads left s (before ++ ts)
AnswerReads left (ended found rest) before ts = (used : List Symbol) × (ts ≡ used ++ rest) × IsClosed left (before ++ used) found
AnswerReads left (fault s t rest) before ts = (used : List Symbol) × (ts ≡ used ++ t ∷ rest) × Reads left s (before ++ used)

pub answer_moves : (left : ℕ) (a : Answer) (t : Symbol) (before ts : List Symbol) → AnswerReads left a (before ++ t ∷ []) ts → AnswerReads left a before (t ∷ ts)
answer_moves left (going s) t before ts h = subst (λ x. Reads left s x) (append_assoc before (t ∷ []) ts) h
answer_moves left (ended found rest) t before ts h = (t ∷ h.0, ap (λ x. t ∷ x) h.1, subst (λ x. IsClosed left x found) (append_assoc before (t ∷ []) h.0) h.2)
answer_moves left (fault s u rest) t before ts h = (t ∷ h.0, ap (λ x. t ∷ x) h.1, subst (λ x. Reads left s x) (append_assoc before (t ∷ []) h.0) h.2)

pub next_reads : (left : ℕ) (s : State) (t : Symbol) (before ts : List Symbol) (o : Step) → Reads left s before → StepReads left o (before ++ t ∷ []) → ((r : State) → Reads left r (before ++ t ∷ []) → AnswerReads left (run ts r) (before ++ t ∷ []) ts) → AnswerReads left (next s t ts o (run ts)) before (t ∷ ts)
next_reads left s t before ts (go r) i h again = answer_moves left (run ts r) t before ts (again r h)
next_reads left s t before ts (closed found) i h again = (t ∷ [], refl, h)
next_reads left s t before ts refused i h again = ([], refl, subst (λ x. Reads left s x) (sym (append-nil before)) i)
next_reads left s t before ts deep i h again = ([], refl, subst (λ x. Reads left s x) (sym (append-nil before)) i)

pub run_reads : (left : ℕ) (ts : List Symbol) (s : State) (before : List Symbol) → Reads left s before → AnswerReads left (run ts s) before ts
unfolding run
run_reads left [] s before i = subst (λ x. Reads left s x) (sym (append-nil before)) i
run_reads left (t ∷ ts) s before i = next_reads left s t before ts (step s t) i (step_reads left s t before i) (λ r h. run_reads left ts r (before ++ t ∷ []) h)
