-- What the machine does where more parentheses may be opened.
use Rattle.std.proofs.Common.{◌≡◌, ℕ, suc, zero, ◌+◌, ◌≤◌, ◌-◌, List, [], ◌∷◌, refl, sym, ap, subst, arith}
use Rattle.p21_text.specs.Spelling.{Symbol}
use Rattle.p21_tree.specs.Tree.{Tree, nil, cons}
use Rattle.p21_tree.specs.Machine.{Class, Stack, Mode, State, Step, Answer, base, list, typed, first, want, behind_key, after, leaf, key, open_, close_, comma, other, go, closed, refused, deep, going, ended, fault, next, class_of, begin, begin_first, close_empty, open_typed, go_on, by_mode, step, run, start}
use Rattle.p21_tree.proofs.Complete.{state}
use Rattle.p21_tree.proofs.Sound.{InMode}

-- one more may be opened
abbrev pub raise : State → State
raise s = state s.mode s.stack (suc s.room)

-- what one more room makes of a step
abbrev pub RaisesTo : Step → Step → Type 0
RaisesTo (go s) o = o ≡ go (raise s)
RaisesTo (closed found) o = o ≡ closed found
RaisesTo refused o = Unit {0}
RaisesTo deep o = Unit {0}

pub begin_raised : (stack : Stack) (room : ℕ) (c : Class) → RaisesTo (begin stack room c) (begin stack (suc room) c)
begin_raised stack room (leaf t) = refl
begin_raised stack zero (key k) = tt
begin_raised stack (suc room) (key k) = refl
begin_raised stack zero open_ = tt
begin_raised stack (suc room) open_ = refl
begin_raised stack room close_ = tt
begin_raised stack room comma = tt
begin_raised stack room other = tt

pub empty_raised : (stack : Stack) (room : ℕ) → RaisesTo (close_empty stack room) (close_empty stack (suc room))
empty_raised (base nil) room = refl
empty_raised (base (cons t ts)) room = tt
empty_raised (list nil below) room = refl
empty_raised (list (cons t ts) below) room = tt
empty_raised (typed k below) room = tt

pub first_raised : (stack : Stack) (room : ℕ) (c : Class) → RaisesTo (begin_first stack room c) (begin_first stack (suc room) c)
first_raised stack room (leaf t) = begin_raised stack room (leaf t)
first_raised stack room (key k) = begin_raised stack room (key k)
first_raised stack room open_ = begin_raised stack room open_
first_raised stack room close_ = empty_raised stack room
first_raised stack room comma = tt
first_raised stack room other = tt

pub typed_raised : (k : List ℕ) (stack : Stack) (room : ℕ) (c : Class) → RaisesTo (open_typed k stack room c) (open_typed k stack (suc room) c)
typed_raised k stack zero c = tt
typed_raised k stack (suc room) open_ = refl
typed_raised k stack (suc room) (leaf t) = tt
typed_raised k stack (suc room) (key j) = tt
typed_raised k stack (suc room) close_ = tt
typed_raised k stack (suc room) comma = tt
typed_raised k stack (suc room) other = tt

pub on_raised : (t : Tree) (stack : Stack) (room : ℕ) (c : Class) → RaisesTo (go_on t stack room c) (go_on t stack (suc room) c)
on_raised t (base before) room comma = refl
on_raised t (base before) room close_ = refl
on_raised t (base before) room (leaf u) = tt
on_raised t (base before) room (key k) = tt
on_raised t (base before) room open_ = tt
on_raised t (base before) room other = tt
on_raised t (list before below) room comma = refl
on_raised t (list before below) room close_ = refl
on_raised t (list before below) room (leaf u) = tt
on_raised t (list before below) room (key k) = tt
on_raised t (list before below) room open_ = tt
on_raised t (list before below) room other = tt
on_raised t (typed k below) room close_ = refl
on_raised t (typed k below) room comma = tt
on_raised t (typed k below) room (leaf u) = tt
on_raised t (typed k below) room (key j) = tt
on_raised t (typed k below) room open_ = tt
on_raised t (typed k below) room other = tt

pub mode_raised : (mode : Mode) (stack : Stack) (room : ℕ) (c : Class) → RaisesTo (by_mode mode stack room c) (by_mode mode stack (suc room) c)
mode_raised first stack room c = first_raised stack room c
mode_raised want stack room c = begin_raised stack room c
mode_raised (behind_key k) stack room c = typed_raised k stack room c
mode_raised (after t) stack room c = on_raised t stack room c

abbrev pub AnswerRaises : Answer → Answer → Type 0
AnswerRaises (going s) a = a ≡ going (raise s)
AnswerRaises (ended found rest) a = a ≡ ended found rest
AnswerRaises (fault s t rest) a = Unit {0}

pub next_raised : (s : State) (t : Symbol) (ts : List Symbol) (o p : Step) → RaisesTo o p → ((r : State) → AnswerRaises (run ts r) (run ts (raise r))) → AnswerRaises (next s t ts o (run ts)) (next (raise s) t ts p (run ts))
next_raised s t ts (go r) p h again = subst (λ q. AnswerRaises (run ts r) (next (raise s) t ts q (run ts))) (sym h) (again r)
next_raised s t ts (closed found) p h again = ap (λ q. next (raise s) t ts q (run ts)) h
next_raised s t ts refused p h again = tt
next_raised s t ts deep p h again = tt

pub run_raised : (ts : List Symbol) (s : State) → AnswerRaises (run ts s) (run ts (raise s))
unfolding run
run_raised [] s = refl
run_raised (t ∷ ts) s = next_raised s t ts (step s t) (step (raise s) t) (mode_raised s.mode s.stack s.room (class_of t)) (λ r. run_raised ts r)

-- so many more may be opened
abbrev pub raised : ℕ → State → State
raised d s = state s.mode s.stack (d + s.room)

pub going_raised : (d : ℕ) (ts : List Symbol) (s r : State) → run ts s ≡ going r → run ts (raised d s) ≡ going (raised d r)
going_raised zero ts s r e =
    let f : s.room ≡ 0 + s.room = omega arith in
    let g : r.room ≡ 0 + r.room = omega arith in
    subst (λ m. run ts (state s.mode s.stack m) ≡ going (raised 0 r)) f (subst (λ m. run ts s ≡ going (state r.mode r.stack m)) g e)
going_raised (suc d) ts s r e =
    let f : suc (d + s.room) ≡ suc d + s.room = omega arith in
    let g : suc (d + r.room) ≡ suc d + r.room = omega arith in
    let h : run ts (raise (raised d s)) ≡ going (raise (raised d r)) = subst (λ a. AnswerRaises a (run ts (raise (raised d s)))) (going_raised d ts s r e) (run_raised ts (raised d s)) in
    subst (λ m. run ts (state s.mode s.stack m) ≡ going (raised (suc d) r)) f (subst (λ m. run ts (raise (raised d s)) ≡ going (state r.mode r.stack m)) g h)

pub start_raised : (left limit : ℕ) (ts : List Symbol) (s : State) → left ≤ limit → run ts (start left) ≡ going s → run ts (start limit) ≡ going (raised (limit - left) s)
start_raised left limit ts s h e =
    let f : (limit - left) + left ≡ limit = omega arith in
    subst (λ m. run ts (start m) ≡ going (raised (limit - left) s)) f (going_raised (limit - left) ts (start left) s e)

-- a parenthesis that is refused, and not for the limit, is refused at every limit
pub open_refused : (left : ℕ) (mode : Mode) (stack : Stack) (room : ℕ) (ts : List Symbol) → InMode left mode stack room ts → by_mode mode stack room open_ ≡ refused → (more_room : ℕ) → by_mode mode stack more_room open_ ≡ refused
open_refused left first stack zero ts i e m = absurd (cc)
open_refused left first stack (suc room) ts i e m = absurd (cc)
open_refused left want stack zero ts i e m = absurd (cc)
open_refused left want stack (suc room) ts i e m = absurd (cc)
open_refused left (behind_key k) stack zero ts i e m = absurd (omega (arith, i.5))
open_refused left (behind_key k) stack (suc room) ts i e m = absurd (cc)
open_refused left (after t) (base before) room ts i e m = refl
open_refused left (after t) (list before below) room ts i e m = refl
open_refused left (after t) (typed k below) room ts i e m = refl

-- only a parenthesis is refused for the limit, and one more room is enough for it
abbrev pub DeepSays : Step → Class → Step → Type 0
DeepSays deep c o = (c ≡ open_) × ((s : State) × (o ≡ go s))
DeepSays (go s) c o = Unit {0}
DeepSays (closed found) c o = Unit {0}
DeepSays refused c o = Unit {0}

pub begin_deep : (stack : Stack) (room : ℕ) (c : Class) → DeepSays (begin stack room c) c (begin stack (suc room) c)
begin_deep stack room (leaf t) = tt
begin_deep stack zero (key k) = tt
begin_deep stack (suc room) (key k) = tt
begin_deep stack zero open_ = (refl, (state first (list nil stack) 0, refl))
begin_deep stack (suc room) open_ = tt
begin_deep stack room close_ = tt
begin_deep stack room comma = tt
begin_deep stack room other = tt

pub first_deep : (stack : Stack) (room : ℕ) (c : Class) → DeepSays (begin_first stack room c) c (begin_first stack (suc room) c)
first_deep stack room (leaf t) = tt
first_deep stack room (key k) = begin_deep stack room (key k)
first_deep stack room open_ = begin_deep stack room open_
first_deep (base nil) room close_ = tt
first_deep (base (cons t ts)) room close_ = tt
first_deep (list nil below) room close_ = tt
first_deep (list (cons t ts) below) room close_ = tt
first_deep (typed k below) room close_ = tt
first_deep stack room comma = tt
first_deep stack room other = tt

pub mode_deep : (mode : Mode) (stack : Stack) (room : ℕ) (c : Class) → DeepSays (by_mode mode stack room c) c (by_mode mode stack (suc room) c)
mode_deep first stack room c = first_deep stack room c
mode_deep want stack room c = begin_deep stack room c
mode_deep (behind_key k) stack zero c = tt
mode_deep (behind_key k) stack (suc room) (leaf t) = tt
mode_deep (behind_key k) stack (suc room) (key j) = tt
mode_deep (behind_key k) stack (suc room) open_ = tt
mode_deep (behind_key k) stack (suc room) close_ = tt
mode_deep (behind_key k) stack (suc room) comma = tt
mode_deep (behind_key k) stack (suc room) other = tt
mode_deep (after t) (base before) room (leaf u) = tt
mode_deep (after t) (base before) room (key j) = tt
mode_deep (after t) (base before) room open_ = tt
mode_deep (after t) (base before) room close_ = tt
mode_deep (after t) (base before) room comma = tt
mode_deep (after t) (base before) room other = tt
mode_deep (after t) (list before below) room (leaf u) = tt
mode_deep (after t) (list before below) room (key j) = tt
mode_deep (after t) (list before below) room open_ = tt
mode_deep (after t) (list before below) room close_ = tt
mode_deep (after t) (list before below) room comma = tt
mode_deep (after t) (list before below) room other = tt
mode_deep (after t) (typed k below) room (leaf u) = tt
mode_deep (after t) (typed k below) room (key j) = tt
mode_deep (after t) (typed k below) room open_ = tt
mode_deep (after t) (typed k below) room close_ = tt
mode_deep (after t) (typed k below) room comma = tt
mode_deep (after t) (typed k below) room other = tt
