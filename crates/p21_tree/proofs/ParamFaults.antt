-- The token that the machine refuses is the first fault of the parameters.
use Rattle.std.proofs.Common.{◌≡◌, ℕ, suc, ◌+◌, ◌-◌, ◌≤◌, List, [], ◌∷◌, ◌++◌, length, map, refl, sym, ap, subst, ◌∙◌, append_assoc, append-nil, arith, length-append}
use Rattle.p21_text.specs.Spelling.{Symbol}
use Rattle.p21_text.specs.Spelling as token
use Rattle.p21_text.specs.Tokens.{Placed, symbols}
use Rattle.p21_tree.specs.Tree.{Trees}
use Rattle.p21_tree.specs.Fault.{Begins, too_deep}
use Rattle.p21_tree.specs.Languages.{Why, Stuck, kind_now}
use Rattle.p21_tree.specs.Parts.{IsClosed, Closed}
use Rattle.p21_tree.specs.Machine.{State, open_, go, closed, refused, deep, going, ended, fault, next, class_of, by_mode, step, run, start}
use Rattle.p21_tree.proofs.Runs.{run_going}
use Rattle.p21_tree.proofs.Sound.{Says, class_says}
use Rattle.p21_tree.proofs.Closing.{Ends, reads_ends, going_reads, run_closed, closed_runs, closed_more}
use Rattle.p21_tree.proofs.Raised.{raise, raised, AnswerRaises, DeepSays, run_raised, start_raised, open_refused, mode_deep}
use Rattle.p21_tree.proofs.LanguageLemmas.{Grows, Once}
use Rattle.p21_tree.proofs.Combined.{blank}

pub symbols_append : (a b : List Placed) → symbols (a ++ b) ≡ symbols a ++ symbols b
symbols_append [] b = refl
symbols_append (t ∷ a) b = ap (λ x. t.token ∷ x) (symbols_append a b)

pub symbols_blank : (ss : List Symbol) → symbols (map blank ss) ≡ ss
unfolding blank
symbols_blank [] = refl
symbols_blank (s ∷ ss) = ap (λ x. s ∷ x) (symbols_blank ss)

pub run_next : (s : State) (t : Symbol) (ts : List Symbol) → run (t ∷ ts) s ≡ next s t ts (step s t) (run ts)
unfolding run
run_next s t ts = refl

pub run_none : (s : State) → run [] s ≡ going s
unfolding run
run_none s = refl

-- one token more

pub run_go : (left : ℕ) (b : List Placed) (t : Placed) (s r : State) → run (symbols b) (start left) ≡ going s → step s t.token ≡ go r → run (symbols (b ++ t ∷ [])) (start left) ≡ going r
run_go left b t s r e f =
    ap (λ x. run x (start left)) (symbols_append b (t ∷ [])) ∙ (run_going (symbols b) (t.token ∷ []) (start left) s e ∙ (run_next s t.token [] ∙ (ap (λ o. next s t.token [] o (run [])) f ∙ run_none r)))

pub run_closes : (left : ℕ) (b : List Placed) (t : Placed) (s : State) (found : Trees) → run (symbols b) (start left) ≡ going s → step s t.token ≡ closed found → IsClosed left (symbols (b ++ t ∷ [])) found
run_closes left b t s found e f =
    run_closed left (symbols (b ++ t ∷ [])) found (ap (λ x. run x (start left)) (symbols_append b (t ∷ [])) ∙ (run_going (symbols b) (t.token ∷ []) (start left) s e ∙ (run_next s t.token [] ∙ ap (λ o. next s t.token [] o (run [])) f)))

pub going_begins : (left : ℕ) (b : List Placed) (s : State) → run (symbols b) (start left) ≡ going s → Begins Closed left b
going_begins left b s e =
    let h : (rest : List Symbol) × Ends s rest = reads_ends left s (symbols b) (going_reads left (symbols b) s e) in
    let f : symbols (b ++ map blank h.0) ≡ symbols b ++ h.0 = symbols_append b (map blank h.0) ∙ ap (λ x. symbols b ++ x) (symbols_blank h.0) in
    record { rest = map blank h.0; sentence = (h.1.0, run_closed left (symbols (b ++ map blank h.0)) h.1.0 (ap (λ x. run x (start left)) f ∙ (run_going (symbols b) h.0 (start left) s e ∙ h.1.1))) }

-- a token that is refused in the state that was reached is in no sentence
pub refused_stops : (left : ℕ) (b : List Placed) (t : Placed) (s : State) → run (symbols b) (start left) ≡ going s → ((ts : List Symbol) → next s t.token ts (step s t.token) (run ts) ≡ fault s t.token ts) → ¬ (Begins Closed left (b ++ t ∷ []))
refused_stops left b t s e f h =
    let xs : List Symbol = symbols ((b ++ t ∷ []) ++ h.rest) in
    let g : xs ≡ symbols b ++ t.token ∷ symbols h.rest = ap symbols (append_assoc b (t ∷ []) h.rest) ∙ symbols_append b (t ∷ h.rest) in
    let i : run (xs ++ []) (start left) ≡ ended h.sentence.0 [] = closed_runs left xs h.sentence.0 [] h.sentence.1 in
    let j : run xs (start left) ≡ fault s t.token (symbols h.rest) = ap (λ x. run x (start left)) g ∙ (run_going (symbols b) (t.token ∷ symbols h.rest) (start left) s e ∙ (run_next s t.token (symbols h.rest) ∙ f (symbols h.rest))) in
    let k : ended h.sentence.0 [] ≡ fault s t.token (symbols h.rest) = sym i ∙ (ap (λ x. run x (start left)) (append-nil xs) ∙ j) in
    cc

pub more_begins : (left limit : ℕ) (b : List Placed) → left ≤ limit → Begins Closed left b → Begins Closed limit b
more_begins left limit b e h = record { rest = h.rest; sentence = (h.sentence.0, closed_more left limit (symbols (b ++ h.rest)) h.sentence.0 e h.sentence.1) }

pub going_unfinished : (left : ℕ) (b : List Placed) (s : State) → run (symbols b) (start left) ≡ going s → (m : ℕ) (front rest : List Placed) → b ≡ front ++ rest → ¬ (Closed m front)
going_unfinished left b s e m front rest f h =
    let big : ℕ = m + left in
    let g : run (symbols b) (start big) ≡ going (raised (big - left) s) = start_raised left big (symbols b) s (omega arith) e in
    let i : run (symbols front ++ symbols rest) (start big) ≡ ended h.0 (symbols rest) = closed_runs big (symbols front) h.0 (symbols rest) (closed_more m big (symbols front) h.0 (omega arith) h.1) in
    let j : symbols b ≡ symbols front ++ symbols rest = ap symbols f ∙ symbols_append front rest in
    let k : going (raised (big - left) s) ≡ ended h.0 (symbols rest) = sym g ∙ (ap (λ x. run x (start big)) j ∙ i) in
    cc

pub open_stops : (left : ℕ) (b : List Placed) (t : Placed) (s : State) → run (symbols b) (start left) ≡ going s → step s t.token ≡ refused → t.token ≡ token.lparen → (m : ℕ) → ¬ (Begins Closed m (b ++ t ∷ []))
open_stops left b t s e f o m h =
    let big : ℕ = m + left in
    let r : State = raised (big - left) s in
    let g : run (symbols b) (start big) ≡ going r = start_raised left big (symbols b) s (omega arith) e in
    let i : by_mode s.mode s.stack s.room open_ ≡ refused = subst (λ x. step s x ≡ refused) o f in
    let j : step r token.lparen ≡ refused = open_refused left s.mode s.stack s.room (symbols b) (going_reads left (symbols b) s e) i r.room in
    refused_stops big b t r g (λ ts. ap (λ q. next r t.token ts q (run ts)) (subst (λ x. step r x ≡ refused) (sym o) j)) (more_begins m big (b ++ t ∷ []) (omega arith) h)

-- the kind, where nothing is too deep
pub why_refused : (left : ℕ) (b : List Placed) (t : Placed) (s : Symbol) → t.token ≡ s → (t.token ≡ token.lparen → (m : ℕ) → ¬ (Begins Closed m (b ++ t ∷ []))) → Why Closed left b t (kind_now s)
why_refused left b t token.bad e none = e
why_refused left b t token.end e none = e
why_refused left b t token.iso e none = (λ h. cc, λ h. cc, none)
why_refused left b t token.end_iso e none = (λ h. cc, λ h. cc, none)
why_refused left b t (token.keyword k) e none = (λ h. cc, λ h. cc, none)
why_refused left b t (token.user_keyword k) e none = (λ h. cc, λ h. cc, none)
why_refused left b t (token.int k) e none = (λ h. cc, λ h. cc, none)
why_refused left b t (token.real k) e none = (λ h. cc, λ h. cc, none)
why_refused left b t (token.str k) e none = (λ h. cc, λ h. cc, none)
why_refused left b t (token.name k) e none = (λ h. cc, λ h. cc, none)
why_refused left b t (token.enumeration k) e none = (λ h. cc, λ h. cc, none)
why_refused left b t (token.binary k) e none = (λ h. cc, λ h. cc, none)
why_refused left b t token.dollar e none = (λ h. cc, λ h. cc, none)
why_refused left b t token.star e none = (λ h. cc, λ h. cc, none)
why_refused left b t token.lparen e none = (λ h. cc, λ h. cc, none)
why_refused left b t token.rparen e none = (λ h. cc, λ h. cc, none)
why_refused left b t token.comma e none = (λ h. cc, λ h. cc, none)
why_refused left b t token.equals e none = (λ h. cc, λ h. cc, none)
why_refused left b t token.semi e none = (λ h. cc, λ h. cc, none)

pub stuck_refused : (left : ℕ) (b : List Placed) (t : Placed) (s : State) → run (symbols b) (start left) ≡ going s → step s t.token ≡ refused → Stuck Closed left b t (kind_now t.token)
stuck_refused left b t s e f = record {
  goes = going_begins left b s e;
  stops = refused_stops left b t s e (λ ts. ap (λ q. next s t.token ts q (run ts)) f);
  unfinished = going_unfinished left b s e;
  why = why_refused left b t t.token refl (open_stops left b t s e f);
}

pub deep_says : (s : State) (t : Symbol) → step s t ≡ deep → (t ≡ token.lparen) × ((r : State) × (step (raise s) t ≡ go r))
deep_says s t e =
    let h : (class_of t ≡ open_) × ((r : State) × (step (raise s) t ≡ go r)) = subst (λ o. DeepSays o (class_of t) (step (raise s) t)) e (mode_deep s.mode s.stack s.room (class_of t)) in
    (subst (λ c. Says t c) h.0 (class_says t), h.1)

pub why_deep : (left : ℕ) (b : List Placed) (t : Placed) (s : State) → run (symbols b) (start left) ≡ going s → step s t.token ≡ deep → Why Closed left b t too_deep
why_deep left b t s e f =
    let h : (t.token ≡ token.lparen) × ((r : State) × (step (raise s) t.token ≡ go r)) = deep_says s t.token f in
    let g : run (symbols b) (start (suc left)) ≡ going (raise s) = subst (λ a. AnswerRaises a (run (symbols b) (start (suc left)))) e (run_raised (symbols b) (start left)) in
    (h.0, (suc left, omega arith, going_begins (suc left) (b ++ t ∷ []) h.1.0 (run_go (suc left) b t (raise s) h.1.0 g h.1.1)))

pub stuck_deep : (left : ℕ) (b : List Placed) (t : Placed) (s : State) → run (symbols b) (start left) ≡ going s → step s t.token ≡ deep → Stuck Closed left b t too_deep
stuck_deep left b t s e f = record {
  goes = going_begins left b s e;
  stops = refused_stops left b t s e (λ ts. ap (λ q. next s t.token ts q (run ts)) f);
  unfinished = going_unfinished left b s e;
  why = why_deep left b t s e f;
}

-- the language of closed parameters

pub grows_closed : Grows Closed
grows_closed l m ts e h = (h.0, closed_more l m (symbols ts) h.0 e h.1)

pub same_back : (a c x y : List Placed) → a ++ x ≡ c ++ y → length x ≡ length y → a ≡ c
same_back [] [] x y e n = refl
same_back [] (u ∷ c) x y e n = absurd (omega (arith, ap length e, length-append c y))
same_back (t ∷ a) [] x y e n = absurd (omega (arith, ap length e, length-append a x))
same_back (t ∷ a) (u ∷ c) x y e n =
    let f : a ++ x ≡ c ++ y = cc in
    let g : t ≡ u = cc in
    let h : a ≡ c = same_back a c x y f n in
    cc

pub symbols_length : (a : List Placed) → length (symbols a) ≡ length a
symbols_length [] = refl
symbols_length (t ∷ a) = ap suc (symbols_length a)

pub closed_both : (l m : ℕ) (a c x y : List Placed) (f g : Trees) → IsClosed l (symbols a) f → IsClosed m (symbols c) g → a ++ x ≡ c ++ y → (a ≡ c) × (f ≡ g)
closed_both l m a c x y f g p q e =
    let i : run (symbols a ++ symbols x) (start (l + m)) ≡ ended f (symbols x) = closed_runs (l + m) (symbols a) f (symbols x) (closed_more l (l + m) (symbols a) f (omega arith) p) in
    let j : run (symbols c ++ symbols y) (start (l + m)) ≡ ended g (symbols y) = closed_runs (l + m) (symbols c) g (symbols y) (closed_more m (l + m) (symbols c) g (omega arith) q) in
    let k : symbols a ++ symbols x ≡ symbols c ++ symbols y = sym (symbols_append a x) ∙ (ap symbols e ∙ symbols_append c y) in
    let r : ended f (symbols x) ≡ ended g (symbols y) = sym i ∙ (ap (λ z. run z (start (l + m))) k ∙ j) in
    let s : symbols x ≡ symbols y = cc in
    let n : length x ≡ length y = sym (symbols_length x) ∙ (ap length s ∙ symbols_length y) in
    (same_back a c x y e n, (cc))

pub once_closed : Once Closed
once_closed l m a c x y p q e = (closed_both l m a c x y p.0 q.0 p.1 q.1 e).0
