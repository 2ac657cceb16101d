-- Each list of tokens is read by a language, leaves it, or begins it.
use Rattle.std.proofs.Common.{◌≡◌, ◌⊎◌, inl, inr, ℕ, suc, zero, ◌≤◌, List, [], ◌∷◌, ◌++◌, length, refl, sym, ap, subst, ◌∙◌, append_assoc, arith, length-append}
use Rattle.p21_text.specs.Spelling.{Symbol}
use Rattle.p21_text.specs.Spelling as token
use Rattle.p21_text.specs.Tokens.{Placed, IsLast, symbols}
use Rattle.p21_tree.specs.Fault.{Begins, Kind, bad_token, unexpected, truncated, too_deep}
use Rattle.p21_tree.specs.Languages.{Language, Just, Then, Either, Within, Many, stop, Why, Stuck, kind_now}
use Rattle.p21_tree.specs.Parts.{IsClosed, Closed}
use Rattle.p21_tree.specs.Machine.{State, Step, Answer, go, closed, refused, deep, going, ended, fault, next, step, run, start}
use Rattle.p21_tree.proofs.LanguageLemmas.{Inhabited, Grows, Once, FirstIs, Starts, begins_then, begins_both, stuck_first, stuck_second, stuck_same, stuck_within, stuck_now, begins_same, begins_within, empty_front}
use Rattle.p21_tree.proofs.Combined.{Apart, blank, left_begins, begins_left, stuck_left, starts_just, starts_then, starts_either, some_stop, many_into, many_back}
use Rattle.p21_tree.proofs.ParamFaults.{run_next, run_none, going_begins, stuck_refused, stuck_deep}
use Rattle.p21_tree.proofs.Closing.{ended_closed}
use Rattle.p21_tree.proofs.ArgumentLemmas.{go_not_last}
use Rattle.p21_tree.proofs.Avoiding.{NoneOf, Avoids, none_append}

-- none of the tokens is End or Bad
abbrev pub AllGo : List Placed → Type 0
AllGo = NoneOf IsLast

abbrev pub Goes : Language → Type 0
Goes = Avoids IsLast

pub data Verdict (L : ℕ → List Placed → Type 0) (l : ℕ) (ts : List Placed) : Type 0 where
  reads : (front rest : List Placed) → ts ≡ front ++ rest → L l front → Verdict L l ts
  leaves : (b : List Placed) (t : Placed) (rest : List Placed) (k : Kind) → ts ≡ b ++ t ∷ rest → Stuck L l b t k → Verdict L l ts
  begins : AllGo ts → Begins L l ts → Verdict L l ts

pub behind_verdict : (P Q : Language) (l : ℕ) (ts front rest : List Placed) → Once P → Grows P → Goes P → ts ≡ front ++ rest → P l front → Verdict Q l rest → Verdict (Then P Q) l ts
behind_verdict P Q l ts front rest one grows goes e p (reads f r g q) = reads (front ++ f) r (e ∙ (ap (λ x. front ++ x) g ∙ sym (append_assoc front f r))) (record { front = front; back = f; parts = refl; first = p; second = q })
behind_verdict P Q l ts front rest one grows goes e p (leaves b t r k g s) = leaves (front ++ b) t r k (e ∙ (ap (λ x. front ++ x) g ∙ sym (append_assoc front b (t ∷ r)))) (stuck_second P Q l front b t k one grows p s)
behind_verdict P Q l ts front rest one grows goes e p (begins g h) = begins (subst AllGo (sym e) (none_append IsLast front rest (goes l front p) g)) (subst (λ x. Begins (Then P Q) l x) (sym e) (begins_both P Q l front rest p h))

pub then_verdict : (P Q : Language) (l : ℕ) (ts : List Placed) → Inhabited Q l → Once P → Grows P → Goes P → Verdict P l ts → ((front rest : List Placed) → ts ≡ front ++ rest → P l front → Verdict Q l rest) → Verdict (Then P Q) l ts
then_verdict P Q l ts q one grows goes (reads front rest e p) next_ = behind_verdict P Q l ts front rest one grows goes e p (next_ front rest e p)
then_verdict P Q l ts q one grows goes (leaves b t r k e s) next_ = leaves b t r k e (stuck_first P Q l b t k q s)
then_verdict P Q l ts q one grows goes (begins g h) next_ = begins g (begins_then P Q l ts (q l (omega arith)).0 h (q l (omega arith)).1)

-- whether a token is of a kind
abbrev pub Decided : (Symbol → Type 0) → Type 0
Decided T = (s : Symbol) → T s ⊎ (¬ (T s))

pub just_now : (T : Symbol → Type 0) (l : ℕ) (t : Placed) (ts : List Placed) → Inhabited (Just T) l → T t.token ⊎ (¬ (T t.token)) → Verdict (Just T) l (t ∷ ts)
just_now T l t ts q (inl h) = reads (t ∷ []) ts refl (record { token = t; alone = refl; fits = h })
just_now T l t ts q (inr h) = leaves [] t ts (kind_now t.token) refl (stuck_now (Just T) T l t q (starts_just T) h)

pub just_verdict : (T : Symbol → Type 0) (l : ℕ) (ts : List Placed) → Inhabited (Just T) l → Decided T → Verdict (Just T) l ts
just_verdict T l [] q d = begins tt (record { rest = (q l (omega arith)).0; sentence = (q l (omega arith)).1 })
just_verdict T l (t ∷ ts) q d = just_now T l t ts q (d t.token)

pub within_verdict : (L : Language) (l : ℕ) (ts : List Placed) → Verdict L l ts → Verdict (Within L) (suc l) ts
within_verdict L l ts (reads front rest e p) = reads front rest e (record { left = l; limit_is = refl; inside = p })
within_verdict L l ts (leaves b t r k e s) = leaves b t r k e (stuck_within L l b t k s)
within_verdict L l ts (begins g h) = begins g (begins_within L l ts h)

pub same_verdict : (L M : Language) (l : ℕ) (ts : List Placed) → ((m : ℕ) (us : List Placed) → L m us → M m us) → ((m : ℕ) (us : List Placed) → M m us → L m us) → Verdict L l ts → Verdict M l ts
same_verdict L M l ts into back (reads front rest e p) = reads front rest e (into l front p)
same_verdict L M l ts into back (leaves b t r k e s) = leaves b t r k e (stuck_same L M l b t k into back s)
same_verdict L M l ts into back (begins g h) = begins g (begins_same L M l ts into h)

-- a choice by the first token

pub why_left_now : (P Q : Language) (U : Symbol → Type 0) (l : ℕ) (t : Placed) (k : Kind) → Starts Q U → ¬ (U t.token) → Why P l [] t k → Why (Either P Q) l [] t k
why_left_now P Q U l t bad_token starts no_ w = w
why_left_now P Q U l t truncated starts no_ w = w
why_left_now P Q U l t too_deep starts no_ w = (w.0, (w.1.0, w.1.1, begins_left P Q w.1.0 (t ∷ []) w.1.2))
why_left_now P Q U l t unexpected starts no_ w = (w.0, w.1, λ e m s. w.2 e m (left_begins P Q U m t [] starts no_ s))

pub stuck_left_now : (P Q : Language) (U : Symbol → Type 0) (l : ℕ) (t : Placed) (k : Kind) → Starts Q U → ¬ (U t.token) → Stuck P l [] t k → Stuck (Either P Q) l [] t k
stuck_left_now P Q U l t k starts no_ s = record {
  goes = begins_left P Q l [] s.goes;
  stops = λ h. s.stops (left_begins P Q U l t [] starts no_ h);
  unfinished = λ m front rest e h. elim h [ inl p ↦ s.unfinished m front rest e p | inr q ↦ starts m [] (subst (λ x. Q m x) (empty_front front rest e) q) ];
  why = why_left_now P Q U l t k starts no_ s.why;
}

pub left_verdict : (P Q : Language) (U : Symbol → Type 0) (l : ℕ) (x : Placed) (ts : List Placed) → Starts Q U → ¬ (U x.token) → Verdict P l (x ∷ ts) → Verdict (Either P Q) l (x ∷ ts)
left_verdict P Q U l x ts starts no_ (reads front rest e p) = reads front rest e (inl p)
left_verdict P Q U l x ts starts no_ (leaves [] t r k e s) = leaves [] t r k e (stuck_left_now P Q U l t k starts (let f : x ≡ t = cc in subst (λ z. ¬ (U z.token)) f no_) s)
left_verdict P Q U l x ts starts no_ (leaves (y ∷ b) t r k e s) = leaves (y ∷ b) t r k e (stuck_left P Q U l y b t k starts (let f : x ≡ y = cc in subst (λ z. ¬ (U z.token)) f no_) s)
left_verdict P Q U l x ts starts no_ (begins g h) = begins g (begins_left P Q l (x ∷ ts) h)

pub swap_into : (P Q : Language) (l : ℕ) (ts : List Placed) → Either P Q l ts → Either Q P l ts
swap_into P Q l ts h = elim h [ inl p ↦ inr p | inr q ↦ inl q ]

pub either_now : (P Q : Language) (T U : Symbol → Type 0) (l : ℕ) (x : Placed) (ts : List Placed) → Inhabited P l → Starts P T → Starts Q U → Apart T U → T x.token ⊎ (¬ (T x.token)) → U x.token ⊎ (¬ (U x.token)) → Verdict P l (x ∷ ts) → Verdict Q l (x ∷ ts) → Verdict (Either P Q) l (x ∷ ts)
either_now P Q T U l x ts i sp sq d (inl t) u p q = left_verdict P Q U l x ts sq (λ v. d x.token t v) p
either_now P Q T U l x ts i sp sq d (inr t) (inl u) p q = same_verdict (Either Q P) (Either P Q) l (x ∷ ts) (swap_into Q P) (swap_into P Q) (left_verdict Q P T l x ts sp t q)
either_now P Q T U l x ts i sp sq d (inr t) (inr u) p q =
    leaves [] x ts (kind_now x.token) refl (stuck_now (Either P Q) (λ s. T s ⊎ U s) l x (λ m e. ((i m e).0, inl (i m e).1)) (starts_either P Q T U sp sq) (λ h. elim h [ inl v ↦ t v | inr v ↦ u v ]))

pub either_verdict : (P Q : Language) (T U : Symbol → Type 0) (l : ℕ) (ts : List Placed) → Inhabited P l → Starts P T → Starts Q U → Apart T U → Decided T → Decided U → Verdict P l ts → Verdict Q l ts → Verdict (Either P Q) l ts
either_verdict P Q T U l [] i sp sq d dt du p q = begins tt (record { rest = (i l (omega arith)).0; sentence = inl (i l (omega arith)).1 })
either_verdict P Q T U l (x ∷ ts) i sp sq d dt du p q = either_now P Q T U l x ts i sp sq d (dt x.token) (du x.token) p q

-- a repetition

pub rest_shorter : (front rest : List Placed) (x : Placed) (ts : List Placed) (n : ℕ) (T : Symbol → Type 0) → FirstIs T front → ts ≡ front ++ rest → length ts ≤ suc n → length rest ≤ n
rest_shorter [] rest x ts n T h e g = absurd h
rest_shorter (t ∷ front) rest x ts n T h e g = omega (arith, g, ap length e, length-append front rest)

pub many_verdict : (P Q : Language) (T U : Symbol → Type 0) (l : ℕ) (n : ℕ) (ts : List Placed) → length ts ≤ n → Inhabited Q l → Starts P T → Starts Q U → Apart U T → Decided T → Decided U → Once P → Grows P → Goes P → ((us : List Placed) → Verdict P l us) → ((us : List Placed) → Verdict Q l us) → Verdict (Many P Q) l ts
many_verdict P Q T U l zero [] g i sp sq d dt du one grows goes vp vq = begins tt (record { rest = (i l (omega arith)).0; sentence = stop (i l (omega arith)).1 })
many_verdict P Q T U l zero (t ∷ ts) g i sp sq d dt du one grows goes vp vq = absurd (omega (arith, g))
many_verdict P Q T U l (suc n) ts g i sp sq d dt du one grows goes vp vq =
    same_verdict (Either Q (Then P (Many P Q))) (Many P Q) l ts (many_into P Q) (many_back P Q)
    (either_verdict Q (Then P (Many P Q)) U T l ts i sq (starts_then P (Many P Q) T sp) d du dt (vq ts)
    (then_verdict P (Many P Q) l ts (some_stop P Q l i) one grows goes (vp ts)
    (λ front rest e p. many_verdict P Q T U l n rest (rest_shorter front rest (blank token.semi) ts n T (sp l front p) e g) i sp sq d dt du one grows goes vp vq)))

-- the parameters, by the machine

pub record Split (ts : List Placed) (a b : List Symbol) : Type 0 where
  pub front : List Placed
  pub back : List Placed
  pub parts : ts ≡ front ++ back
  pub first : symbols front ≡ a
  pub second : symbols back ≡ b

pub split : (ts : List Placed) (a b : List Symbol) → symbols ts ≡ a ++ b → Split ts a b
split ts [] b e = record { front = []; back = ts; parts = refl; first = refl; second = e }
split [] (s ∷ a) b e = absurd (cc)
split (t ∷ ts) (s ∷ a) b e =
    let f : t.token ≡ s = cc in
    let g : symbols ts ≡ a ++ b = cc in
    let h : Split ts a b = split ts a b g in
    record { front = t ∷ h.front; back = h.back; parts = ap (λ x. t ∷ x) h.parts; first = ap (λ x. x ∷ symbols h.front) f ∙ ap (λ x. s ∷ x) h.first; second = h.second }

-- what an answer says of the tokens that it was given
abbrev pub Stops : Answer → State → List Symbol → Type 0
Stops (going r) s ts = (us : List Placed) → symbols us ≡ ts → AllGo us
Stops (ended found rest) s ts = Unit {0}
Stops (fault r t rest) s ts = (used : List Symbol) × (ts ≡ used ++ t ∷ rest) × (run used s ≡ going r) × ((step r t ≡ refused) ⊎ (step r t ≡ deep))

pub stops_moves : (a : Answer) (s r : State) (t : Symbol) (ts : List Symbol) → step s t ≡ go r → Stops a r ts → Stops a s (t ∷ ts)
stops_moves (going q) s r t ts e h = first_goes
  where
    first_goes : (us : List Placed) → symbols us ≡ t ∷ ts → AllGo us
    first_goes [] f = absurd (cc)
    first_goes (u ∷ us) f = (subst (λ x. ¬ (IsLast x)) (let g : t ≡ u.token = cc in g) (go_not_last s r t e), h us (cc))
stops_moves (ended found rest) s r t ts e h = tt
stops_moves (fault q u rest) s r t ts e h = (t ∷ h.0, ap (λ x. t ∷ x) h.1, run_next s t h.0 ∙ (ap (λ o. next s t h.0 o (run h.0)) e ∙ h.2), h.3)

pub next_stops : (s : State) (t : Symbol) (ts : List Symbol) (o : Step) → step s t ≡ o → ((r : State) → Stops (run ts r) r ts) → Stops (next s t ts o (run ts)) s (t ∷ ts)
next_stops s t ts (go r) e again_ = stops_moves (run ts r) s r t ts e (again_ r)
next_stops s t ts (closed found) e again_ = tt
next_stops s t ts refused e again_ = ([], refl, run_none s, inl e)
next_stops s t ts deep e again_ = ([], refl, run_none s, inr e)

pub none_go : (us : List Placed) → symbols us ≡ [] → AllGo us
none_go [] e = tt
none_go (u ∷ us) e = absurd (cc)

pub run_stops : (ts : List Symbol) (s : State) → Stops (run ts s) s ts
unfolding run
run_stops [] s = none_go
run_stops (t ∷ ts) s = next_stops s t ts (step s t) refl (λ r. run_stops ts r)

pub fault_verdict : (l : ℕ) (ts front back : List Placed) (s : State) (t : Symbol) (rest : List Symbol) → ts ≡ front ++ back → symbols back ≡ t ∷ rest → run (symbols front) (start l) ≡ going s → (step s t ≡ refused) ⊎ (step s t ≡ deep) → Verdict Closed l ts
fault_verdict l ts front [] s t rest e f g h = absurd (cc)
fault_verdict l ts front (u ∷ back) s t rest e f g (inl h) = leaves front u back (kind_now u.token) e (stuck_refused l front u s g (subst (λ x. step s x ≡ refused) (let i : t ≡ u.token = cc in i) h))
fault_verdict l ts front (u ∷ back) s t rest e f g (inr h) = leaves front u back too_deep e (stuck_deep l front u s g (subst (λ x. step s x ≡ deep) (let i : t ≡ u.token = cc in i) h))

pub closed_by : (l : ℕ) (ts : List Placed) (a : Answer) → run (symbols ts) (start l) ≡ a → Stops a (start l) (symbols ts) → Verdict Closed l ts
closed_by l ts (going s) e h = begins (h ts refl) (going_begins l ts s e)
closed_by l ts (ended found rest) e h =
    let c : (used : List Symbol) × (symbols ts ≡ used ++ rest) × IsClosed l used found = ended_closed l (symbols ts) found rest e in
    let p : Split ts c.0 rest = split ts c.0 rest c.1 in
    reads p.front p.back p.parts (found, subst (λ x. IsClosed l x found) (sym p.first) c.2)
closed_by l ts (fault s t rest) e h =
    let p : Split ts h.0 (t ∷ rest) = split ts h.0 (t ∷ rest) h.1 in
    fault_verdict l ts p.front p.back s t rest p.parts p.second (ap (λ x. run x (start l)) p.first ∙ h.2) h.3

pub closed_verdict : (l : ℕ) (ts : List Placed) → Verdict Closed l ts
closed_verdict l ts = closed_by l ts (run (symbols ts) (start l)) refl (run_stops (symbols ts) (start l))
