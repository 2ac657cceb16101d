-- What the parts of a language say of the whole.
use Rattle.std.proofs.Common.{◌≡◌, ◌⊎◌, inl, inr, ℕ, suc, zero, ◌≤◌, List, [], ◌∷◌, ◌++◌, refl, sym, ap, subst, ◌∙◌, append_assoc, arith}
use Rattle.p21_text.specs.Spelling.{Symbol}
use Rattle.p21_text.specs.Tokens.{Placed}
use Rattle.p21_tree.specs.Fault.{Begins, Kind, bad_token, unexpected, truncated, too_deep, IsFault, IsKind}
use Rattle.p21_tree.specs.Fault as fault
use Rattle.p21_tree.specs.Sentence.{deepest}
use Rattle.p21_tree.specs.Languages.{Language, Just, Then, Either, Within, Many, stop, again, Why, Stuck}
use Rattle.p21_tree.proofs.LanguageLemmas.{Inhabited, Grows, Once, FirstIs, Starts, cancel, stuck_same}

-- A sentence that starts with a token of one part is a sentence of that part.

pub front_first : (L : Language) (T : Symbol → Type 0) (m : ℕ) (x : Placed) (b front rest : List Placed) → Starts L T → ¬ (T x.token) → x ∷ b ≡ front ++ rest → ¬ (L m front)
front_first L T m x b [] rest starts no_ e h = starts m [] h
front_first L T m x b (y ∷ front) rest starts no_ e h =
    let f : y ≡ x = cc in no_ (subst (λ z. T z.token) f (starts m (y ∷ front) h))

pub either_left : (P Q : Language) (T : Symbol → Type 0) (m : ℕ) (x : Placed) (ts : List Placed) → Starts Q T → ¬ (T x.token) → Either P Q m (x ∷ ts) → P m (x ∷ ts)
either_left P Q T m x ts starts no_ h = elim h [ inl p ↦ p | inr q ↦ absurd (no_ (starts m (x ∷ ts) q)) ]

pub either_right : (P Q : Language) (T : Symbol → Type 0) (m : ℕ) (x : Placed) (ts : List Placed) → Starts P T → ¬ (T x.token) → Either P Q m (x ∷ ts) → Q m (x ∷ ts)
either_right P Q T m x ts starts no_ h = elim h [ inl p ↦ absurd (no_ (starts m (x ∷ ts) p)) | inr q ↦ q ]

pub left_begins : (P Q : Language) (T : Symbol → Type 0) (m : ℕ) (x : Placed) (b : List Placed) → Starts Q T → ¬ (T x.token) → Begins (Either P Q) m (x ∷ b) → Begins P m (x ∷ b)
left_begins P Q T m x b starts no_ h = record { rest = h.rest; sentence = either_left P Q T m x (b ++ h.rest) starts no_ h.sentence }

pub right_begins : (P Q : Language) (T : Symbol → Type 0) (m : ℕ) (x : Placed) (b : List Placed) → Starts P T → ¬ (T x.token) → Begins (Either P Q) m (x ∷ b) → Begins Q m (x ∷ b)
right_begins P Q T m x b starts no_ h = record { rest = h.rest; sentence = either_right P Q T m x (b ++ h.rest) starts no_ h.sentence }

pub begins_left : (P Q : Language) (m : ℕ) (b : List Placed) → Begins P m b → Begins (Either P Q) m b
begins_left P Q m b h = record { rest = h.rest; sentence = inl h.sentence }

pub begins_right : (P Q : Language) (m : ℕ) (b : List Placed) → Begins Q m b → Begins (Either P Q) m b
begins_right P Q m b h = record { rest = h.rest; sentence = inr h.sentence }

pub why_left : (P Q : Language) (T : Symbol → Type 0) (l : ℕ) (x : Placed) (b : List Placed) (t : Placed) (k : Kind) → Starts Q T → ¬ (T x.token) → Why P l (x ∷ b) t k → Why (Either P Q) l (x ∷ b) t k
why_left P Q T l x b t bad_token starts no_ w = w
why_left P Q T l x b t truncated starts no_ w = w
why_left P Q T l x b t too_deep starts no_ w = (w.0, (w.1.0, w.1.1, begins_left P Q w.1.0 (x ∷ (b ++ t ∷ [])) w.1.2))
why_left P Q T l x b t unexpected starts no_ w = (w.0, w.1, λ e m s. w.2 e m (left_begins P Q T m x (b ++ t ∷ []) starts no_ s))

pub why_right : (P Q : Language) (T : Symbol → Type 0) (l : ℕ) (x : Placed) (b : List Placed) (t : Placed) (k : Kind) → Starts P T → ¬ (T x.token) → Why Q l (x ∷ b) t k → Why (Either P Q) l (x ∷ b) t k
why_right P Q T l x b t bad_token starts no_ w = w
why_right P Q T l x b t truncated starts no_ w = w
why_right P Q T l x b t too_deep starts no_ w = (w.0, (w.1.0, w.1.1, begins_right P Q w.1.0 (x ∷ (b ++ t ∷ [])) w.1.2))
why_right P Q T l x b t unexpected starts no_ w = (w.0, w.1, λ e m s. w.2 e m (right_begins P Q T m x (b ++ t ∷ []) starts no_ s))

-- in the first of two choices
pub stuck_left : (P Q : Language) (T : Symbol → Type 0) (l : ℕ) (x : Placed) (b : List Placed) (t : Placed) (k : Kind) → Starts Q T → ¬ (T x.token) → Stuck P l (x ∷ b) t k → Stuck (Either P Q) l (x ∷ b) t k
stuck_left P Q T l x b t k starts no_ s = record {
  goes = begins_left P Q l (x ∷ b) s.goes;
  stops = λ h. s.stops (left_begins P Q T l x (b ++ t ∷ []) starts no_ h);
  unfinished = λ m front rest e h. elim h [ inl p ↦ s.unfinished m front rest e p | inr q ↦ front_first Q T m x b front rest starts no_ e q ];
  why = why_left P Q T l x b t k starts no_ s.why;
}

-- in the second of two choices
pub stuck_right : (P Q : Language) (T : Symbol → Type 0) (l : ℕ) (x : Placed) (b : List Placed) (t : Placed) (k : Kind) → Starts P T → ¬ (T x.token) → Stuck Q l (x ∷ b) t k → Stuck (Either P Q) l (x ∷ b) t k
stuck_right P Q T l x b t k starts no_ s = record {
  goes = begins_right P Q l (x ∷ b) s.goes;
  stops = λ h. s.stops (right_begins P Q T l x (b ++ t ∷ []) starts no_ h);
  unfinished = λ m front rest e h. elim h [ inl p ↦ front_first P T m x b front rest starts no_ e p | inr q ↦ s.unfinished m front rest e q ];
  why = why_right P Q T l x b t k starts no_ s.why;
}

pub many_into : (P Q : Language) (l : ℕ) (ts : List Placed) → Either Q (Then P (Many P Q)) l ts → Many P Q l ts
many_into P Q l ts h = elim h [ inl q ↦ stop q | inr t ↦ again t.front t.back t.parts t.first t.second ]

pub many_back : (P Q : Language) (l : ℕ) (ts : List Placed) → Many P Q l ts → Either Q (Then P (Many P Q)) l ts
many_back P Q l ts (stop q) = inl q
many_back P Q l ts (again front back e p h) = inr (record { front = front; back = back; parts = e; first = p; second = h })

pub stuck_many : (P Q : Language) (l : ℕ) (b : List Placed) (t : Placed) (k : Kind) → Stuck (Either Q (Then P (Many P Q))) l b t k → Stuck (Many P Q) l b t k
stuck_many P Q l b t k s = stuck_same (Either Q (Then P (Many P Q))) (Many P Q) l b t k (many_into P Q) (many_back P Q) s

-- Which tokens a sentence starts with.

pub starts_just : (T : Symbol → Type 0) → Starts (Just T) T
starts_just T m ts h = subst (λ x. FirstIs T x) (sym h.alone) h.fits

pub first_append : (T : Symbol → Type 0) (a b : List Placed) → FirstIs T a → FirstIs T (a ++ b)
first_append T [] b h = absurd h
first_append T (t ∷ a) b h = h

pub starts_then : (P Q : Language) (T : Symbol → Type 0) → Starts P T → Starts (Then P Q) T
starts_then P Q T s m ts h = subst (λ x. FirstIs T x) (sym h.parts) (first_append T h.front h.back (s m h.front h.first))

pub starts_within : (P : Language) (T : Symbol → Type 0) → Starts P T → Starts (Within P) T
starts_within P T s m ts h = s h.left ts h.inside

pub first_weaker : (T U : Symbol → Type 0) (ts : List Placed) → ((s : Symbol) → T s → U s) → FirstIs T ts → FirstIs U ts
first_weaker T U [] f h = absurd h
first_weaker T U (t ∷ ts) f h = f t.token h

pub starts_either : (P Q : Language) (T U : Symbol → Type 0) → Starts P T → Starts Q U → Starts (Either P Q) (λ s. T s ⊎ U s)
starts_either P Q T U p q m ts h = elim h [ inl x ↦ first_weaker T (λ s. T s ⊎ U s) ts (λ s y. inl y) (p m ts x) | inr x ↦ first_weaker U (λ s. T s ⊎ U s) ts (λ s y. inr y) (q m ts x) ]

pub starts_many : (P Q : Language) (T U : Symbol → Type 0) → Starts P T → Starts Q U → Starts (Many P Q) (λ s. U s ⊎ T s)
starts_many P Q T U p q m ts h = starts_either Q (Then P (Many P Q)) U T q (starts_then P (Many P Q) T p) m ts (many_back P Q m ts h)

-- What is a sentence stays one at a larger limit.

pub grows_just : (T : Symbol → Type 0) → Grows (Just T)
grows_just T l m ts e h = record { token = h.token; alone = h.alone; fits = h.fits }

pub grows_then : (P Q : Language) → Grows P → Grows Q → Grows (Then P Q)
grows_then P Q p q l m ts e h = record { front = h.front; back = h.back; parts = h.parts; first = p l m h.front e h.first; second = q l m h.back e h.second }

pub grows_either : (P Q : Language) → Grows P → Grows Q → Grows (Either P Q)
grows_either P Q p q l m ts e h = elim h [ inl x ↦ inl (p l m ts e x) | inr x ↦ inr (q l m ts e x) ]

pub grows_within : (P : Language) → Grows P → Grows (Within P)
grows_within P p l zero ts e h = absurd (omega (arith, h.limit_is))
grows_within P p l (suc m) ts e h = record { left = m; limit_is = refl; inside = p h.left m ts (omega (arith, h.limit_is)) h.inside }

pub grows_many : (P Q : Language) (l m : ℕ) (ts : List Placed) → Grows P → Grows Q → l ≤ m → Many P Q l ts → Many P Q m ts
grows_many P Q l m ts p q e (stop h) = stop (q l m ts e h)
grows_many P Q l m ts p q e (again front back f x h) = again front back f (p l m front e x) (grows_many P Q l m back p q e h)

-- There are sentences.

unfoldable pub blank : Symbol → Placed
blank s = record { start = 0; after = 0; token = s }

pub some_just : (T : Symbol → Type 0) (l : ℕ) (s : Symbol) → T s → Inhabited (Just T) l
unfolding blank
some_just T l s h m e = (blank s ∷ [], record { token = blank s; alone = refl; fits = h })

pub some_then : (P Q : Language) (l : ℕ) → Inhabited P l → Inhabited Q l → Inhabited (Then P Q) l
some_then P Q l p q m e = ((p m e).0 ++ (q m e).0, record { front = (p m e).0; back = (q m e).0; parts = refl; first = (p m e).1; second = (q m e).1 })

pub some_left : (P Q : Language) (l : ℕ) → Inhabited P l → Inhabited (Either P Q) l
some_left P Q l p m e = ((p m e).0, inl (p m e).1)

pub some_within : (P : Language) (l : ℕ) → Inhabited P l → Inhabited (Within P) (suc l)
some_within P l p zero e = absurd (omega arith)
some_within P l p (suc m) e = ((p m (omega arith)).0, record { left = m; limit_is = refl; inside = (p m (omega arith)).1 })

pub some_stop : (P Q : Language) (l : ℕ) → Inhabited Q l → Inhabited (Many P Q) l
some_stop P Q l q m e = ((q m e).0, stop (q m e).1)

-- A list of tokens begins with at most one sentence.

pub once_just : (T : Symbol → Type 0) → Once (Just T)
once_just T l m a c x y p q e =
    let f : p.token ∷ x ≡ q.token ∷ y = ap (λ z. z ++ x) (sym p.alone) ∙ (e ∙ ap (λ z. z ++ y) q.alone) in
    p.alone ∙ (let g : p.token ≡ q.token = cc in ap (λ z. z ∷ []) g ∙ sym q.alone)

pub once_then : (P Q : Language) → Once P → Once Q → Once (Then P Q)
once_then P Q one two l m a c x y p q e =
    let f : p.front ++ (p.back ++ x) ≡ q.front ++ (q.back ++ y) = sym (append_assoc p.front p.back x) ∙ (ap (λ z. z ++ x) (sym p.parts) ∙ (e ∙ (ap (λ z. z ++ y) q.parts ∙ append_assoc q.front q.back y))) in
    let g : p.front ≡ q.front = one l m p.front q.front (p.back ++ x) (q.back ++ y) p.first q.first f in
    let h : p.back ++ x ≡ q.back ++ y = cancel p.front (p.back ++ x) (q.back ++ y) (f ∙ ap (λ z. z ++ (q.back ++ y)) (sym g)) in
    let i : p.back ≡ q.back = two l m p.back q.back x y p.second q.second h in
    p.parts ∙ (ap (λ z. z ++ p.back) g ∙ (ap (λ z. q.front ++ z) i ∙ sym q.parts))

pub once_within : (P : Language) → Once P → Once (Within P)
once_within P one l m a c x y p q e = one p.left q.left a c x y p.inside q.inside e

-- two kinds of token that share none
abbrev pub Apart : (Symbol → Type 0) → (Symbol → Type 0) → Type 0
Apart T U = (s : Symbol) → T s → U s → ⊥

pub firsts_apart : (T U : Symbol → Type 0) (a c x y : List Placed) → Apart T U → FirstIs T a → FirstIs U c → a ++ x ≡ c ++ y → ⊥
firsts_apart T U [] c x y d p q e = p
firsts_apart T U (t ∷ a) [] x y d p q e = q
firsts_apart T U (t ∷ a) (u ∷ c) x y d p q e = let f : t ≡ u = cc in d u.token (subst (λ z. T z.token) f p) q

pub once_either : (P Q : Language) (T U : Symbol → Type 0) → Starts P T → Starts Q U → Apart T U → Once P → Once Q → Once (Either P Q)
once_either P Q T U sp sq d one two l m a c x y (inl p) (inl q) e = one l m a c x y p q e
once_either P Q T U sp sq d one two l m a c x y (inl p) (inr q) e = absurd (firsts_apart T U a c x y d (sp l a p) (sq m c q) e)
once_either P Q T U sp sq d one two l m a c x y (inr p) (inl q) e = absurd (firsts_apart T U c a y x d (sp m c q) (sq l a p) (sym e))
once_either P Q T U sp sq d one two l m a c x y (inr p) (inr q) e = two l m a c x y p q e

pub once_many : (P Q : Language) (T U : Symbol → Type 0) (l m : ℕ) (a c x y : List Placed) → Starts P T → Starts Q U → Apart T U → Once P → Once Q → Many P Q l a → Many P Q m c → a ++ x ≡ c ++ y → a ≡ c
once_many P Q T U l m a c x y sp sq d one two (stop p) (stop q) e = two l m a c x y p q e
once_many P Q T U l m a c x y sp sq d one two (stop p) (again front back f q h) e =
    absurd (firsts_apart T U c a y x d (subst (λ z. FirstIs T z) (sym f) (first_append T front back (sp m front q))) (sq l a p) (sym e))
once_many P Q T U l m a c x y sp sq d one two (again front back f p h) (stop q) e =
    absurd (firsts_apart T U a c x y d (subst (λ z. FirstIs T z) (sym f) (first_append T front back (sp l front p))) (sq m c q) e)
once_many P Q T U l m a c x y sp sq d one two (again front back f p h) (again front' back' f' p' h') e =
    let i : front ++ (back ++ x) ≡ front' ++ (back' ++ y) = sym (append_assoc front back x) ∙ (ap (λ z. z ++ x) (sym f) ∙ (e ∙ (ap (λ z. z ++ y) f' ∙ append_assoc front' back' y))) in
    let g : front ≡ front' = one l m front front' (back ++ x) (back' ++ y) p p' i in
    let j : back ++ x ≡ back' ++ y = cancel front (back ++ x) (back' ++ y) (i ∙ ap (λ z. z ++ (back' ++ y)) (sym g)) in
    let k : back ≡ back' = once_many P Q T U l m back back' x y sp sq d one two h h' j in
    f ∙ (ap (λ z. z ++ back) g ∙ (ap (λ z. front' ++ z) k ∙ sym f'))

-- Where a sentence is left at the largest limit, there is its fault.

pub is_kind : (L : Language) (b : List Placed) (t : Placed) (k : Kind) → Why L deepest b t k → IsKind L b t k
is_kind L b t bad_token w = fault.bad w
is_kind L b t truncated w = fault.end w
is_kind L b t too_deep w = fault.deep (record { opens = w.0; limit = w.1.0; begins = w.1.2 })
is_kind L b t unexpected w = fault.other w.0 w.1 (λ d. w.2 d.opens d.limit d.begins)

pub stuck_is_fault : (L : Language) (b : List Placed) (t : Placed) (k : Kind) → Stuck L deepest b t k → IsFault L b t k t.start
stuck_is_fault L b t k s = record { goes = s.goes; stops = s.stops; is_kind = is_kind L b t k s.why; place = refl }
