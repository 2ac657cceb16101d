-- A token that leaves a part of a sentence leaves the sentence.
use Rattle.std.proofs.Common.{◌≡◌, ◌⊎◌, inl, inr, ℕ, suc, ◌≤◌, List, [], ◌∷◌, ◌++◌, refl, sym, ap, subst, ◌∙◌, append_assoc, arith}
use Rattle.p21_text.specs.Spelling.{Symbol}
use Rattle.p21_text.specs.Spelling as token
use Rattle.p21_text.specs.Tokens.{Placed}
use Rattle.p21_tree.specs.Fault.{Begins, Kind, bad_token, unexpected, truncated, too_deep}
use Rattle.p21_tree.specs.Languages.{Language, kind_now, Then, Within, Why, Stuck}

-- there is a sentence at each limit from this one on
abbrev pub Inhabited : Language → ℕ → Type 0
Inhabited L limit = (m : ℕ) → limit ≤ m → (ts : List Placed) × L m ts

-- what is a sentence stays one at a larger limit
abbrev pub Grows : Language → Type 0
Grows L = (l m : ℕ) (ts : List Placed) → l ≤ m → L l ts → L m ts

-- a list of tokens begins with at most one sentence
abbrev pub Once : Language → Type 0
Once L = (l m : ℕ) (a c x y : List Placed) → L l a → L m c → a ++ x ≡ c ++ y → a ≡ c

-- the first token is of a kind
abbrev pub FirstIs : (Symbol → Type 0) → List Placed → Type 0
FirstIs T [] = ⊥
FirstIs T (t ∷ ts) = T t.token

abbrev pub Starts : Language → (Symbol → Type 0) → Type 0
Starts L T = (m : ℕ) (ts : List Placed) → L m ts → FirstIs T ts

pub cancel : (a x y : List Placed) → a ++ x ≡ a ++ y → x ≡ y
cancel [] x y e = e
cancel (t ∷ a) x y e = cancel a x y (cc)

pub fronts_cons : (u t : Placed) (b rest p q : List Placed) → u ≡ t → ((m : List Placed) × (p ≡ (b ++ rest) ++ m)) ⊎ ((m : List Placed) × (b ≡ p ++ m)) → ((m : List Placed) × (t ∷ p ≡ ((u ∷ b) ++ rest) ++ m)) ⊎ ((m : List Placed) × (u ∷ b ≡ (t ∷ p) ++ m))
fronts_cons u t b rest p q e h = elim h [ inl w ↦ inl (w.0, rw e (ap (λ x. t ∷ x) w.1)) | inr w ↦ inr (w.0, rw e (ap (λ x. t ∷ x) w.1)) ]

-- of two fronts of one list, either the first lies in the second or the second in the first
pub fronts : (b : List Placed) (t : Placed) (rest p q : List Placed) → (b ++ t ∷ []) ++ rest ≡ p ++ q → ((m : List Placed) × (p ≡ (b ++ t ∷ []) ++ m)) ⊎ ((m : List Placed) × (b ≡ p ++ m))
fronts b t rest [] q e = inr (b, refl)
fronts [] t rest (u ∷ p) q e = inl (p, let h : t ≡ u = cc in rw h refl)
fronts (v ∷ b) t rest (u ∷ p) q e =
    let h : v ≡ u = cc in
    let f : (b ++ t ∷ []) ++ rest ≡ p ++ q = cc in
    fronts_cons v u b (t ∷ []) p q h (fronts b t rest p q f)

pub begins_then : (P Q : Language) (m : ℕ) (b q : List Placed) → Begins P m b → Q m q → Begins (Then P Q) m b
begins_then P Q m b q h s =
    record { rest = h.rest ++ q; sentence = record { front = b ++ h.rest; back = q; parts = sym (append_assoc b h.rest q); first = h.sentence; second = s } }

pub begins_first : (P Q : Language) (m : ℕ) (b : List Placed) (t : Placed) → ((front rest : List Placed) → b ≡ front ++ rest → ¬ (P m front)) → Begins (Then P Q) m (b ++ t ∷ []) → Begins P m (b ++ t ∷ [])
begins_first P Q m b t h s =
    elim (fronts b t s.rest s.sentence.front s.sentence.back s.sentence.parts)
    [ inl w ↦ record { rest = w.0; sentence = subst (λ x. P m x) w.1 s.sentence.first } | inr w ↦ absurd (h s.sentence.front w.0 w.1 s.sentence.first) ]

pub why_first : (P Q : Language) (l : ℕ) (b : List Placed) (t : Placed) (k : Kind) → Inhabited Q l → ((m : ℕ) (front rest : List Placed) → b ≡ front ++ rest → ¬ (P m front)) → Why P l b t k → Why (Then P Q) l b t k
why_first P Q l b t bad_token q u w = w
why_first P Q l b t truncated q u w = w
why_first P Q l b t too_deep q u w = (w.0, (w.1.0, w.1.1, begins_then P Q w.1.0 (b ++ t ∷ []) (q w.1.0 w.1.1).0 w.1.2 (q w.1.0 w.1.1).1))
why_first P Q l b t unexpected q u w = (w.0, w.1, λ e m s. w.2 e m (begins_first P Q m b t (u m) s))

-- in the first of two parts
pub stuck_first : (P Q : Language) (l : ℕ) (b : List Placed) (t : Placed) (k : Kind) → Inhabited Q l → Stuck P l b t k → Stuck (Then P Q) l b t k
stuck_first P Q l b t k q s = record {
  goes = begins_then P Q l b (q l (omega arith)).0 s.goes (q l (omega arith)).1;
  stops = λ h. s.stops (begins_first P Q l b t (s.unfinished l) h);
  unfinished = λ m front rest e h. s.unfinished m h.front (h.back ++ rest) (e ∙ (ap (λ x. x ++ rest) h.parts ∙ append_assoc h.front h.back rest)) h.first;
  why = why_first P Q l b t k q s.unfinished s.why;
}

pub begins_both : (P Q : Language) (m : ℕ) (a b : List Placed) → P m a → Begins Q m b → Begins (Then P Q) m (a ++ b)
begins_both P Q m a b p h =
    record { rest = h.rest; sentence = record { front = a; back = b ++ h.rest; parts = append_assoc a b h.rest; first = p; second = h.sentence } }

pub begins_second : (P Q : Language) (l m : ℕ) (a b : List Placed) → Once P → P l a → Begins (Then P Q) m (a ++ b) → Begins Q m b
begins_second P Q l m a b one p h =
    let e : a ++ (b ++ h.rest) ≡ h.sentence.front ++ h.sentence.back = sym (append_assoc a b h.rest) ∙ h.sentence.parts in
    let f : a ≡ h.sentence.front = one l m a h.sentence.front (b ++ h.rest) h.sentence.back p h.sentence.first e in
    let g : b ++ h.rest ≡ h.sentence.back = cancel a (b ++ h.rest) h.sentence.back (e ∙ ap (λ x. x ++ h.sentence.back) (sym f)) in
    record { rest = h.rest; sentence = subst (λ x. Q m x) (sym g) h.sentence.second }

pub why_second : (P Q : Language) (l : ℕ) (a b : List Placed) (t : Placed) (k : Kind) → Once P → Grows P → P l a → Why Q l b t k → Why (Then P Q) l (a ++ b) t k
why_second P Q l a b t bad_token one more_ p w = w
why_second P Q l a b t truncated one more_ p w = w
why_second P Q l a b t too_deep one more_ p w = (w.0, (w.1.0, w.1.1, subst (λ x. Begins (Then P Q) w.1.0 x) (sym (append_assoc a b (t ∷ []))) (begins_both P Q w.1.0 a (b ++ t ∷ []) (more_ l w.1.0 a w.1.1 p) w.1.2)))
why_second P Q l a b t unexpected one more_ p w = (w.0, w.1, λ e m s. w.2 e m (begins_second P Q l m a (b ++ t ∷ []) one p (subst (λ x. Begins (Then P Q) m x) (append_assoc a b (t ∷ [])) s)))

-- in the second of two parts
pub stuck_second : (P Q : Language) (l : ℕ) (a b : List Placed) (t : Placed) (k : Kind) → Once P → Grows P → P l a → Stuck Q l b t k → Stuck (Then P Q) l (a ++ b) t k
stuck_second P Q l a b t k one more_ p s = record {
  goes = begins_both P Q l a b p s.goes;
  stops = λ h. s.stops (begins_second P Q l l a (b ++ t ∷ []) one p (subst (λ x. Begins (Then P Q) l x) (append_assoc a b (t ∷ [])) h));
  unfinished = λ m front rest e h.
      let f : a ++ b ≡ h.front ++ (h.back ++ rest) = e ∙ (ap (λ x. x ++ rest) h.parts ∙ append_assoc h.front h.back rest) in
      let g : a ≡ h.front = one l m a h.front b (h.back ++ rest) p h.first f in
      s.unfinished m h.back rest (cancel a b (h.back ++ rest) (f ∙ ap (λ x. x ++ (h.back ++ rest)) (sym g))) h.second;
  why = why_second P Q l a b t k one more_ p s.why;
}

pub begins_same : (L M : Language) (m : ℕ) (b : List Placed) → ((l : ℕ) (ts : List Placed) → L l ts → M l ts) → Begins L m b → Begins M m b
begins_same L M m b into h = record { rest = h.rest; sentence = into m (b ++ h.rest) h.sentence }

pub why_same : (L M : Language) (l : ℕ) (b : List Placed) (t : Placed) (k : Kind) → ((m : ℕ) (ts : List Placed) → L m ts → M m ts) → ((m : ℕ) (ts : List Placed) → M m ts → L m ts) → Why L l b t k → Why M l b t k
why_same L M l b t bad_token into back w = w
why_same L M l b t truncated into back w = w
why_same L M l b t too_deep into back w = (w.0, (w.1.0, w.1.1, begins_same L M w.1.0 (b ++ t ∷ []) into w.1.2))
why_same L M l b t unexpected into back w = (w.0, w.1, λ e m s. w.2 e m (begins_same M L m (b ++ t ∷ []) back s))

-- in a language with the same sentences
pub stuck_same : (L M : Language) (l : ℕ) (b : List Placed) (t : Placed) (k : Kind) → ((m : ℕ) (ts : List Placed) → L m ts → M m ts) → ((m : ℕ) (ts : List Placed) → M m ts → L m ts) → Stuck L l b t k → Stuck M l b t k
stuck_same L M l b t k into back s = record {
  goes = begins_same L M l b into s.goes;
  stops = λ h. s.stops (begins_same M L l (b ++ t ∷ []) back h);
  unfinished = λ m front rest e h. s.unfinished m front rest e (back m front h);
  why = why_same L M l b t k into back s.why;
}

pub begins_within : (L : Language) (m : ℕ) (b : List Placed) → Begins L m b → Begins (Within L) (suc m) b
begins_within L m b h = record { rest = h.rest; sentence = record { left = m; limit_is = refl; inside = h.sentence } }

pub within_begins : (L : Language) (m : ℕ) (b : List Placed) → Begins (Within L) (suc m) b → Begins L m b
within_begins L m b h =
    let e : h.sentence.left ≡ m = omega (arith, h.sentence.limit_is) in
    record { rest = h.rest; sentence = subst (λ x. L x (b ++ h.rest)) e h.sentence.inside }

pub begins_some : (L : Language) (m : ℕ) (b : List Placed) → Begins (Within L) m b → (n : ℕ) × Begins L n b
begins_some L m b h = (h.sentence.left, record { rest = h.rest; sentence = h.sentence.inside })

pub why_within : (L : Language) (l : ℕ) (b : List Placed) (t : Placed) (k : Kind) → Why L l b t k → Why (Within L) (suc l) b t k
why_within L l b t bad_token w = w
why_within L l b t truncated w = w
why_within L l b t too_deep w = (w.0, (suc w.1.0, omega (arith, w.1.1), begins_within L w.1.0 (b ++ t ∷ []) w.1.2))
why_within L l b t unexpected w = (w.0, w.1, λ e m s. w.2 e (begins_some L m (b ++ t ∷ []) s).0 (begins_some L m (b ++ t ∷ []) s).1)

-- where one parenthesis more is open
pub stuck_within : (L : Language) (l : ℕ) (b : List Placed) (t : Placed) (k : Kind) → Stuck L l b t k → Stuck (Within L) (suc l) b t k
stuck_within L l b t k s = record {
  goes = begins_within L l b s.goes;
  stops = λ h. s.stops (within_begins L l (b ++ t ∷ []) h);
  unfinished = λ m front rest e h. s.unfinished h.left front rest e h.inside;
  why = why_within L l b t k s.why;
}

pub why_now : (L : Language) (l : ℕ) (b : List Placed) (t : Placed) (s : Symbol) → t.token ≡ s → ((m : ℕ) → ¬ (Begins L m (b ++ t ∷ []))) → Why L l b t (kind_now s)
why_now L l b t token.bad e none = e
why_now L l b t token.end e none = e
why_now L l b t token.iso e none = (λ h. cc, λ h. cc, λ _ m. none m)
why_now L l b t token.end_iso e none = (λ h. cc, λ h. cc, λ _ m. none m)
why_now L l b t (token.keyword k) e none = (λ h. cc, λ h. cc, λ _ m. none m)
why_now L l b t (token.user_keyword k) e none = (λ h. cc, λ h. cc, λ _ m. none m)
why_now L l b t (token.int k) e none = (λ h. cc, λ h. cc, λ _ m. none m)
why_now L l b t (token.real k) e none = (λ h. cc, λ h. cc, λ _ m. none m)
why_now L l b t (token.str k) e none = (λ h. cc, λ h. cc, λ _ m. none m)
why_now L l b t (token.name k) e none = (λ h. cc, λ h. cc, λ _ m. none m)
why_now L l b t (token.enumeration k) e none = (λ h. cc, λ h. cc, λ _ m. none m)
why_now L l b t (token.binary k) e none = (λ h. cc, λ h. cc, λ _ m. none m)
why_now L l b t token.dollar e none = (λ h. cc, λ h. cc, λ _ m. none m)
why_now L l b t token.star e none = (λ h. cc, λ h. cc, λ _ m. none m)
why_now L l b t token.lparen e none = (λ h. cc, λ h. cc, λ _ m. none m)
why_now L l b t token.rparen e none = (λ h. cc, λ h. cc, λ _ m. none m)
why_now L l b t token.comma e none = (λ h. cc, λ h. cc, λ _ m. none m)
why_now L l b t token.equals e none = (λ h. cc, λ h. cc, λ _ m. none m)
why_now L l b t token.semi e none = (λ h. cc, λ h. cc, λ _ m. none m)

pub not_first : (L : Language) (T : Symbol → Type 0) (m : ℕ) (t : Placed) (front rest : List Placed) → Starts L T → ¬ (T t.token) → t ∷ rest ≡ front → ¬ (L m front)
not_first L T m t front rest starts no_ e h = no_ (subst (λ x. FirstIs T x) (sym e) (starts m front h))

pub not_empty : (L : Language) (T : Symbol → Type 0) (m : ℕ) → Starts L T → ¬ (L m [])
not_empty L T m starts h = starts m [] h

pub empty_front : (front rest : List Placed) → [] ≡ front ++ rest → front ≡ []
empty_front [] rest e = refl
empty_front (t ∷ front) rest e = absurd (cc)

-- at the first token of a sentence
pub stuck_now : (L : Language) (T : Symbol → Type 0) (l : ℕ) (t : Placed) → Inhabited L l → Starts L T → ¬ (T t.token) → Stuck L l [] t (kind_now t.token)
stuck_now L T l t some_ starts no_ = record {
  goes = record { rest = (some_ l (omega arith)).0; sentence = (some_ l (omega arith)).1 };
  stops = λ h. not_first L T l t (t ∷ h.rest) h.rest starts no_ refl h.sentence;
  unfinished = λ m front rest e h. not_empty L T m starts (subst (λ x. L m x) (empty_front front rest e) h);
  why = why_now L l [] t t.token refl (λ m h. not_first L T m t (t ∷ h.rest) h.rest starts no_ refl h.sentence);
}
