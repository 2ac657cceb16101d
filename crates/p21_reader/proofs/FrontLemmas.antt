-- What stands at the front of a file: its tokens from place to place, a preface, and whole instances.
use Rattle.std.proofs.Common.{◌≡◌, ℕ, List, [], ◌∷◌, ◌++◌, refl, sym, ap, subst, ◌∙◌, append_assoc, append-nil}
use Rattle.p21_text.specs.Spelling.{Symbol}
use Rattle.p21_text.specs.Spelling as token
use Rattle.p21_text.specs.Tokens.{Placed, First, IsLast, Tokens, TokensUpTo}
use Rattle.p21_text.specs.Tokens as tokens
use Rattle.p21_text.specs.Laws.{HasOneFirstAtMost}
use Rattle.p21_tree.specs.declared.faults.Fault.{Fault}
use Rattle.p21_tree.specs.Sentence.{Instance, Opening, IsFile, IsPreface, IsPiece, IsInstance, IsInstances, IsTail, deepest, endsec_word}
use Rattle.p21_tree.specs.Sentence as sentence
use Rattle.p21_tree.specs.Fault.{Begins, files, instances, prefaces}
use Rattle.p21_tree.specs.Laws.{HasOneTree, NoneBeginsAnother}
use Rattle.p21_tree.specs.Texts.{IsFileText, HasPrefaceFault}
use Rattle.p21_reader.specs.GrammarOutcome.{FileBeginsWith, FileStopsBehind}
use Rattle.p21_reader.proofs.ReadLemmas.{instances_more}
use Rattle.p21_reader.proofs.TokenLemmas.{up_to_on}

-- no place of a text has two first tokens
abbrev pub OneFirst : Type 0
OneFirst = (text : List ℕ) (at : ℕ) → HasOneFirstAtMost text at

-- Tokens from one place.

-- of the tokens up to two places, those up to the nearer one are the first of the others
pub data Fronts (text : List ℕ) (a b : List Placed) (p q : ℕ) : Type 0 where
  shorter : (m : List Placed) → b ≡ a ++ m → TokensUpTo text p m q → Fronts text a b p q
  longer : (m : List Placed) → a ≡ b ++ m → TokensUpTo text q m p → Fronts text a b p q

fronts_cons : (text : List ℕ) (t u : Placed) (a b : List Placed) (p q : ℕ) → t ≡ u → Fronts text a b p q → Fronts text (t ∷ a) (u ∷ b) p q
fronts_cons text t u a b p q e (shorter m f r) = shorter m (ap (λ x. u ∷ x) f ∙ ap (λ x. x ∷ (a ++ m)) (sym e)) r
fronts_cons text t u a b p q e (longer m f r) = longer m (ap (λ x. t ∷ x) f ∙ ap (λ x. x ∷ (b ++ m)) e) r

pub fronts : OneFirst → (text : List ℕ) (at p q : ℕ) (a b : List Placed) → TokensUpTo text at a p → TokensUpTo text at b q → Fronts text a b p q
fronts one text at p q a b tokens.none k = shorter b refl k
fronts one text at p q a b (tokens.more {t} {ts} f l h) tokens.none = longer (t ∷ ts) refl (tokens.more f l h)
fronts one text at p q a b (tokens.more {t} {ts} f l h) (tokens.more {t = u} {ts = us} g m k) =
    let e : u ≡ t = one text at u t g f in
    fronts_cons text t u ts us p q (sym e) (fronts one text t.after p q ts us h (subst (λ x. TokensUpTo text x.after us q) e k))

pub same_place : (text : List ℕ) (p q : ℕ) (m : List Placed) → TokensUpTo text p m q → m ≡ [] → p ≡ q
same_place text p q m tokens.none e = refl
same_place text p q m (tokens.more f l h) e = absurd (cc)

pub up_to_split : (text : List ℕ) (at end : ℕ) (a b ts : List Placed) → TokensUpTo text at ts end → ts ≡ a ++ b → (p : ℕ) × TokensUpTo text at a p × TokensUpTo text p b end
up_to_split text at end [] b ts h e = (at, tokens.none, subst (λ x. TokensUpTo text at x end) e h)
up_to_split text at end (u ∷ a) b ts tokens.none e = absurd (cc)
up_to_split text at end (u ∷ a) b _ (tokens.more {t} {ts} f l h) e =
    let same : t ≡ u = cc in
    let others : ts ≡ a ++ b = cc in
    let s = up_to_split text t.after end a b ts h others in
    (s.0, subst (λ x. TokensUpTo text at (x ∷ a) s.0) same (tokens.more f l s.1), s.2)

pub whole_split : (text : List ℕ) (at : ℕ) (a : List Placed) (u : Placed) (b ts : List Placed) → Tokens text at ts → ts ≡ a ++ u ∷ b → (p : ℕ) × TokensUpTo text at a p × Tokens text p (u ∷ b)
whole_split text at [] u b ts h e = (at, tokens.none, subst (λ x. Tokens text at x) e h)
whole_split text at (v ∷ []) u b _ (tokens.last f l) e = absurd (cc)
whole_split text at (v ∷ w ∷ a) u b _ (tokens.last f l) e = absurd (cc)
whole_split text at (v ∷ a) u b _ (tokens.more {t} {ts} f l h) e =
    let same : t ≡ v = cc in
    let others : ts ≡ a ++ u ∷ b = cc in
    let s = whole_split text t.after a u b ts h others in
    (s.0, subst (λ x. TokensUpTo text at (x ∷ a) s.0) same (tokens.more f l s.1), s.2)

pub whole_front : OneFirst → (text : List ℕ) (at p : ℕ) (a ts : List Placed) → TokensUpTo text at a p → Tokens text at ts → (m : List Placed) × (ts ≡ a ++ m)
whole_front one text at p a ts tokens.none k = (ts, refl)
whole_front one text at p a _ (tokens.more {t} {ts} f l h) (tokens.last {t = u} g m) = absurd (l (subst (λ x. IsLast x.token) (one text at u t g f) m))
whole_front one text at p a _ (tokens.more {t} {ts} f l h) (tokens.more {t = u} {ts = us} g m k) =
    let e : u ≡ t = one text at u t g f in
    let r = whole_front one text t.after p ts us h (subst (λ x. Tokens text x.after us) e k) in
    (r.0, ap (λ x. x ∷ us) e ∙ ap (λ x. t ∷ x) r.1)

-- the token next after some tokens stands first among further ones
pub next_first : OneFirst → (text : List ℕ) (p q : ℕ) (m : List Placed) (t u : Placed) → TokensUpTo text p m q → First text p t → First text q u → (r : List Placed) × (m ++ u ∷ [] ≡ t ∷ r)
next_first one text p q m t u tokens.none f g = ([], ap (λ x. x ∷ []) (one text p u t g f))
next_first one text p q m t u (tokens.more {t = v} {ts} h l k) f g = (ts ++ u ∷ [], ap (λ x. x ∷ (ts ++ u ∷ [])) (one text p v t h f))

-- Sentences from one place.

module _ (one : OneFirst) (L : ℕ → List Placed → Type 0) (none : NoneBeginsAnother L) where
  -- one sentence stands at a place
  pub one_sentence : (text : List ℕ) (at p q : ℕ) (a b : List Placed) → TokensUpTo text at a p → L deepest a → TokensUpTo text at b q → L deepest b → (a ≡ b) × (p ≡ q)
  one_sentence text at p q a b h x k y = by_front (fronts one text at p q a b h k) where
    by_front : Fronts text a b p q → (a ≡ b) × (p ≡ q)
    by_front (shorter m e r) =
        let nothing : m ≡ [] = none a m x (subst (λ z. L deepest z) e y) in
        (sym (e ∙ (ap (λ z. a ++ z) nothing ∙ append-nil a)), same_place text p q m r nothing)
    by_front (longer m e r) =
        let nothing : m ≡ [] = none b m y (subst (λ z. L deepest z) e x) in
        (e ∙ (ap (λ z. b ++ z) nothing ∙ append-nil b), sym (same_place text q p m r nothing))

-- a token that stands nowhere
abbrev bare : Symbol → Placed
bare s = record { start = 0; after = 0; token = s }

as_piece : (ts : List Placed) (i : Instance) → IsInstance deepest ts i → IsPiece deepest (ts ++ bare token.end ∷ []) i
as_piece ts i h = record { body = ts; end = bare token.end; parts = refl; is_instance = h; is_end = refl }

-- an instance begins with a name
name_first : (limit : ℕ) (ts : List Placed) (i : Instance) → IsInstance limit ts i → (t : Placed) × (others : List Placed) × (n : ℕ) × (ts ≡ t ∷ others) × (t.token ≡ token.name n)
name_first limit ts i (sentence.simple {name} n e rs s hn he h hs) = (n, e ∷ (rs ++ s ∷ []), name, refl, hn)
name_first limit ts i (sentence.complex {name} {ts = rs} n e o c s hn he ho h hc hs) = (n, e ∷ o ∷ (rs ++ c ∷ s ∷ []), name, refl, hn)

-- and a tail with ENDSEC
pub word_first : (ts : List Placed) → IsTail ts → (t : Placed) × (others : List Placed) × (ts ≡ t ∷ others) × (t.token ≡ token.keyword endsec_word)
word_first ts (sentence.made endsec s1 end_iso s2 end a b c d e) = (endsec, s1 ∷ end_iso ∷ s2 ∷ end ∷ [], refl, a)

some_tail : (ts : List Placed) × IsTail ts
some_tail = (_, sentence.made (bare (token.keyword endsec_word)) (bare token.semi) (bare token.end_iso) (bare token.semi) (bare token.end) refl refl refl refl refl)

-- an instance stands whole at a place
abbrev pub IsAt : List ℕ → ℕ → Instance → Type 0
IsAt text at i = (ts : List Placed) × (end : ℕ) × TokensUpTo text at ts end × IsInstance deepest ts i

-- the laws of trees that these lemmas stand on
pub record TreeLaws : Type 0 where
  pub firsts : OneFirst
  pub trees : HasOneTree
  pub prefaces_end : NoneBeginsAnother prefaces
  pub instances_end : NoneBeginsAnother instances

-- Of two lists of whole instances from one place the first is a beginning of the second, or goes on after it.
pub data Goes (text : List ℕ) (end : ℕ) (is js : List Instance) : Type 0 where
  within : (m : List Instance) → js ≡ is ++ m → Goes text end is js
  beyond : (i : Instance) (m : List Instance) → is ≡ js ++ i ∷ m → IsAt text end i → Goes text end is js

goes_cons : (text : List ℕ) (end : ℕ) (i j : Instance) (is js : List Instance) → i ≡ j → Goes text end is js → Goes text end (i ∷ is) (j ∷ js)
goes_cons text end i j is js e (within m f) = within m (ap (λ x. j ∷ x) f ∙ ap (λ x. x ∷ (is ++ m)) (sym e))
goes_cons text end i j is js e (beyond k m f h) = beyond k m (ap (λ x. i ∷ x) f ∙ ap (λ x. x ∷ (js ++ k ∷ m)) e) h

module _ (laws : TreeLaws) where
  preface_once : (text : List ℕ) (at p q : ℕ) (a b : List Placed) (o u : Opening) → TokensUpTo text at a p → IsPreface deepest a o → TokensUpTo text at b q → IsPreface deepest b u → (p ≡ q) × (o ≡ u)
  preface_once text at p q a b o u h x k y =
      let s = one_sentence laws.firsts prefaces laws.prefaces_end text at p q a b h (o, x) k (u, y) in
      (s.1, (laws.trees b).1 o u (subst (λ z. IsPreface deepest z o) s.0 x) y)

  instance_once : (text : List ℕ) (at p q : ℕ) (a b : List Placed) (i j : Instance) → TokensUpTo text at a p → IsInstance deepest a i → TokensUpTo text at b q → IsInstance deepest b j → (p ≡ q) × (i ≡ j)
  instance_once text at p q a b i j h x k y =
      let s = one_sentence laws.firsts instances laws.instances_end text at p q a b h (i, x) k (j, y) in
      (s.1, (laws.trees (b ++ bare token.end ∷ [])).2 i j (as_piece b i (subst (λ z. IsInstance deepest z i) s.0 x)) (as_piece b j y))

  instances_go : (text : List ℕ) (at p q : ℕ) (a b : List Placed) (is js : List Instance) → TokensUpTo text at a p → IsInstances deepest a is → TokensUpTo text at b q → IsInstances deepest b js → Goes text q is js
  instances_go text at p q a b is js h sentence.none k ys = within js refl
  instances_go text at p q a b is js h (sentence.more us {rest} {i} {is = others} x xs) k sentence.none =
      let s = up_to_split text at p us rest (us ++ rest) h refl in
      beyond i others refl (subst (λ z. IsAt text z i) (same_place text at q [] k refl) (us, s.0, s.1, x))
  instances_go text at p q a b is js h (sentence.more us {rest} {i} {is = others} x xs) k (sentence.more vs {rest = rest'} {i = j} {is = others'} y ys) =
      let s = up_to_split text at p us rest (us ++ rest) h refl in
      let t = up_to_split text at q vs rest' (vs ++ rest') k refl in
      let same = instance_once text at s.0 t.0 us vs i j s.1 x t.1 y in
      goes_cons text q i j others others' same.1 (instances_go text s.0 p q rest rest' others others' s.2 xs (subst (λ z. TokensUpTo text z rest' q) (sym same.0) t.2) ys)

  -- the prefaces of two beginnings are one, and of their instances those of one go within the other's or beyond
  pub beginnings : (file : List ℕ) (o u : Opening) (is js : List Instance) (p q : ℕ) → FileBeginsWith file o is p → FileBeginsWith file u js q → (o ≡ u) × Goes file q is js
  beginnings file o u is js p q b d =
      let s = up_to_split file 0 p b.opening b.body (b.opening ++ b.body) b.tokens refl in
      let t = up_to_split file 0 q d.opening d.body (d.opening ++ d.body) d.tokens refl in
      let same = preface_once file 0 s.0 t.0 b.opening d.opening o u s.1 b.is_opening t.1 d.is_opening in
      (same.1, instances_go file s.0 p q b.body d.body is js s.2 b.are_instances (subst (λ z. TokensUpTo file z d.body q) (sym same.0) t.2) d.are_instances)

-- These are all instances that stand whole in the file.
pub record HasAll (file : List ℕ) (o : Opening) (is : List Instance) : Type 0 where
  pub end : ℕ
  pub begins : FileBeginsWith file o is end
  pub no_more : (i : Instance) → ¬ (IsAt file end i)

-- a tail is no instance
tail_apart : (us m ts : List Placed) (i : Instance) → IsTail ts → ts ≡ us ++ m → ¬ (IsInstance deepest us i)
tail_apart us m ts i t e h =
    let w = word_first ts t in
    let n = name_first deepest us i h in
    let f : w.0 ∷ w.1 ≡ n.0 ∷ (n.1 ++ m) = sym w.2 ∙ (e ∙ ap (λ x. x ++ m) n.3) in
    let same : w.0 ≡ n.0 = cc in
    let g : token.keyword endsec_word ≡ token.name n.2 = sym w.3 ∙ (ap (λ x. x.token) same ∙ n.4) in
    cc

pub all_of_file : OneFirst → (file : List ℕ) (o : Opening) (is : List Instance) → IsFileText file o is → HasAll file o is
all_of_file one file o is h =
    let f = h.2 in
    let w = word_first f.tail f.is_tail in
    let parts : h.0 ≡ (f.opening ++ f.body) ++ w.0 ∷ w.1 = f.parts ∙ (sym (append_assoc f.opening f.body f.tail) ∙ ap (λ x. (f.opening ++ f.body) ++ x) w.2) in
    let s = whole_split file 0 (f.opening ++ f.body) w.0 w.1 h.0 h.1 parts in
    record {
      end = s.0;
      begins = record { opening = f.opening; body = f.body; tokens = s.1; is_opening = f.is_opening; are_instances = f.are_instances };
      no_more = λ i a.
          let r = whole_front one file s.0 a.1 a.0 (w.0 ∷ w.1) a.2 s.2 in
          tail_apart a.0 r.0 f.tail i f.is_tail (w.2 ∙ r.1) a.3;
    }

-- what goes on with the token of a fault is no beginning of a file
not_beyond : (opening body front us : List Placed) (t : Placed) (o : Opening) (is : List Instance) (i : Instance) → IsPreface deepest opening o → IsInstances deepest body is → IsInstance deepest (front ++ t ∷ us) i → Begins files deepest ((opening ++ (body ++ front)) ++ t ∷ [])
not_beyond opening body front us t o is i p hs h = record {
  rest = us ++ some_tail.0;
  sentence = (
    record { opening = o; instances = is ++ i ∷ [] },
    record {
      opening = opening;
      body = body ++ (front ++ t ∷ us);
      tail = some_tail.0;
      parts = simp append_assoc;
      is_opening = p;
      are_instances = instances_more body (front ++ t ∷ us) is i hs h;
      is_tail = some_tail.1;
    },
  );
}

pub all_of_stop : OneFirst → (file : List ℕ) (o : Opening) (is : List Instance) (f : Fault) → FileStopsBehind file o is f → HasAll file o is
all_of_stop one file o is f h =
    let s = up_to_split file 0 h.place h.opening (h.body ++ h.front) (h.opening ++ (h.body ++ h.front)) h.tokens refl in
    let t = up_to_split file s.0 h.place h.body h.front (h.body ++ h.front) s.2 refl in
    record {
      end = t.0;
      begins = record { opening = h.opening; body = h.body; tokens = up_to_on file 0 s.0 t.0 h.opening h.body s.1 t.1; is_opening = h.is_opening; are_instances = h.are_instances };
      no_more = λ i a. none_at t.0 t.2 i a.0 a.1 a.2 a.3;
    }
  where
    behind_front : (i : Instance) (m : List Placed) (end : ℕ) → TokensUpTo file h.place m end → ¬ (IsInstance deepest (h.front ++ m) i)
    behind_front i m end tokens.none x = h.stops.no_more (h.front ++ []) [] i (sym (append-nil (h.front ++ []) ∙ append-nil h.front)) x
    behind_front i _ end (tokens.more {t} {ts = us} g l r) x =
        let same : t ≡ h.token = one file h.place t h.token g h.next in
        h.stops.is_fault.stops (not_beyond h.opening h.body h.front us h.token o is i h.is_opening h.are_instances (subst (λ z. IsInstance deepest (h.front ++ z ∷ us) i) same x))

    none_at : (place : ℕ) → TokensUpTo file place h.front h.place → (i : Instance) (ts : List Placed) (end : ℕ) → TokensUpTo file place ts end → ¬ (IsInstance deepest ts i)
    none_at place k i ts end r x = by_front (fronts one file place end h.place ts h.front r k) where
      by_front : Fronts file ts h.front end h.place → ⊥
      by_front (shorter m e g) = h.stops.no_more ts m i e x
      by_front (longer m e g) = behind_front i m end g (subst (λ z. IsInstance deepest z i) e x)

-- a file with a fault in its preface has none
pub no_preface : OneFirst → (file : List ℕ) (f : Fault) (o : Opening) (is : List Instance) (place : ℕ) → HasPrefaceFault file f → FileBeginsWith file o is place → ⊥
no_preface one file f o is place h b =
    let s = up_to_split file 0 place b.opening b.body (b.opening ++ b.body) b.tokens refl in
    by_front s.0 (fronts one file 0 s.0 h.place b.opening h.before s.1 h.tokens)
  where
    behind_before : (m : List Placed) (end : ℕ) → TokensUpTo file h.place m end → b.opening ≡ h.before ++ m → ⊥
    behind_before m end tokens.none e = h.none_whole [] b.opening (h.token ∷ []) o (ap (λ x. x ++ h.token ∷ []) (sym (e ∙ append-nil h.before))) b.is_opening
    behind_before _ end (tokens.more {t} {ts = us} g l r) e =
        let same : t ≡ h.token = one file h.place t h.token g h.next in
        h.none_whole us b.opening [] o (ap (λ x. h.before ++ x ∷ us) (sym same) ∙ (sym e ∙ sym (append-nil b.opening))) b.is_opening

    by_front : (p : ℕ) → Fronts file b.opening h.before p h.place → ⊥
    by_front p (shorter m e g) = h.none_whole [] b.opening (m ++ h.token ∷ []) o (ap (λ x. x ++ h.token ∷ []) e ∙ append_assoc b.opening m (h.token ∷ [])) b.is_opening
    by_front p (longer m e g) = behind_before m p g e
