-- Values of one type with the same tokens.
use Rattle.std.proofs.Common.{◌≡◌, ◌≢◌, ◌⊎◌, ◌↔◌, ◌<◌, ◌-◌, ◌^◌, ℕ, Bool, true, false, List, [], ◌∷◌, ◌++◌, min, length, refl, sym, ap, subst, ◌∙◌, inl, inr, ⊎_elim, arith}
use Rattle.std.specs.Prelude.{◌==◌, if◌then◌else◌, slice_index, codes}
use Rattle.std.proofs.lemmas.Bool.{eqb-true, eqb-false}
use Rattle.std.proofs.lemmas.Fmt.{decimal_injective}
use Rattle.std.proofs.lemmas.List.{append_assoc}
use Rattle.json.specs.Token.{Token}
use Rattle.json.specs.Token as json
use Rattle.p21_text.specs.Spelling.{bits_of}
use Rattle.p21_tree.specs.Tree.{Tree, Trees, nil, cons, absent, derived, int, real, str, enumeration, binary, reference, items, typed}
use Rattle.p21_express.specs.Schema.{Schema, Expr, named}
use Rattle.p21_express.specs.WellFormed.{IsWellFormed}
use Rattle.p21_check.specs.Conforms.{Conforms, AreElements, IsLogical}
use Rattle.p21_check.specs.Conforms as conforms
use Rattle.p21_json.specs.Logical.{TakesLogical}
use Rattle.p21_json.specs.Laws.{IsOfType}
use Rattle.p21_json.specs.Parts.{Part, exactly, name, label, IsTokenOf, AreTokensOf, IsEither, logical_token, value_parts, values_parts}
use Rattle.p21_json.specs.Same.{IsSame, AreSame}
use Rattle.p21_json.specs.Same as same
use Rattle.p21_json.specs.Spelled.{IsSpelled, text_of}
use Rattle.p21_json.specs.Spellings.{HasSpellings, HaveSpellings}
use Rattle.p21_json.specs.Where.{Where, IsLogicalAt}
use Rattle.p21_json.specs.Where as place
use Rattle.p21_json.proofs.NumeralLemmas.{int_number, int_text, real_number, real_text, int_is_no_real}
use Rattle.p21_json.proofs.TypeLemmas.{AreBoth, string_or_item, logical_item, both_lists, typed_value, no_star}
use Rattle.p21_json.proofs.NameLemmas.{same_or_not, same_keyword, same_name, same_binary}

-- ---- tokens that two lists of parts have in common

-- a token of each of two lists of parts, one by one
abbrev pub Common : Schema → List Part → List Part → Type 0
Common s [] [] = Unit {0}
Common s [] (q ∷ qs) = ⊥
Common s (p ∷ ps) [] = ⊥
Common s (p ∷ ps) (q ∷ qs) = ((u : Token) × IsTokenOf s p u × IsTokenOf s q u) × Common s ps qs

-- some tokens are those of both
abbrev pub Rest : Schema → List Part → List Part → Type 0
Rest s r q = (tokens : List Token) × AreTokensOf s r tokens × AreTokensOf s q tokens

pub pairs : (s : Schema) (ps qs r q : List Part) (tokens : List Token) → length ps ≡ length qs → AreTokensOf s (ps ++ r) tokens → AreTokensOf s (qs ++ q) tokens → Common s ps qs × Rest s r q
pairs s [] [] r q tokens e h k = (tt, (tokens, h, k))
pairs s [] (y ∷ qs) r q tokens e h k = absurd (omega arith)
pairs s (x ∷ ps) [] r q tokens e h k = absurd (omega arith)
pairs s (x ∷ ps) (y ∷ qs) r q [] e h k = absurd h
pairs s (x ∷ ps) (y ∷ qs) r q (u ∷ tokens) e h k =
    let more = pairs s ps qs r q tokens (omega arith) h.1 k.1 in (((u, h.0, k.0), more.0), more.1)

-- ---- what tokens begin with

abbrev key_tag : List Token → ℕ
key_tag [] = 0
key_tag (json.key k ∷ us) = slice_index k 0
key_tag (other ∷ us) = 0

-- what value the tokens begin with, by a number
abbrev head_tag : List Token → ℕ
head_tag [] = 10
head_tag (json.null ∷ us) = 0
head_tag (json.number v ∷ us) = 1
head_tag (json.string v ∷ us) = 2
head_tag (json.boolean b ∷ us) = 2
head_tag (json.begin_array ∷ us) = 5
head_tag (json.begin_object ∷ us) = key_tag us
head_tag (json.end_array ∷ us) = 9
head_tag (json.end_object ∷ us) = 10
head_tag (json.key k ∷ us) = 10
head_tag (json.bad ∷ us) = 10

abbrev tag : Tree → ℕ
tag absent = 0
tag derived = 0
tag (int v) = 1
tag (real v) = 1
tag (str v) = 2
tag (enumeration v) = 2
tag (items ts) = 5
tag (binary v) = 98
tag (reference n) = 114
tag (typed k t) = 116

-- what holds of both holds of the one that it is
pub either : {P : Type 0} {u a b : Token} (f : Token → ℕ) (n : ℕ) → IsEither P u a b → f a ≡ n → f b ≡ n → f u ≡ n
either {P} {u} {a} {b} f n h p q = decide (f u == n) refl where
  decide : (t : Bool) → (f u == n) ≡ t → f u ≡ n
  decide true e = eqb-true (f u) n e
  decide false e = let other = eqb-false (f u) n e in let no : ¬ P = λ x. other (ap f (h.first_if x) ∙ p) in ap f (h.else_second no) ∙ q

logical_tag : (v : List ℕ) (us : List Token) → head_tag (logical_token v ∷ us) ≡ 2
logical_tag v us = by (slice_index v 0 == 84) (slice_index v 0 == 70) where
  by : (a b : Bool) → head_tag ((if a then json.boolean true else (if b then json.boolean false else json.string (codes "UNKNOWN"))) ∷ us) ≡ 2
  by true b = refl
  by false true = refl
  by false false = refl

-- tokens of a value begin as its tag says
heads : (s : Schema) (w : Where) (t : Tree) (r : List Part) (tokens : List Token) → HasSpellings t → AreTokensOf s (value_parts w t ++ r) tokens → head_tag tokens ≡ tag t
heads s w absent r [] g h = absurd h
heads s w absent r (u ∷ us) g h = ap (λ (x : Token). head_tag (x ∷ us)) h.0
heads s w derived r [] g h = absurd h
heads s w derived r (u ∷ us) g h = ap (λ (x : Token). head_tag (x ∷ us)) h.0
heads s w (int v) r [] g h = absurd h
heads s w (int v) r (u ∷ us) g h = ap (λ (x : Token). head_tag (x ∷ us)) (h.0.first_if (int_number v g))
heads s w (real v) r [] g h = absurd h
heads s w (real v) r (u ∷ us) g h = ap (λ (x : Token). head_tag (x ∷ us)) (h.0.first_if (real_number v g))
heads s w (str v) r [] g h = absurd h
heads s w (str v) r (u ∷ us) g h = ap (λ (x : Token). head_tag (x ∷ us)) h.0.2
heads s w (enumeration v) r [] g h = absurd h
heads s w (enumeration v) r (u ∷ us) g h = either (λ (x : Token). head_tag (x ∷ us)) 2 h.0 (logical_tag v us) refl
heads s w (items ts) r [] g h = absurd h
heads s w (items ts) r (u ∷ us) g h = ap (λ (x : Token). head_tag (x ∷ us)) h.0
heads s w (binary v) r [] g h = absurd h
heads s w (binary v) r (u ∷ []) g h = absurd h.1
heads s w (binary v) r (u ∷ x ∷ us) g h = ap (λ (y : Token). head_tag (y ∷ x ∷ us)) h.0 ∙ ap (λ (y : Token). head_tag (json.begin_object ∷ y ∷ us)) h.1.0
heads s w (reference n) r [] g h = absurd h
heads s w (reference n) r (u ∷ []) g h = absurd h.1
heads s w (reference n) r (u ∷ x ∷ us) g h = ap (λ (y : Token). head_tag (y ∷ x ∷ us)) h.0 ∙ ap (λ (y : Token). head_tag (json.begin_object ∷ y ∷ us)) h.1.0
heads s w (typed k t) r [] g h = absurd h
heads s w (typed k t) r (u ∷ []) g h = absurd h.1
heads s w (typed k t) r (u ∷ x ∷ us) g h = ap (λ (y : Token). head_tag (y ∷ x ∷ us)) h.0 ∙ ap (λ (y : Token). head_tag (json.begin_object ∷ y ∷ us)) h.1.0

value_begins : (t : Tree) → tag t ≢ 9
value_begins absent e = omega arith
value_begins derived e = omega arith
value_begins (int v) e = omega arith
value_begins (real v) e = omega arith
value_begins (str v) e = omega arith
value_begins (enumeration v) e = omega arith
value_begins (items ts) e = omega arith
value_begins (binary v) e = omega arith
value_begins (reference n) e = omega arith
value_begins (typed k t) e = omega arith

-- ---- values of one type

-- a value of the type, or `$`
abbrev pub Fits : Schema → Expr → Tree → Type 0
Fits s e t = Conforms s e t ⊎ (t ≡ absent)

-- it cannot be that no type is that of both
abbrev pub OfOneType : Schema → Where → Tree → Tree → Type 0
OfOneType s w t u = ¬ (¬ ((e : Expr) × IsOfType s w e × Fits s e t × Fits s e u))

-- nor that no type is that of all their elements
abbrev pub AreOfOneType : Schema → Where → Trees → Trees → Type 0
AreOfOneType s w ts us = ¬ (¬ ((b : Bool) × (e : Expr) × IsOfType s w e × AreElements s b e ts × AreElements s b e us))

-- the same of two values, and of what stands after them
abbrev pub Both : Type 0 → Schema → List Part → List Part → Type 0
Both A s r q = A × Rest s r q

fits_not_star : (s : Schema) (e : Expr) → Fits s e derived → ⊥
fits_not_star s e h = ⊎_elim (λ (c : Conforms s e derived). no_star s c) (λ (q : derived ≡ absent). cc) h

not_both : (s : Schema) → IsWellFormed s → (e : Expr) (v w : List ℕ) → Fits s e (str v) → Fits s e (enumeration w) → ⊥
not_both s wf e v w h k =
    ⊎_elim (λ (c : Conforms s e (str v)). ⊎_elim (λ (d : Conforms s e (enumeration w)). string_or_item s wf c d) (λ (q : enumeration w ≡ absent). cc) k) (λ (q : str v ≡ absent). cc) h

-- the item of BOOLEAN or LOGICAL that a token is
letter : Token → List ℕ
letter (json.boolean true) = codes "T"
letter (json.boolean false) = codes "F"
letter other = codes "U"

letter_of : (v : List ℕ) → IsLogical v → letter (logical_token v) ≡ v
unfolding letter
letter_of v h =
    let P : List ℕ → Type 0 = λ l. letter (logical_token l) ≡ l in
    ⊎_elim (⊎_elim (λ (e : v ≡ codes "T"). subst P (sym e) refl) (λ (e : v ≡ codes "F"). subst P (sym e) refl)) (λ (e : v ≡ codes "U"). subst P (sym e) refl) h

item_of : (s : Schema) → IsWellFormed s → (e : Expr) (v : List ℕ) → Fits s e (enumeration v) → TakesLogical s e → IsLogical v
item_of s wf e v h l = ⊎_elim (λ (c : Conforms s e (enumeration v)). logical_item s wf c l) (λ (q : enumeration v ≡ absent). cc) h

same_string_token : {v w : List ℕ} → json.string v ≡ json.string w → v ≡ w
same_string_token e = cc

same_item : {P Q : Type 0} (u : Token) (v w : List ℕ) → (P ↔ Q) → (P → ¬ (¬ (IsLogical v × IsLogical w))) → ((text_of v ≡ text_of w) → v ≡ w) → IsEither P u (logical_token v) (json.string (text_of v)) → IsEither Q u (logical_token w) (json.string (text_of w)) → v ≡ w
same_item {P} {Q} u v w alike l f h k =
    ⊎_elim
    (λ (e : v ≡ w). e)
    (λ (n : ¬ (v ≡ w)).
    let no : ¬ P = λ p. l p (λ both. n (sym (letter_of v both.0) ∙ ap letter (sym (h.first_if p) ∙ k.first_if (alike.0 p)) ∙ letter_of w both.1)) in
    f (same_string_token (sym (h.else_second no) ∙ k.else_second (λ q. no (alike.1 q)))))
    (same_or_not v w)

pub same_number_token : {v w : List ℕ} → json.number v ≡ json.number w → v ≡ w
same_number_token e = cc

low_bits : (m n : ℕ) → m < 2 ^ 64 → n < 2 ^ 64 → min m (2 ^ 64 - 1) ≡ min n (2 ^ 64 - 1) → m ≡ n
low_bits m n h k e = omega arith

bits_small : (m : ℕ) → min m (2 ^ 64 - 1) < 2 ^ 64
bits_small m = omega arith

-- the two are not both lists and not both typed
abbrev IsLeafPair : Tree → Tree → Type 0
IsLeafPair (items ts) (items us) = ⊥
IsLeafPair (typed k t) (typed l u) = ⊥
IsLeafPair t u = Unit {0}

leaf : (s : Schema) → IsWellFormed s → (t u : Tree) (w x : Where) → IsLeafPair t u → (IsLogicalAt s w ↔ IsLogicalAt s x) → OfOneType s w t u → HasSpellings t → HasSpellings u → (r q : List Part) (tokens : List Token) → AreTokensOf s (value_parts w t ++ r) tokens → AreTokensOf s (value_parts x u ++ q) tokens → Both (IsSame t u) s r q
leaf s wf absent absent w x p a z c d r q tokens h k = (same.absent, (pairs s (value_parts w absent) (value_parts x absent) r q tokens refl h k).1)
leaf s wf derived u w x p a z c d r q tokens h k = absurd (z (λ m. fits_not_star s m.0 m.2))
leaf s wf t derived w x p a z c d r q tokens h k = absurd (z (λ m. fits_not_star s m.0 m.3))
leaf s wf (int v) (int y) w x p a z c d r q tokens h k =
    let both = pairs s (value_parts w (int v)) (value_parts x (int y)) r q tokens refl h k in
    let n = same_number_token (sym (both.0.0.1.first_if (int_number v c)) ∙ both.0.0.2.first_if (int_number y d)) in
    (same.int (sym (int_text v c) ∙ n ∙ int_text y d), both.1)
leaf s wf (real v) (real y) w x p a z c d r q tokens h k =
    let both = pairs s (value_parts w (real v)) (value_parts x (real y)) r q tokens refl h k in
    let n = same_number_token (sym (both.0.0.1.first_if (real_number v c)) ∙ both.0.0.2.first_if (real_number y d)) in
    (same.real (sym (real_text v c) ∙ n ∙ real_text y d), both.1)
leaf s wf (int v) (real y) w x p a z c d r q tokens h k =
    let both = pairs s (value_parts w (int v)) (value_parts x (real y)) r q tokens refl h k in
    let n = same_number_token (sym (both.0.0.1.first_if (int_number v c)) ∙ both.0.0.2.first_if (real_number y d)) in
    absurd (int_is_no_real v y c d (sym (int_text v c) ∙ n ∙ real_text y d))
leaf s wf (real v) (int y) w x p a z c d r q tokens h k =
    let both = pairs s (value_parts w (real v)) (value_parts x (int y)) r q tokens refl h k in
    let n = same_number_token (sym (both.0.0.1.first_if (real_number v c)) ∙ both.0.0.2.first_if (int_number y d)) in
    absurd (int_is_no_real y v d c (sym (sym (real_text v c) ∙ n ∙ int_text y d)))
leaf s wf (str v) (str y) w x p a z c d r q tokens h k =
    let both = pairs s (value_parts w (str v)) (value_parts x (str y)) r q tokens refl h k in
    let (found, of_first, is_first) = both.0.0.1 in
    let (other, of_second, is_second) = both.0.0.2 in
    (same.str (record { found = found; other = other; of_first = of_first; of_second = of_second; same = same_string_token (sym is_first ∙ is_second) }), both.1)
leaf s wf (str v) (enumeration y) w x p a z c d r q tokens h k = absurd (z (λ m. not_both s wf m.0 v y m.2 m.3))
leaf s wf (enumeration v) (str y) w x p a z c d r q tokens h k = absurd (z (λ m. not_both s wf m.0 y v m.3 m.2))
leaf s wf (enumeration v) (enumeration y) w x p a z c d r q tokens h k =
    let both = pairs s (value_parts w (enumeration v)) (value_parts x (enumeration y)) r q tokens refl h k in
    let one : v ≡ y = same_item both.0.0.0 v y a (λ l n. z (λ m. n (item_of s wf m.0 v m.2 (m.1 l), item_of s wf m.0 y m.3 (m.1 l)))) (same_name v y c d) both.0.0.1 both.0.0.2 in
    (subst (λ (z : List ℕ). IsSame (enumeration v) (enumeration z)) one same.enumeration, both.1)
leaf s wf (binary v) (binary y) w x p a z c d r q tokens h k =
    let both = pairs s (value_parts w (binary v)) (value_parts x (binary y)) r q tokens refl h k in
    let count = both.0.1.1.0 in
    let hex = both.0.1.1.1.1.0 in
    let written = same_number_token (sym count.1 ∙ count.2) in
    let bits : bits_of v ≡ bits_of y = low_bits (bits_of v) (bits_of y) c.1 d.1 (decimal_injective (min (bits_of v) (2 ^ 64 - 1)) (min (bits_of y) (2 ^ 64 - 1)) (bits_small (bits_of v)) (bits_small (bits_of y)) written) in
    let one : v ≡ y = same_binary v y c.0 d.0 bits (same_string_token (sym hex.1 ∙ hex.2)) in
    (subst (λ (z : List ℕ). IsSame (binary v) (binary z)) one same.binary, both.1)
leaf s wf (reference m) (reference n) w x p a z c d r q tokens h k =
    let both = pairs s (value_parts w (reference m)) (value_parts x (reference n)) r q tokens refl h k in
    let name = both.0.1.1.0 in
    let one : m ≡ n = decimal_injective m n c d (same_number_token (sym name.1 ∙ name.2)) in
    (subst (λ (z : ℕ). IsSame (reference m) (reference z)) one same.reference, both.1)
leaf s wf (items ts) (items us) w x p a z c d r q tokens h k = absurd p
leaf s wf (typed j t) (typed l u) w x p a z c d r q tokens h k = absurd p
leaf s wf t u w x p a z c d r q tokens h k = let m = sym (heads s w t r tokens c h) ∙ heads s x u q tokens d k in absurd (omega arith)

pub seam : (s : Schema) (ps : List Part) (p : Part) (r : List Part) (tokens : List Token) → AreTokensOf s ((ps ++ p ∷ []) ++ r) tokens → AreTokensOf s (ps ++ p ∷ r) tokens
seam s ps p r tokens h = subst (λ (l : List Part). AreTokensOf s l tokens) (append_assoc ps (p ∷ []) r) h

pub turn : (s : Schema) (ps qs r : List Part) (tokens : List Token) → AreTokensOf s ((ps ++ qs) ++ r) tokens → AreTokensOf s (ps ++ (qs ++ r)) tokens
turn s ps qs r tokens h = subst (λ (l : List Part). AreTokensOf s l tokens) (append_assoc ps qs r) h

lists : (s : Schema) → IsWellFormed s → (e : Expr) (ts us : Trees) → Fits s e (items ts) → Fits s e (items us) → AreBoth s e ts us
lists s wf e ts us h k =
    ⊎_elim (λ (c : Conforms s e (items ts)). ⊎_elim (λ (d : Conforms s e (items us)). both_lists s wf c d) (λ (q : items us ≡ absent). cc) k) (λ (q : items ts ≡ absent). cc) h

inner : (s : Schema) (e : Expr) (k : List ℕ) (t : Tree) → Fits s e (typed k t) → Fits s (named k) t
inner s e k t h = ⊎_elim (λ (c : Conforms s e (typed k t)). inl (typed_value s c)) (λ (q : typed k t ≡ absent). cc) h

first_fits : (s : Schema) (o : Bool) (e : Expr) (t : Tree) (ts : Trees) → AreElements s o e (cons t ts) → Fits s e t × AreElements s o e ts
first_fits s o e t ts (conforms.more c h) = (inl c, h)
first_fits s o e t ts (conforms.left_out h) = (inr refl, h)

mutual
  -- two values of one type with the same tokens are the same but for spelling, and what stands after them has the same tokens
  pub same_value : (s : Schema) → IsWellFormed s → (t u : Tree) (w x : Where) → (IsLogicalAt s w ↔ IsLogicalAt s x) → OfOneType s w t u → HasSpellings t → HasSpellings u → (r q : List Part) (tokens : List Token) → AreTokensOf s (value_parts w t ++ r) tokens → AreTokensOf s (value_parts x u ++ q) tokens → Both (IsSame t u) s r q
  same_value s wf (items ts) (items us) w x a z c d r q [] h k = absurd h
  same_value s wf (items ts) (items us) w x a z c d r q (_ ∷ tokens) h k =
      let z' : AreOfOneType s w ts us = λ n. z (λ m. let both = lists s wf m.0 ts us m.2 m.3 in n (both.optional, both.element, (λ l. both.logical (m.1 l)), both.first, both.second)) in
      let first = seam s (values_parts w ts) (exactly json.end_array) r tokens h.1 in
      let second = seam s (values_parts x us) (exactly json.end_array) q tokens k.1 in
      let made = same_values s wf ts us w x a z' c d r q tokens first second in
      (same.items made.0, made.1)
  same_value s wf (typed j t) (typed l u) w x a z c d r q tokens h k =
      let end = exactly json.end_object in
      let front = exactly json.begin_object ∷ label (codes "type") ∷ name j ∷ label (codes "value") ∷ [] in
      let other = exactly json.begin_object ∷ label (codes "type") ∷ name l ∷ label (codes "value") ∷ [] in
      let both = pairs s front other ((value_parts (place.typed j) t ++ end ∷ []) ++ r) ((value_parts (place.typed l) u ++ end ∷ []) ++ q) tokens refl h k in
      let (spelled, of_first, is_first) = both.0.1.1.0.1 in
      let (again, of_second, is_second) = both.0.1.1.0.2 in
      let text : spelled ≡ again = same_string_token (sym is_first ∙ is_second) in
      let one : l ≡ j = same_keyword again l j d.0 c.0 of_second (subst (λ (b : List ℕ). IsSpelled b j) text of_first) in
      let z' : OfOneType s (place.typed j) t u = λ n. z (λ m. n (named j, (λ y. y), inner s m.0 j t m.2, subst (λ (y : List ℕ). Fits s (named y) u) one (inner s m.0 l u m.3))) in
      let first = seam s (value_parts (place.typed j) t) end r both.1.0 both.1.1 in
      let second = seam s (value_parts (place.typed l) u) end q both.1.0 both.1.2 in
      let alike : TakesLogical s (named j) ↔ TakesLogical s (named l) = (subst (λ (m : List ℕ). TakesLogical s (named m)) (sym one), subst (λ (m : List ℕ). TakesLogical s (named m)) one) in
      let made = same_value s wf t u (place.typed j) (place.typed l) alike z' c.1 d.1 (end ∷ r) (end ∷ q) both.1.0 first second in
      let rest = pairs s (end ∷ []) (end ∷ []) r q made.1.0 refl made.1.1 made.1.2 in
      (subst (λ (m : List ℕ). IsSame (typed j t) (typed m u)) (sym one) (same.typed made.0), rest.1)
  same_value s wf t u w x a z c d r q tokens h k = leaf s wf t u w x tt a z c d r q tokens h k

  pub same_values : (s : Schema) → IsWellFormed s → (ts us : Trees) (w x : Where) → (IsLogicalAt s w ↔ IsLogicalAt s x) → AreOfOneType s w ts us → HaveSpellings ts → HaveSpellings us → (r q : List Part) (tokens : List Token) → AreTokensOf s (values_parts w ts ++ exactly json.end_array ∷ r) tokens → AreTokensOf s (values_parts x us ++ exactly json.end_array ∷ q) tokens → Both (AreSame ts us) s r q
  same_values s wf nil nil w x a z c d r q [] h k = absurd h
  same_values s wf nil nil w x a z c d r q (_ ∷ tokens) h k = (same.none, (tokens, h.1, k.1))
  same_values s wf nil (cons u us) w x a z c d r q [] h k = absurd h
  same_values s wf nil (cons u us) w x a z c d r q (y ∷ tokens) h k =
      let m = heads s x u (values_parts x us ++ exactly json.end_array ∷ q) (y ∷ tokens) d.0 (turn s (value_parts x u) (values_parts x us) (exactly json.end_array ∷ q) (y ∷ tokens) k) in
      absurd (value_begins u (sym m ∙ ap (λ (z : Token). head_tag (z ∷ tokens)) h.0))
  same_values s wf (cons t ts) nil w x a z c d r q [] h k = absurd k
  same_values s wf (cons t ts) nil w x a z c d r q (y ∷ tokens) h k =
      let m = heads s w t (values_parts w ts ++ exactly json.end_array ∷ r) (y ∷ tokens) c.0 (turn s (value_parts w t) (values_parts w ts) (exactly json.end_array ∷ r) (y ∷ tokens) h) in
      absurd (value_begins t (sym m ∙ ap (λ (z : Token). head_tag (z ∷ tokens)) k.0))
  same_values s wf (cons t ts) (cons u us) w x a z c d r q tokens h k =
      let end = exactly json.end_array in
      let one : OfOneType s w t u = λ n. z (λ m. n (m.1, m.2, (first_fits s m.0 m.1 t ts m.3).0, (first_fits s m.0 m.1 u us m.4).0)) in
      let others : AreOfOneType s w ts us = λ n. z (λ m. n (m.0, m.1, m.2, (first_fits s m.0 m.1 t ts m.3).1, (first_fits s m.0 m.1 u us m.4).1)) in
      let made = same_value s wf t u w x a one c.0 d.0 (values_parts w ts ++ end ∷ r) (values_parts x us ++ end ∷ q) tokens (turn s (value_parts w t) (values_parts w ts) (end ∷ r) tokens h) (turn s (value_parts x u) (values_parts x us) (end ∷ q) tokens k) in
      let more = same_values s wf ts us w x a others c.1 d.1 r q made.1.0 made.1.1 made.1.2 in
      (same.more made.0 more.0, more.1)
