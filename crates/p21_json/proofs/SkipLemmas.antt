-- The entities of complex instances with the same tokens, whatever stands in their records.
use Rattle.std.proofs.Common.{◌≡◌, ◌≢◌, ◌⊎◌, ℕ, zero, suc, Bool, true, false, List, [], ◌∷◌, ◌++◌, map, refl, sym, ap, subst, ◌∙◌, inl, inr, ⊎_elim}
use Rattle.std.specs.Prelude.{◌==◌, ◌-◌, ◌^◌, if◌then◌else◌, drop, min, slice_index, codes}
use Rattle.std.specs.List.{AllByRecursion}
use Rattle.json.specs.Token.{Token}
use Rattle.json.specs.Token as json
use Rattle.p21_text.specs.Spelling.{bits_of}
use Rattle.p21_tree.specs.Tree.{Tree, Trees, nil, cons, absent, derived, int, real, str, enumeration, binary, reference, items, typed}
use Rattle.p21_tree.specs.Grammar.{Entry}
use Rattle.p21_tree.specs.Sentence.{Instance}
use Rattle.p21_express.specs.Schema.{Schema}
use Rattle.p21_express.specs.WellFormed.{Origin}
use Rattle.p21_json.specs.Instances.{member_parts, members_parts, AreRecordsParts}
use Rattle.p21_json.specs.Keys.{key_of}
use Rattle.p21_json.specs.Parts.{Part, exactly, number, string, name, key, item, label, decimal_part, IsTokenOf, AreTokensOf, logical_token, value_parts, values_parts}
use Rattle.p21_json.specs.Spelled.{IsSpelled, text_of}
use Rattle.p21_json.specs.Spellings.{RecordHasSpellings}
use Rattle.p21_json.specs.Where.{Where, attribute}
use Rattle.p21_json.specs.Where as place
use Rattle.p21_json.proofs.InstanceLemmas.{member_value}
use Rattle.p21_json.proofs.NameLemmas.{same_keyword}
use Rattle.p21_json.proofs.SameLemmas.{either, pairs, seam, turn}

-- ---- tokens up to the end of an object or an array that is open

-- 0 opens, 1 closes
abbrev kind : Token → ℕ
kind json.begin_object = 0
kind json.begin_array = 0
kind json.end_object = 1
kind json.end_array = 1
kind (json.key k) = 2
kind (json.string v) = 2
kind (json.number v) = 2
kind (json.boolean b) = 2
kind json.null = 2
kind json.bad = 2

-- the tokens after the end of what is open, where so many more are open in it
abbrev skip : ℕ → List Token → List Token
skip d [] = []
skip zero (u ∷ us) = if kind u == 0 then skip 1 us else (if kind u == 1 then us else skip 0 us)
skip (suc d) (u ∷ us) = if kind u == 0 then skip (suc (suc d)) us else (if kind u == 1 then skip d us else skip (suc d) us)

opens : (d : ℕ) (u : Token) (us : List Token) → kind u ≡ 0 → skip d (u ∷ us) ≡ skip (suc d) us
opens zero u us e = rw e refl
opens (suc d) u us e = rw e refl

closes : (d : ℕ) (u : Token) (us : List Token) → kind u ≡ 1 → skip (suc d) (u ∷ us) ≡ skip d us
closes d u us e = rw e refl

passes : (d : ℕ) (u : Token) (us : List Token) → kind u ≡ 2 → skip d (u ∷ us) ≡ skip d us
passes zero u us e = rw e refl
passes (suc d) u us e = rw e refl

ends : (u : Token) (us : List Token) → kind u ≡ 1 → skip 0 (u ∷ us) ≡ us
ends u us e = rw e refl

-- the kind of the token of a part
abbrev kind_of : Part → ℕ
kind_of (exactly t) = kind t
kind_of (number v) = 2
kind_of (string v) = 2
kind_of (name n) = 2
kind_of (key n) = 2
kind_of (item w v) = 2

logical_kind : (v : List ℕ) → kind (logical_token v) ≡ 2
logical_kind v = by (slice_index v 0 == 84) (slice_index v 0 == 70) where
  by : (a b : Bool) → kind (if a then json.boolean true else (if b then json.boolean false else json.string (codes "UNKNOWN"))) ≡ 2
  by true b = refl
  by false true = refl
  by false false = refl

kind_is : (s : Schema) (p : Part) (u : Token) → IsTokenOf s p u → kind u ≡ kind_of p
kind_is s (exactly t) u h = ap kind h
kind_is s (number v) u h = either kind 2 h refl refl
kind_is s (string v) u h = ap kind h.2
kind_is s (name n) u h = ap kind h.2
kind_is s (key n) u h = ap kind h.2
kind_is s (item w v) u h = either kind 2 h (logical_kind v) refl

-- ---- parts that close what they open

-- some of the tokens are those of the parts after it, and what was open before is open there
abbrev Passed : Schema → List Part → List Token → Type 0
Passed s r tokens = (rest : List Token) × AreTokensOf s r rest × ((d : ℕ) → skip d tokens ≡ skip d rest)

abbrev IsBalanced : Schema → List Part → Type 0
IsBalanced s ps = (r : List Part) (tokens : List Token) → AreTokensOf s (ps ++ r) tokens → Passed s r tokens

none_open : (s : Schema) → IsBalanced s []
none_open s r tokens h = (tokens, h, λ d. refl)

one_more : (s : Schema) (p : Part) (ps : List Part) → kind_of p ≡ 2 → IsBalanced s ps → IsBalanced s (p ∷ ps)
one_more s p ps e f r [] h = absurd h
one_more s p ps e f r (u ∷ us) h = let more = f r us h.1 in (more.0, more.1, λ d. passes d u us (kind_is s p u h.0 ∙ e) ∙ more.2 d)

then_more : (s : Schema) (ps qs : List Part) → IsBalanced s ps → IsBalanced s qs → IsBalanced s (ps ++ qs)
then_more s ps qs f g r tokens h =
    let first = f (qs ++ r) tokens (turn s ps qs r tokens h) in
    let second = g r first.0 first.1 in
    (second.0, second.1, λ d. first.2 d ∙ second.2 d)

-- after what closes
closed : (s : Schema) (q : Part) (r : List Part) (tokens : List Token) → kind_of q ≡ 1 → Passed s (q ∷ r) tokens → (rest : List Token) × AreTokensOf s r rest × ((d : ℕ) → skip (suc d) tokens ≡ skip d rest) × (skip 0 tokens ≡ rest)
closed s q r tokens e ([], h, f) = absurd h
closed s q r tokens e (u ∷ us, h, f) = let k = kind_is s q u h.0 ∙ e in (us, h.1, (λ d. f (suc d) ∙ closes d u us k), f 0 ∙ ends u us k)

wrapped : (s : Schema) (p : Part) (ps : List Part) (q : Part) → kind_of p ≡ 0 → kind_of q ≡ 1 → IsBalanced s ps → IsBalanced s (p ∷ (ps ++ q ∷ []))
wrapped s p ps q e k f r [] h = absurd h
wrapped s p ps q e k f r (u ∷ us) h =
    let inner = closed s q r us k (f (q ∷ r) us (seam s ps q r us h.1)) in
    (inner.0, inner.1, λ d. opens d u us (kind_is s p u h.0 ∙ e) ∙ inner.2 d)

one : (s : Schema) (p : Part) → kind_of p ≡ 2 → IsBalanced s (p ∷ [])
one s p e = one_more s p [] e (none_open s)

mutual
  of_value : (s : Schema) (w : Where) (t : Tree) → IsBalanced s (value_parts w t)
  of_value s w absent = one s (exactly json.null) refl
  of_value s w derived = one s (exactly json.null) refl
  of_value s w (int v) = one s (number v) refl
  of_value s w (real v) = one s (number v) refl
  of_value s w (str v) = one s (string v) refl
  of_value s w (enumeration v) = one s (item w v) refl
  of_value s w (binary v) =
      let bits = decimal_part (min (bits_of v) (2 ^ 64 - 1)) in
      let hex = exactly (json.string (text_of (drop 1 v))) in
      let last = label (codes "hex") ∷ hex ∷ [] in
      wrapped s (exactly json.begin_object) (label (codes "bits") ∷ bits ∷ last) (exactly json.end_object) refl refl
      (one_more s (label (codes "bits")) (bits ∷ last) refl (one_more s bits last refl (one_more s (label (codes "hex")) (hex ∷ []) refl (one s hex refl))))
  of_value s w (reference n) = wrapped s (exactly json.begin_object) (label (codes "ref") ∷ decimal_part n ∷ []) (exactly json.end_object) refl refl (one_more s (label (codes "ref")) (decimal_part n ∷ []) refl (one s (decimal_part n) refl))
  of_value s w (items ts) = wrapped s (exactly json.begin_array) (values_parts w ts) (exactly json.end_array) refl refl (of_values s w ts)
  of_value s w (typed k t) =
      wrapped s (exactly json.begin_object) (label (codes "type") ∷ name k ∷ label (codes "value") ∷ value_parts (place.typed k) t) (exactly json.end_object) refl refl
      (one_more s (label (codes "type")) (name k ∷ label (codes "value") ∷ value_parts (place.typed k) t) refl (one_more s (name k) (label (codes "value") ∷ value_parts (place.typed k) t) refl (one_more s (label (codes "value")) (value_parts (place.typed k) t) refl (of_value s (place.typed k) t))))

  of_values : (s : Schema) (w : Where) (ts : Trees) → IsBalanced s (values_parts w ts)
  of_values s w nil = none_open s
  of_values s w (cons t ts) = then_more s (value_parts w t) (values_parts w ts) (of_value s w t) (of_values s w ts)

is_star : (t : Tree) → (t ≡ derived) ⊎ (t ≢ derived)
is_star derived = inl refl
is_star t = inr (λ e. cc)

of_member : (s : Schema) (i : Instance) (k : List ℕ) (o : Origin) (t : Tree) → IsBalanced s (member_parts i k o t)
of_member s i k o t =
    ⊎_elim
    (λ (e : t ≡ derived). subst (λ (x : Tree). IsBalanced s (member_parts i k o x)) (sym e) (none_open s))
    (λ (n : t ≢ derived). subst (IsBalanced s) (sym (member_value i k o t n)) (one_more s (key k) (value_parts (attribute i o) t) refl (of_value s (attribute i o) t)))
    (is_star t)

of_members : (s : Schema) (i : Instance) (before os : List Origin) (ts : Trees) → IsBalanced s (members_parts i before os ts)
of_members s i before [] ts = none_open s
of_members s i before (o ∷ os) nil = none_open s
of_members s i before (o ∷ os) (cons t ts) = then_more s (member_parts i (key_of before o) o t) (members_parts i (before ++ o ∷ []) os ts) (of_member s i (key_of before o) o t) (of_members s i (before ++ o ∷ []) os ts)

-- ---- records

abbrev keywords_in : List Entry → List (List ℕ)
keywords_in es = map (λ (e : Entry). e.keyword) es

same_string : {v w : List ℕ} → json.string v ≡ json.string w → v ≡ w
same_string e = cc

other_begin : (u : Token) → u ≡ json.end_array → u ≡ json.begin_object → ⊥
other_begin u h k = let e : json.end_array ≡ json.begin_object = sym h ∙ k in cc

-- the tokens after the members of a record
behind_members : (s : Schema) (i : Instance) (os : List Origin) (ts : Trees) (x r : List Part) (tokens : List Token) → AreTokensOf s (((members_parts i [] os ts ++ exactly json.end_object ∷ []) ++ x) ++ r) tokens → AreTokensOf s (x ++ r) (skip 0 tokens)
behind_members s i os ts x r tokens h =
    let close = exactly json.end_object in
    let first = turn s (members_parts i [] os ts ++ close ∷ []) x r tokens h in
    let inner = closed s close (x ++ r) tokens refl (of_members s i [] os ts (close ∷ (x ++ r)) tokens (seam s (members_parts i [] os ts) close (x ++ r) tokens first)) in
    subst (AreTokensOf s (x ++ r)) (sym inner.3) inner.1

-- records with the same tokens are of the same entities
pub same_keywords : (s : Schema) (i j : Instance) (es fs : List Entry) → AllByRecursion RecordHasSpellings es → AllByRecursion RecordHasSpellings fs → (ps qs r q : List Part) (tokens : List Token) → AreRecordsParts s i es ps → AreRecordsParts s j fs qs → AreTokensOf s (ps ++ exactly json.end_array ∷ r) tokens → AreTokensOf s (qs ++ exactly json.end_array ∷ q) tokens → keywords_in es ≡ keywords_in fs
same_keywords s i j [] [] c d ps qs r q tokens x y h k = refl
same_keywords s i j [] (f ∷ fs) c d ps qs r q [] x y h k = absurd (subst (λ (l : List Part). AreTokensOf s (l ++ exactly json.end_array ∷ r) []) x h)
same_keywords s i j [] (f ∷ fs) c d ps qs r q (u ∷ tokens) x y h k =
    let end = exactly json.end_array in
    absurd (other_begin u (subst (λ (l : List Part). AreTokensOf s (l ++ end ∷ r) (u ∷ tokens)) x h).0 (subst (λ (l : List Part). AreTokensOf s (l ++ end ∷ q) (u ∷ tokens)) y.4 k).0)
same_keywords s i j (e ∷ es) [] c d ps qs r q [] x y h k = absurd (subst (λ (l : List Part). AreTokensOf s (l ++ exactly json.end_array ∷ q) []) y k)
same_keywords s i j (e ∷ es) [] c d ps qs r q (u ∷ tokens) x y h k =
    let end = exactly json.end_array in
    absurd (other_begin u (subst (λ (l : List Part). AreTokensOf s (l ++ end ∷ q) (u ∷ tokens)) y k).0 (subst (λ (l : List Part). AreTokensOf s (l ++ end ∷ r) (u ∷ tokens)) x.4 h).0)
same_keywords s i j (e ∷ es) (f ∷ fs) c d ps qs r q tokens x y h k =
    let end = exactly json.end_array in
    let begin = exactly json.begin_object in
    let close = exactly json.end_object in
    let front = begin ∷ label (codes "type") ∷ name e.keyword ∷ label (codes "attributes") ∷ begin ∷ [] in
    let other = begin ∷ label (codes "type") ∷ name f.keyword ∷ label (codes "attributes") ∷ begin ∷ [] in
    let h' = subst (λ (l : List Part). AreTokensOf s ((begin ∷ (l ++ close ∷ x.1)) ++ end ∷ r) tokens) x.2.2 (subst (λ (l : List Part). AreTokensOf s (l ++ end ∷ r) tokens) x.4 h) in
    let k' = subst (λ (l : List Part). AreTokensOf s ((begin ∷ (l ++ close ∷ y.1)) ++ end ∷ q) tokens) y.2.2 (subst (λ (l : List Part). AreTokensOf s (l ++ end ∷ q) tokens) y.4 k) in
    let mine = members_parts i [] x.2.0 e.params ++ close ∷ [] in
    let yours = members_parts j [] y.2.0 f.params ++ close ∷ [] in
    let both = pairs s front other ((mine ++ close ∷ x.1) ++ end ∷ r) ((yours ++ close ∷ y.1) ++ end ∷ q) tokens refl h' k' in
    let (spelled, of_first, is_first) = both.0.1.1.0.1 in
    let (again, of_second, is_second) = both.0.1.1.0.2 in
    let text : spelled ≡ again = same_string (sym is_first ∙ is_second) in
    let first : e.keyword ≡ f.keyword = same_keyword again e.keyword f.keyword c.0.0 d.0.0 (subst (λ (b : List ℕ). IsSpelled b e.keyword) text of_first) of_second in
    let rest = skip 0 both.1.0 in
    let one = behind_members s i x.2.0 e.params (close ∷ x.1) (end ∷ r) both.1.0 both.1.1 in
    let two = behind_members s j y.2.0 f.params (close ∷ y.1) (end ∷ q) both.1.0 both.1.2 in
    let opened = pairs s (close ∷ []) (close ∷ []) (x.1 ++ end ∷ r) (y.1 ++ end ∷ q) rest refl one two in
    cc (first, same_keywords s i j es fs c.1 d.1 x.1 y.1 r q opened.1.0 x.3 y.3 opened.1.1 opened.1.2)
