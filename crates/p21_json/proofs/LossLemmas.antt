-- Instances with the same tokens.
use Rattle.std.proofs.Common.{◌≡◌, ◌≢◌, ◌⊎◌, ◌↔◌, ℕ, zero, suc, Bool, true, false, List, [], ◌∷◌, ◌++◌, Some, None, map, length, refl, sym, ap, subst, ◌∙◌, inl, inr, ⊎_elim, arith}
use Rattle.std.specs.Prelude.{slice_get, slice_index, codes, ◌==◌}
use Rattle.std.specs.List.{AllByRecursion}
use Rattle.std.proofs.lemmas.Bool.{eqb-true, eqb-false}
use Rattle.std.proofs.lemmas.Fmt.{decimal_injective}
use Rattle.json.specs.Token.{Token}
use Rattle.json.specs.Token as json
use Rattle.p21_tree.specs.Tree.{Tree, Trees, nil, cons, derived}
use Rattle.p21_tree.specs.Grammar.{Entry}
use Rattle.p21_tree.specs.Sentence.{Instance}
use Rattle.p21_tree.specs.declared.faults.FaultKind.TheVariants as kind
use Rattle.p21_express.specs.Schema.{Schema}
use Rattle.p21_express.specs.WellFormed.{IsIn, AreDistinct, IsWellFormed, Origin}
use Rattle.p21_check.specs.Attributes.{AreAttributes}
use Rattle.p21_check.specs.Conforms.{tree_count}
use Rattle.p21_check.specs.EntitySet.{IsInSet, keywords}
use Rattle.p21_check.specs.EntitySet as set
use Rattle.p21_check.specs.LocalFault.{IsLocalFault, tree_get}
use Rattle.p21_check.specs.Slot.{DeclaresIn, IsDerived, Counts, FitsSlot}
use Rattle.p21_check.specs.Slot as slot
use Rattle.p21_json.specs.Instances.{member_parts, members_parts, record_parts, AreRecordsParts, IsRecordParts, IsBehindName}
use Rattle.p21_json.specs.Keys.{HasNames, key_of, keys_behind}
use Rattle.p21_json.specs.Laws.{LosesNoMember, LosesNothing}
use Rattle.p21_json.specs.Members.{Member, under, AreMembers, ShowTheSame, AllShowTheSame}
use Rattle.p21_json.specs.Parts.{Part, exactly, name, key, label, decimal_part, AreTokensOf, value_parts}
use Rattle.p21_json.specs.Same.{AreSame, AreSameRecords, IsSameInstance}
use Rattle.p21_json.specs.Same as same
use Rattle.p21_json.specs.Spellings.{HaveSpellings, HasItsRecords, RecordHasSpellings}
use Rattle.p21_json.specs.Where.{IsOf, IsLogicalAt, IsLogicalAttribute, attribute}
use Rattle.p21_json.specs.Spelled.{IsSpelled}
use Rattle.std.proofs.lemmas.List.{append-nil}
use Rattle.p21_json.proofs.KeyLemmas.{IsNamed, distinct_keys}
use Rattle.p21_json.proofs.MemberLemmas.{attributes_are, has_value, key_parts, no_member, none_under, same_head, same_tail}
use Rattle.p21_json.proofs.NameLemmas.{same_keyword}
use Rattle.p21_json.proofs.InstanceLemmas.{member_value}
use Rattle.p21_json.proofs.SameLemmas.{Both, OfOneType, pairs, seam, turn, same_value, same_number_token}
use Rattle.p21_json.proofs.SkipLemmas.{same_keywords}
use Rattle.p21_json.proofs.SlotLemmas.{IsPair, stars, values, pair_of}
use Rattle.p21_json.proofs.RowLemmas.{attributes_once, attribute_from, set_of}

-- ---- one set for both

set_as : (s : Schema) (i j : Instance) → i.complex ≡ j.complex → keywords i ≡ keywords j → (n : List ℕ) → IsInSet s i n → IsInSet s j n
set_as s i j c e n (set.named w k) = set.named (subst (λ (l : List (List ℕ)). IsIn l n) e w) k
set_as s i j c e n (set.ancestor {k} f w a) = set.ancestor (sym c ∙ f) (subst (λ (l : List (List ℕ)). IsIn l k) e w) a

module _ (s : Schema) (P Q : List ℕ → Type 0) (to : (n : List ℕ) → P n → Q n) (from : (n : List ℕ) → Q n → P n) (o : Origin) where
  declares_as : {d : _} → DeclaresIn s P o d → DeclaresIn s Q o d
  declares_as h = record { all = h.all; are = h.are; among = h.among; by = to _ h.by }

  declares_back : {d : _} → DeclaresIn s Q o d → DeclaresIn s P o d
  declares_back h = record { all = h.all; are = h.are; among = h.among; by = from _ h.by }

  derived_as : IsDerived s P o → IsDerived s Q o
  derived_as h = record { declaration = h.declaration; declares = declares_as h.declares; derives = h.derives }

  derived_back : IsDerived s Q o → IsDerived s P o
  derived_back h = record { declaration = h.declaration; declares = declares_back h.declares; derives = h.derives }

  counts_back : {d : _} → Counts s Q o d → Counts s P o d
  counts_back h = record { declares = declares_back h.declares; not_derived = λ x. h.not_derived (derived_as x); last = λ other g. h.last other (declares_as g) }

  pub fits_as : {t : Tree} → FitsSlot s P o t → FitsSlot s Q o t
  fits_as (slot.derived h) = slot.derived (derived_as h)
  fits_as (slot.absent n f) = slot.absent (λ h. n (derived_back h)) (λ d h. f d (counts_back h))
  fits_as (slot.given n f) = slot.given (λ h. n (derived_back h)) (λ d h. f d (counts_back h))

is_of_as : (s : Schema) (i j : Instance) → keywords i ≡ keywords j → {n : List ℕ} → IsOf s i n → IsOf s j n
is_of_as s i j e h = record { keyword = h.keyword; written = subst (λ (l : List (List ℕ)). IsIn l h.keyword) e h.written; below = h.below }

logical_as : (s : Schema) (i j : Instance) (o : Origin) → keywords i ≡ keywords j → IsLogicalAttribute s i o → IsLogicalAttribute s j o
logical_as s i j o e h =
    let d = h.declares in record {
      all = h.all;
      are = h.are;
      declaration = h.declaration;
      among = h.among;
      declares = (is_of_as s i j e d.0, d.1, λ b. d.2 (b.0, b.1, (is_of_as s j i (sym e) b.2.0, b.2.1)));
    }

-- ---- the members of a record

is_star : (t : Tree) → (t ≡ derived) ⊎ (t ≢ derived)
is_star derived = inl refl
is_star t = inr (λ e. cc)

-- the parameters of two records by their attributes, one by one
abbrev ArePairs : Schema → Instance → List Origin → Trees → Trees → Type 0
ArePairs s i [] nil nil = Unit {0}
ArePairs s i (o ∷ os) (cons t ts) (cons u us) = ¬ (¬ (IsPair s i o t u)) × ArePairs s i os ts us
ArePairs s i os ts us = ⊥

pairs_by : (s : Schema) (i : Instance) (os : List Origin) (ts us : Trees) → tree_count ts ≡ length os → tree_count us ≡ length os → ((a : ℕ) (o : Origin) (t u : Tree) → slice_get os a ≡ Some o → tree_get ts a ≡ Some t → tree_get us a ≡ Some u → ¬ (¬ (IsPair s i o t u))) → ArePairs s i os ts us
pairs_by s i [] nil nil m n f = tt
pairs_by s i [] nil (cons u us) m n f = absurd (omega arith)
pairs_by s i [] (cons t ts) us m n f = absurd (omega arith)
pairs_by s i (o ∷ os) nil us m n f = absurd (omega arith)
pairs_by s i (o ∷ os) (cons t ts) nil m n f = absurd (omega arith)
pairs_by s i (o ∷ os) (cons t ts) (cons u us) m n f = (f zero o t u refl refl refl, pairs_by s i os ts us (omega arith) (omega arith) (λ a. f (suc a)))

both_stars : (s : Schema) (i : Instance) (o : Origin) {t u : Tree} → IsPair s i o t u → t ≡ derived → u ≡ derived
both_stars s i o (stars a b) e = b
both_stars s i o (values x a b l f g) e = absurd (a e)

both_stars_back : (s : Schema) (i : Instance) (o : Origin) {t u : Tree} → IsPair s i o t u → u ≡ derived → t ≡ derived
both_stars_back s i o (stars a b) e = a
both_stars_back s i o (values x a b l f g) e = absurd (b e)

one_type : (s : Schema) (i : Instance) (o : Origin) (t u : Tree) → t ≢ derived → ¬ (¬ (IsPair s i o t u)) → OfOneType s (attribute i o) t u
one_type s i o t u n p k = p by where
  by : IsPair s i o t u → ⊥
  by (stars a b) = n a
  by (values e a b l f g) = k (e, l, f, g)

same_stars : (t u : Tree) → t ≡ derived → u ≡ derived → same.IsSame t u
same_stars t u e f = subst (λ (x : Tree). same.IsSame x u) (sym e) (subst (λ (y : Tree). same.IsSame derived y) (sym f) same.derived)

module _ (s : Schema) (wf : IsWellFormed s) (i j : Instance) (alike : (o : Origin) → IsLogicalAt s (attribute i o) ↔ IsLogicalAt s (attribute j o)) where
  same_members : (before os : List Origin) (ts us : Trees) → ArePairs s i os ts us → HaveSpellings ts → HaveSpellings us → (r q : List Part) (tokens : List Token) → AreTokensOf s (members_parts i before os ts ++ exactly json.end_object ∷ r) tokens → AreTokensOf s (members_parts j before os us ++ exactly json.end_object ∷ q) tokens → Both (AreSame ts us) s r q
  same_members before [] nil nil p c d r q [] h k = absurd h
  same_members before [] nil nil p c d r q (_ ∷ tokens) h k = (same.none, (tokens, h.1, k.1))
  same_members before [] nil (cons u us) p c d r q tokens h k = absurd p
  same_members before [] (cons t ts) us p c d r q tokens h k = absurd p
  same_members before (o ∷ os) nil us p c d r q tokens h k = absurd p
  same_members before (o ∷ os) (cons t ts) nil p c d r q tokens h k = absurd p
  same_members before (o ∷ os) (cons t ts) (cons u us) p c d r q tokens h k =
      let end = exactly json.end_object in
      let First : List Part → Type 0 = λ m. AreTokensOf s ((m ++ members_parts i (before ++ o ∷ []) os ts) ++ end ∷ r) tokens in
      let Second : List Part → Type 0 = λ m. AreTokensOf s ((m ++ members_parts j (before ++ o ∷ []) os us) ++ end ∷ q) tokens in
      ⊎_elim
      (λ (a : t ≡ derived). ⊎_elim
      (λ (b : u ≡ derived).
      let more = same_members (before ++ o ∷ []) os ts us p.1 c.1 d.1 r q tokens (subst (λ (x : Tree). First (member_parts i (key_of before o) o x)) a h) (subst (λ (x : Tree). Second (member_parts j (key_of before o) o x)) b k) in
      (same.more (same_stars t u a b) more.0, more.1))
      (λ (m : u ≢ derived). absurd (p.0 (λ x. m (both_stars s i o x a))))
      (is_star u))
      (λ (n : t ≢ derived). ⊎_elim
      (λ (b : u ≡ derived). absurd (p.0 (λ x. n (both_stars_back s i o x b))))
      (λ (m : u ≢ derived). valued tokens (λ rest f g. same_members (before ++ o ∷ []) os ts us p.1 c.1 d.1 r q rest f g) n m (subst First (member_value i (key_of before o) o t n) h) (subst Second (member_value j (key_of before o) o u m) k))
      (is_star u))
      (is_star t)
    where
      valued : (tokens : List Token) → ((rest : List Token) → AreTokensOf s (members_parts i (before ++ o ∷ []) os ts ++ exactly json.end_object ∷ r) rest → AreTokensOf s (members_parts j (before ++ o ∷ []) os us ++ exactly json.end_object ∷ q) rest → Both (AreSame ts us) s r q) → t ≢ derived → u ≢ derived → AreTokensOf s (((key (key_of before o) ∷ value_parts (attribute i o) t) ++ members_parts i (before ++ o ∷ []) os ts) ++ exactly json.end_object ∷ r) tokens → AreTokensOf s (((key (key_of before o) ∷ value_parts (attribute j o) u) ++ members_parts j (before ++ o ∷ []) os us) ++ exactly json.end_object ∷ q) tokens
          → Both (AreSame (cons t ts) (cons u us)) s r q
      valued [] next n m f g = absurd f
      valued (_ ∷ rest) next n m f g =
          let end = exactly json.end_object in
          let first = turn s (value_parts (attribute i o) t) (members_parts i (before ++ o ∷ []) os ts) (end ∷ r) rest f.1 in
          let second = turn s (value_parts (attribute j o) u) (members_parts j (before ++ o ∷ []) os us) (end ∷ q) rest g.1 in
          let made = same_value s wf t u (attribute i o) (attribute j o) (alike o) (one_type s i o t u n p.0) c.0 d.0 (members_parts i (before ++ o ∷ []) os ts ++ end ∷ r) (members_parts j (before ++ o ∷ []) os us ++ end ∷ q) rest first second in
          let more = next made.1.0 made.1.1 made.1.2 in
          (same.more made.0 more.0, more.1)

  -- ---- records

  -- two records of one entity whose parameters go with its attributes
  abbrev IsRecordPair : Entry → Entry → Type 0
  IsRecordPair e f = (e.keyword ≡ f.keyword) × ((os : List Origin) → AreAttributes s i.complex e.keyword os → ArePairs s i os e.params f.params)

  same_record : (os : List Origin) (e f : Entry) → ArePairs s i os e.params f.params → RecordHasSpellings e → RecordHasSpellings f → (r q : List Part) (tokens : List Token) → AreTokensOf s (record_parts i os e ++ r) tokens → AreTokensOf s (record_parts j os f ++ q) tokens → Both (AreSame e.params f.params) s r q
  same_record os e f p c d r q tokens h k =
      let end = exactly json.end_object in
      let front = label (codes "type") ∷ name e.keyword ∷ label (codes "attributes") ∷ exactly json.begin_object ∷ [] in
      let other = label (codes "type") ∷ name f.keyword ∷ label (codes "attributes") ∷ exactly json.begin_object ∷ [] in
      let both = pairs s front other ((members_parts i [] os e.params ++ end ∷ []) ++ r) ((members_parts j [] os f.params ++ end ∷ []) ++ q) tokens refl h k in
      let first = seam s (members_parts i [] os e.params) end r both.1.0 both.1.1 in
      let second = seam s (members_parts j [] os f.params) end q both.1.0 both.1.2 in
      same_members [] os e.params f.params p c.1 d.1 r q both.1.0 first second

  same_by_parts : i.complex ≡ j.complex → (e f : Entry) → IsRecordPair e f → RecordHasSpellings e → RecordHasSpellings f → (ps qs : List Part) → IsRecordParts s i e ps → IsRecordParts s j f qs → (r q : List Part) (tokens : List Token) → AreTokensOf s (ps ++ r) tokens → AreTokensOf s (qs ++ q) tokens → Both (AreSame e.params f.params) s r q
  same_by_parts cs e f p c d ps qs x y r q tokens h k =
      let there : AreAttributes s i.complex e.keyword y.0 = subst (λ (b : Bool). AreAttributes s b e.keyword y.0) (sym cs) (subst (λ (n : List ℕ). AreAttributes s j.complex n y.0) (sym p.0) y.1) in
      let one : y.0 ≡ x.0 = attributes_once s wf there x.1 in
      let second = subst (λ (l : List Part). AreTokensOf s (l ++ q) tokens) (y.2 ∙ ap (λ (os : List Origin). record_parts j os f) one) k in
      same_record x.0 e f (p.1 x.0 x.1) c d r q tokens (subst (λ (l : List Part). AreTokensOf s (l ++ r) tokens) x.2 h) second

  abbrev ArePairedRecords : List Entry → List Entry → Type 0
  ArePairedRecords [] [] = Unit {0}
  ArePairedRecords (e ∷ es) (f ∷ fs) = IsRecordPair e f × ArePairedRecords es fs
  ArePairedRecords es fs = ⊥

  same_records : i.complex ≡ j.complex → (es fs : List Entry) → ArePairedRecords es fs → AllByRecursion RecordHasSpellings es → AllByRecursion RecordHasSpellings fs → (ps qs : List Part) → AreRecordsParts s i es ps → AreRecordsParts s j fs qs → (r q : List Part) (tokens : List Token) → AreTokensOf s (ps ++ exactly json.end_array ∷ r) tokens → AreTokensOf s (qs ++ exactly json.end_array ∷ q) tokens → Both (AreSameRecords es fs) s r q
  same_records cs [] (f ∷ fs) p c d ps qs x y r q tokens h k = absurd p
  same_records cs (e ∷ es) [] p c d ps qs x y r q tokens h k = absurd p
  same_records cs [] [] p c d ps qs x y r q tokens h k =
      let end = exactly json.end_array in
      let both = pairs s (end ∷ []) (end ∷ []) r q tokens refl (subst (λ (l : List Part). AreTokensOf s (l ++ end ∷ r) tokens) x h) (subst (λ (l : List Part). AreTokensOf s (l ++ end ∷ q) tokens) y k) in
      (same.none, both.1)
  same_records cs (e ∷ es) (f ∷ fs) p c d ps qs x y r q tokens h k =
      let end = exactly json.end_array in
      let begin = exactly json.begin_object in
      let close = exactly json.end_object in
      let h' = subst (λ (l : List Part). AreTokensOf s (l ++ end ∷ r) tokens) x.4 h in
      let k' = subst (λ (l : List Part). AreTokensOf s (l ++ end ∷ q) tokens) y.4 k in
      let opened = pairs s (begin ∷ []) (begin ∷ []) ((x.0 ++ close ∷ x.1) ++ end ∷ r) ((y.0 ++ close ∷ y.1) ++ end ∷ q) tokens refl h' k' in
      let first = turn s x.0 (close ∷ x.1) (end ∷ r) opened.1.0 opened.1.1 in
      let second = turn s y.0 (close ∷ y.1) (end ∷ q) opened.1.0 opened.1.2 in
      let made = same_by_parts cs e f p.0 c.0 d.0 x.0 y.0 x.2 y.2 (close ∷ (x.1 ++ end ∷ r)) (close ∷ (y.1 ++ end ∷ q)) opened.1.0 first second in
      let closed = pairs s (close ∷ []) (close ∷ []) (x.1 ++ end ∷ r) (y.1 ++ end ∷ q) made.1.0 refl made.1.1 made.1.2 in
      let more = same_records cs es fs p.1 c.1 d.1 x.1 y.1 x.3 y.3 r q closed.1.0 closed.1.1 closed.1.2 in
      (same.more p.0.0 made.0 more.0, more.1)

  same_behind : i.complex ≡ j.complex → (b : Bool) (es fs : List Entry) → HasItsRecords b es → HasItsRecords b fs → ArePairedRecords es fs → AllByRecursion RecordHasSpellings es → AllByRecursion RecordHasSpellings fs → (ps qs : List Part) → IsBehindName s i b es ps → IsBehindName s j b fs qs → (r q : List Part) (tokens : List Token) → AreTokensOf s (ps ++ r) tokens → AreTokensOf s (qs ++ q) tokens → Both (AreSameRecords es fs) s r q
  same_behind cs true es fs m n p c d ps qs x y r q tokens h k =
      let end = exactly json.end_array in
      let front = label (codes "records") ∷ exactly json.begin_array ∷ [] in
      let h' = subst (λ (l : List Part). AreTokensOf s (l ++ r) tokens) x.2 h in
      let k' = subst (λ (l : List Part). AreTokensOf s (l ++ q) tokens) y.2 k in
      let opened = pairs s front front ((x.0 ++ end ∷ []) ++ r) ((y.0 ++ end ∷ []) ++ q) tokens refl h' k' in
      same_records cs es fs p c d x.0 y.0 x.1 y.1 r q opened.1.0 (seam s x.0 end r opened.1.0 opened.1.1) (seam s y.0 end q opened.1.0 opened.1.2)
  same_behind cs false [] fs m n p c d ps qs x y r q tokens h k = absurd m
  same_behind cs false (e ∷ g ∷ es) fs m n p c d ps qs x y r q tokens h k = absurd m
  same_behind cs false (e ∷ []) [] m n p c d ps qs x y r q tokens h k = absurd n
  same_behind cs false (e ∷ []) (f ∷ g ∷ fs) m n p c d ps qs x y r q tokens h k = absurd n
  same_behind cs false (e ∷ []) (f ∷ []) m n p c d ps qs x y r q tokens h k =
      let made = same_by_parts cs e f p.0 c.0 d.0 ps qs x y r q tokens h k in (same.more p.0.0 made.0 same.none, made.1)

-- ---- instances without a fault

stable : (m n : ℕ) → ¬ (m ≢ n) → m ≡ n
stable m n h = by (m == n) refl where
  by : (b : Bool) → (m == n) ≡ b → m ≡ n
  by true e = eqb-true m n e
  by false e = absurd (h (eqb-false m n e))

keyword_there : (es : List Entry) (r : ℕ) (e : Entry) → slice_get es r ≡ Some e → IsIn (map (λ (e : Entry). e.keyword) es) e.keyword
keyword_there [] r e h = cc
keyword_there (x ∷ es) zero e h = let one : x ≡ e = cc in inl (ap (λ (y : Entry). y.keyword) one)
keyword_there (x ∷ es) (suc r) e h = inr (keyword_there es r e h)

module _ (s : Schema) (wf : IsWellFormed s) (i j : Instance) (faultless : IsLocalFault s i None) (other : IsLocalFault s j None) (cs : i.complex ≡ j.complex) (ks : keywords i ≡ keywords j) where
  record_pair : (r : ℕ) (e f : Entry) → slice_get i.records r ≡ Some e → slice_get j.records r ≡ Some f → e.keyword ≡ f.keyword → (os : List Origin) → AreAttributes s i.complex e.keyword os → ArePairs s i os e.params f.params
  record_pair r e f h k q os a =
      let b : AreAttributes s j.complex f.keyword os = subst (λ (c : Bool). AreAttributes s c f.keyword os) cs (subst (λ (n : List ℕ). AreAttributes s i.complex n os) q a) in
      let one = stable (tree_count e.params) (length os) (λ w. faultless (kind.WrongCount r) (record { entry = e; attributes = os; there = h; are = a; wrong = w })) in
      let two = stable (tree_count f.params) (length os) (λ w. other (kind.WrongCount r) (record { entry = f; attributes = os; there = k; are = b; wrong = w })) in
      pairs_by s i os e.params f.params one two (λ n o t u g x y z.
      let from = attribute_from s i e.keyword os n o (keyword_there i.records r e h) a g in
      faultless (kind.BadAttribute r n) (record {
        entry = e;
        attributes = os;
        attribute = o;
        parameter = t;
        there = h;
        are = a;
        for_ = g;
        given = x;
        unfit = λ fits.
            other (kind.BadAttribute r n) (record {
              entry = f;
              attributes = os;
              attribute = o;
              parameter = u;
              there = k;
              are = b;
              for_ = g;
              given = y;
              unfit = λ again.
                  pair_of s wf (IsInSet s i) i o t u (set_of s i faultless) from.0 from.1 fits (fits_as s (IsInSet s j) (IsInSet s i) (set_as s j i (sym cs) (sym ks)) (set_as s i j cs ks) o again) z;
            });
      }))

  paired : (alike : (o : Origin) → IsLogicalAt s (attribute i o) ↔ IsLogicalAt s (attribute j o)) (es fs : List Entry) → map (λ (e : Entry). e.keyword) es ≡ map (λ (e : Entry). e.keyword) fs → ((r : ℕ) (e f : Entry) → slice_get es r ≡ Some e → slice_get fs r ≡ Some f → e.keyword ≡ f.keyword → (os : List Origin) → AreAttributes s i.complex e.keyword os → ArePairs s i os e.params f.params) → ArePairedRecords s wf i j alike es fs
  paired alike [] [] e p = tt
  paired alike [] (f ∷ fs) e p = cc
  paired alike (x ∷ es) [] e p = cc
  paired alike (x ∷ es) (f ∷ fs) e p =
      let one : x.keyword ≡ f.keyword = cc in
      let rest : map (λ (e : Entry). e.keyword) es ≡ map (λ (e : Entry). e.keyword) fs = cc in ((one, p zero x f refl refl one), paired alike es fs rest (λ r. p (suc r)))

-- ---- the entities of instances with the same tokens

-- the first letter of a key
first_letter : Token → ℕ
first_letter (json.key k) = slice_index k 0
first_letter other = 0

same_string : {v w : List ℕ} → json.string v ≡ json.string w → v ≡ w
same_string e = cc

other_key : (u : Token) → u ≡ json.key (codes "records") → u ≡ json.key (codes "type") → ⊥
unfolding first_letter
other_key u h k = let e : first_letter (json.key (codes "records")) ≡ first_letter (json.key (codes "type")) = ap first_letter (sym h ∙ k) in absurd (omega arith)

-- a simple instance begins with its type, and a complex one with its records
begins_type : (s : Schema) (i : Instance) (es : List Entry) (ps r : List Part) (u : Token) (tokens : List Token) → IsBehindName s i false es ps → AreTokensOf s (ps ++ r) (u ∷ tokens) → u ≡ json.key (codes "type")
begins_type s i [] ps r u tokens x h = absurd x
begins_type s i (e ∷ es) ps r u tokens x h = (subst (λ (l : List Part). AreTokensOf s (l ++ r) (u ∷ tokens)) x.2 h).0

begins_records : (s : Schema) (i : Instance) (es : List Entry) (ps r : List Part) (u : Token) (tokens : List Token) → IsBehindName s i true es ps → AreTokensOf s (ps ++ r) (u ∷ tokens) → u ≡ json.key (codes "records")
begins_records s i es ps r u tokens x h = (subst (λ (l : List Part). AreTokensOf s (l ++ r) (u ∷ tokens)) x.2 h).0

no_tokens : (s : Schema) (i : Instance) (b : Bool) (es : List Entry) (ps r : List Part) → IsBehindName s i b es ps → AreTokensOf s (ps ++ r) [] → ⊥
no_tokens s i true es ps r x h = subst (λ (l : List Part). AreTokensOf s (l ++ r) []) x.2 h
no_tokens s i false [] ps r x h = x
no_tokens s i false (e ∷ es) ps r x h = subst (λ (l : List Part). AreTokensOf s (l ++ r) []) x.2 h

-- both are simple or both complex
both_complex : (s : Schema) (i j : Instance) (b c : Bool) (es fs : List Entry) (ps qs r q : List Part) (tokens : List Token) → IsBehindName s i b es ps → IsBehindName s j c fs qs → AreTokensOf s (ps ++ r) tokens → AreTokensOf s (qs ++ q) tokens → b ≡ c
both_complex s i j b c es fs ps qs r q [] x y h k = absurd (no_tokens s i b es ps r x h)
both_complex s i j true true es fs ps qs r q (u ∷ tokens) x y h k = refl
both_complex s i j false false es fs ps qs r q (u ∷ tokens) x y h k = refl
both_complex s i j true false es fs ps qs r q (u ∷ tokens) x y h k = absurd (other_key u (begins_records s i es ps r u tokens x h) (begins_type s j fs qs q u tokens y k))
both_complex s i j false true es fs ps qs r q (u ∷ tokens) x y h k = absurd (other_key u (begins_records s j fs qs q u tokens y k) (begins_type s i es ps r u tokens x h))

abbrev keywords_in : List Entry → List (List ℕ)
keywords_in es = map (λ (e : Entry). e.keyword) es

-- simple ones are of one entity
one_entity : (s : Schema) (i j : Instance) (es fs : List Entry) → HasItsRecords false es → HasItsRecords false fs → AllByRecursion RecordHasSpellings es → AllByRecursion RecordHasSpellings fs → (ps qs r q : List Part) (tokens : List Token) → IsBehindName s i false es ps → IsBehindName s j false fs qs → AreTokensOf s (ps ++ r) tokens → AreTokensOf s (qs ++ q) tokens → keywords_in es ≡ keywords_in fs
one_entity s i j [] fs m n c d ps qs r q tokens x y h k = absurd m
one_entity s i j (e ∷ g ∷ es) fs m n c d ps qs r q tokens x y h k = absurd m
one_entity s i j (e ∷ []) [] m n c d ps qs r q tokens x y h k = absurd n
one_entity s i j (e ∷ []) (f ∷ g ∷ fs) m n c d ps qs r q tokens x y h k = absurd n
one_entity s i j (e ∷ []) (f ∷ []) m n c d ps qs r q tokens x y h k =
    let front = label (codes "type") ∷ name e.keyword ∷ [] in
    let other = label (codes "type") ∷ name f.keyword ∷ [] in
    let rest = label (codes "attributes") ∷ exactly json.begin_object ∷ (members_parts i [] x.0 e.params ++ exactly json.end_object ∷ []) in
    let behind = label (codes "attributes") ∷ exactly json.begin_object ∷ (members_parts j [] y.0 f.params ++ exactly json.end_object ∷ []) in
    let both = pairs s front other (rest ++ r) (behind ++ q) tokens refl (subst (λ (l : List Part). AreTokensOf s (l ++ r) tokens) x.2 h) (subst (λ (l : List Part). AreTokensOf s (l ++ q) tokens) y.2 k) in
    let (spelled, of_first, is_first) = both.0.1.0.1 in
    let (again, of_second, is_second) = both.0.1.0.2 in
    let text : spelled ≡ again = same_string (sym is_first ∙ is_second) in
    let one = same_keyword again e.keyword f.keyword c.0.0 d.0.0 (subst (λ (b : List ℕ). IsSpelled b e.keyword) text of_first) of_second in
    ap (λ (n : List ℕ). n ∷ []) one

-- complex ones are of the same entities
complex_entities : (s : Schema) (i j : Instance) (es fs : List Entry) → AllByRecursion RecordHasSpellings es → AllByRecursion RecordHasSpellings fs → (ps qs r q : List Part) (tokens : List Token) → IsBehindName s i true es ps → IsBehindName s j true fs qs → AreTokensOf s (ps ++ r) tokens → AreTokensOf s (qs ++ q) tokens → keywords_in es ≡ keywords_in fs
complex_entities s i j es fs c d ps qs r q tokens x y h k =
    let end = exactly json.end_array in
    let front = label (codes "records") ∷ exactly json.begin_array ∷ [] in
    let h' = subst (λ (l : List Part). AreTokensOf s (l ++ r) tokens) x.2 h in
    let k' = subst (λ (l : List Part). AreTokensOf s (l ++ q) tokens) y.2 k in
    let opened = pairs s front front ((x.0 ++ end ∷ []) ++ r) ((y.0 ++ end ∷ []) ++ q) tokens refl h' k' in
    same_keywords s i j es fs c d x.0 y.0 r q opened.1.0 x.1 y.1 (seam s x.0 end r opened.1.0 opened.1.1) (seam s y.0 end q opened.1.0 opened.1.2)

-- ---- instances

-- instances with the same tokens are the same but for spelling
pub same_instance : (s : Schema) → IsWellFormed s → LosesNothing s
same_instance s wf i j tokens a b x y =
    let close = exactly json.end_object in
    let front = exactly json.begin_object ∷ label (codes "id") ∷ decimal_part i.name ∷ [] in
    let again = exactly json.begin_object ∷ label (codes "id") ∷ decimal_part j.name ∷ [] in
    let h = subst (λ (l : List Part). AreTokensOf s l tokens) x.are_parts.2 x.are_tokens in
    let k = subst (λ (l : List Part). AreTokensOf s l tokens) y.are_parts.2 y.are_tokens in
    let opened = pairs s front again (x.are_parts.0 ++ close ∷ []) (y.are_parts.0 ++ close ∷ []) tokens refl h k in
    let number = opened.0.1.1.0 in
    let one = decimal_injective i.name j.name a.spelled.name b.spelled.name (same_number_token (sym number.1 ∙ number.2)) in
    let cs : i.complex ≡ j.complex = both_complex s i j i.complex j.complex i.records j.records x.are_parts.0 y.are_parts.0 (close ∷ []) (close ∷ []) opened.1.0 x.are_parts.1 y.are_parts.1 opened.1.1 opened.1.2 in
    let its = subst (λ (c : Bool). HasItsRecords c j.records) (sym cs) b.spelled.one in
    let behind = subst (λ (c : Bool). IsBehindName s j c j.records y.are_parts.0) (sym cs) y.are_parts.1 in
    let entities : (c : Bool) → i.complex ≡ c → keywords i ≡ keywords j = λ c.
    elim c as (λ c. i.complex ≡ c → keywords i ≡ keywords j) [
      | true ↦ λ e.
          complex_entities s i j i.records j.records a.spelled.records b.spelled.records x.are_parts.0 y.are_parts.0 (close ∷ []) (close ∷ []) opened.1.0
          (subst (λ (c : Bool). IsBehindName s i c i.records x.are_parts.0) e x.are_parts.1) (subst (λ (c : Bool). IsBehindName s j c j.records y.are_parts.0) e behind) opened.1.1 opened.1.2
      | false ↦ λ e.
          one_entity s i j i.records j.records (subst (λ (c : Bool). HasItsRecords c i.records) e a.spelled.one) (subst (λ (c : Bool). HasItsRecords c j.records) e its) a.spelled.records b.spelled.records x.are_parts.0 y.are_parts.0 (close ∷ []) (close ∷ []) opened.1.0
          (subst (λ (c : Bool). IsBehindName s i c i.records x.are_parts.0) e x.are_parts.1) (subst (λ (c : Bool). IsBehindName s j c j.records y.are_parts.0) e behind) opened.1.1 opened.1.2
    ] in
    let ks = entities i.complex refl in
    let alike : (o : Origin) → IsLogicalAt s (attribute i o) ↔ IsLogicalAt s (attribute j o) = λ o. (logical_as s i j o ks, logical_as s j i o (sym ks)) in
    let p = paired s wf i j a.faultless b.faultless cs ks alike i.records j.records ks (record_pair s wf i j a.faultless b.faultless cs ks) in
    let made = same_behind s wf i j alike cs i.complex i.records j.records a.spelled.one its p a.spelled.records b.spelled.records x.are_parts.0 y.are_parts.0 x.are_parts.1 behind (close ∷ []) (close ∷ []) opened.1.0 opened.1.1 opened.1.2 in
    record { name = one; complex = cs; records = made.0 }

-- ---- instances with the same under each key

module _ (s : Schema) (wf : IsWellFormed s) (i j : Instance) (alike : (o : Origin) → IsLogicalAt s (attribute i o) ↔ IsLogicalAt s (attribute j o)) where
  same_by_members : (before os : List Origin) (ts us : Trees) → ArePairs s i os ts us → HaveSpellings ts → HaveSpellings us → AllByRecursion IsNamed os → AreDistinct (keys_behind before os) → (ms ns : List Member) → AreMembers s i before os ts ms → AreMembers s j before os us ns → ((k : List ℕ) → under k ms ≡ under k ns) → AreSame ts us
  same_by_members before [] nil nil p c d n e ms ns x y f = same.none
  same_by_members before [] nil (cons u us) p c d n e ms ns x y f = absurd p
  same_by_members before [] (cons t ts) us p c d n e ms ns x y f = absurd p
  same_by_members before (o ∷ os) nil us p c d n e ms ns x y f = absurd p
  same_by_members before (o ∷ os) (cons t ts) nil p c d n e ms ns x y f = absurd p
  same_by_members before (o ∷ os) (cons t ts) (cons u us) p c d n e ms ns x y f =
      let k = key_of before o in
      ⊎_elim
      (λ (a : t ≡ derived). ⊎_elim
      (λ (b : u ≡ derived).
      let first : ms ≡ x.1 = x.4 ∙ ap (λ (l : List Member). l ++ x.1) (no_member s i k o t x.0 a x.2) in
      let second : ns ≡ y.1 = y.4 ∙ ap (λ (l : List Member). l ++ y.1) (no_member s j k o u y.0 b y.2) in
      same.more (same_stars t u a b) (same_by_members (before ++ o ∷ []) os ts us p.1 c.1 d.1 n.1 e.1 x.1 y.1 x.3 y.3 (λ l. ap (under l) (sym first) ∙ f l ∙ ap (under l) second)))
      (λ (m : u ≢ derived). absurd (p.0 (λ q. m (both_stars s i o q a))))
      (is_star u))
      (λ (m : t ≢ derived). ⊎_elim
      (λ (b : u ≡ derived). absurd (p.0 (λ q. m (both_stars_back s i o q b))))
      (λ (l : u ≢ derived).
      let mine = has_value s i k o t x.0 m x.2 in
      let yours = has_value s j k o u y.0 l y.2 in
      let first : ms ≡ mine.0 ∷ x.1 = x.4 ∙ ap (λ (l : List Member). l ++ x.1) mine.3 in
      let second : ns ≡ yours.0 ∷ y.1 = y.4 ∙ ap (λ (l : List Member). l ++ y.1) yours.3 in
      let g : (l : List ℕ) → under l (mine.0 ∷ x.1) ≡ under l (yours.0 ∷ y.1) = λ l. ap (under l) (sym first) ∙ f l ∙ ap (under l) second in
      let none = none_under s i (before ++ o ∷ []) os ts x.1 mine.0.key k mine.1 (key_parts before o n.0) n.1 e.0 x.3 in
      let nothing = none_under s j (before ++ o ∷ []) os us y.1 mine.0.key k mine.1 (key_parts before o n.0) n.1 e.0 y.3 in
      let head = same_head mine.0 yours.0 x.1 y.1 none nothing (g mine.0.key) in
      let whole : (ps : List Part) (tokens : List Token) → AreTokensOf s ps tokens → AreTokensOf s (ps ++ []) tokens = λ ps tokens h. subst (λ (q : List Part). AreTokensOf s q tokens) (sym (append-nil ps)) h in
      let theirs = subst (AreTokensOf s (value_parts (attribute j o) u)) (sym head.1) yours.2 in
      let one = same_value s wf t u (attribute i o) (attribute j o) (alike o) (one_type s i o t u m p.0) c.0 d.0 [] [] mine.0.value (whole (value_parts (attribute i o) t) mine.0.value mine.2) (whole (value_parts (attribute j o) u) mine.0.value theirs) in
      same.more one.0 (same_by_members (before ++ o ∷ []) os ts us p.1 c.1 d.1 n.1 e.1 x.1 y.1 x.3 y.3 (same_tail mine.0 yours.0 x.1 y.1 none nothing head.0 g)))
      (is_star u))
      (is_star t)

  shown_record : HasNames s → i.complex ≡ j.complex → (e f : Entry) → IsRecordPair s wf i j alike e f → RecordHasSpellings e → RecordHasSpellings f → ShowTheSame s i j e f → AreSame e.params f.params
  shown_record names cs e f p c d h =
      let x = h.of_first in
      let y = h.of_second in
      let there : AreAttributes s i.complex e.keyword y.attributes = subst (λ (b : Bool). AreAttributes s b e.keyword y.attributes) (sym cs) (subst (λ (n : List ℕ). AreAttributes s j.complex n y.attributes) (sym p.0) y.are) in
      let one : y.attributes ≡ x.attributes = attributes_once s wf there x.are in
      let both = attributes_are s wf names x.are in
      same_by_members [] x.attributes e.params f.params (p.1 x.attributes x.are) c.1 d.1 both.1 (distinct_keys [] x.attributes both.1 both.0) h.first h.second x.shown (subst (λ (os : List Origin). AreMembers s j [] os f.params h.second) one y.shown) h.same

  shown_records : HasNames s → i.complex ≡ j.complex → (es fs : List Entry) → ArePairedRecords s wf i j alike es fs → AllByRecursion RecordHasSpellings es → AllByRecursion RecordHasSpellings fs → AllShowTheSame s i j es fs → AreSameRecords es fs
  shown_records names cs [] [] p c d h = same.none
  shown_records names cs [] (f ∷ fs) p c d h = absurd h
  shown_records names cs (e ∷ es) [] p c d h = absurd h
  shown_records names cs (e ∷ es) (f ∷ fs) p c d h = same.more p.0.0 (shown_record names cs e f p.0 c.0 d.0 h.0) (shown_records names cs es fs p.1 c.1 d.1 h.1)

-- what shows the same is of the same entities
shown_keywords : (s : Schema) (i j : Instance) (es fs : List Entry) → AllByRecursion RecordHasSpellings es → AllByRecursion RecordHasSpellings fs → AllShowTheSame s i j es fs → keywords_in es ≡ keywords_in fs
shown_keywords s i j [] [] c d h = refl
shown_keywords s i j [] (f ∷ fs) c d h = absurd h
shown_keywords s i j (e ∷ es) [] c d h = absurd h
shown_keywords s i j (e ∷ es) (f ∷ fs) c d h =
    let one : e.keyword ≡ f.keyword = same_keyword h.0.type e.keyword f.keyword c.0.0 d.0.0 h.0.of_first.spelled h.0.of_second.spelled in cc (one, shown_keywords s i j es fs c.1 d.1 h.1)

-- instances that show the same to who goes by keys are the same but for spelling
pub same_by_keys : (s : Schema) → IsWellFormed s → HasNames s → LosesNoMember s
same_by_keys s wf names i j a b one cs h =
    let ks = shown_keywords s i j i.records j.records a.spelled.records b.spelled.records h in
    let alike : (o : Origin) → IsLogicalAt s (attribute i o) ↔ IsLogicalAt s (attribute j o) = λ o. (logical_as s i j o ks, logical_as s j i o (sym ks)) in
    let p = paired s wf i j a.faultless b.faultless cs ks alike i.records j.records ks (record_pair s wf i j a.faultless b.faultless cs ks) in
    record { name = one; complex = cs; records = shown_records s wf i j alike names cs i.records j.records p a.spelled.records b.spelled.records h }
