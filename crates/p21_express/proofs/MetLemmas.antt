-- Names that were met, name by name.
use Rattle.std.proofs.Common.{◌≡◌, ℕ, ◌+◌, ◌<◌, Bool, true, false, cond, List, [], ◌∷◌, ◌++◌, length, map, take, get_or, Option, Some, None, IsSome, MatchOption, refl, sym, ap, subst, ◌∙◌, Bor, inl, inr, ⊎_elim, append_assoc}
use Rattle.std.specs.BTreeMap.{BTreeMap, get}
use Rattle.std.specs.Ordering.{is_eq}
use Rattle.std.proofs.lemmas.List.{map_more, map_push}
use Rattle.std.proofs.lemmas.Option.{MatchOption-at_none, MatchOption-at_some}
use Rattle.p21_express.specs.declared.declarations.AttrDecl.{AttrDecl}
use Rattle.p21_express.specs.declared.declarations.DeriveDecl.{DeriveDecl}
use Rattle.p21_express.specs.Plain.{plain_attribute, plain_derived}
use Rattle.p21_express.specs.Schema.{Attribute, Derived}
use Rattle.p21_express.specs.WellFormed.{IsIn, AreDistinct, with_new, new_explicit, new_derived}
use Rattle.p21_express.specs.Index.{key_cmp}
use Rattle.p21_express.specs.Checks.{Finds, HasNames, HasMet}
use Rattle.p21_express.proofs.ChecksLemmas.{finds_both, finds_same, finds_none, finds_some}
use Rattle.p21_express.proofs.IndexLemmas.{Compared, same, apart, compared, is_in_push, is_in_left, is_in_right}

pub distinct_push : {X : Type 0} (xs : List X) (y : X) → AreDistinct xs → ¬ (IsIn xs y) → AreDistinct (xs ++ y ∷ [])
distinct_push [] y d new = (λ h. h, tt)
distinct_push {X} (x ∷ xs) y d new =
    (λ h. ⊎_elim (λ (k : IsIn xs x). d.0 k) (λ (e : y ≡ x). new (inl (sym e))) (is_in_push xs y x h), distinct_push xs y d.1 (λ h. new (inr h)))

pub distinct_front : {X : Type 0} (xs : List X) (y : X) → AreDistinct (xs ++ y ∷ []) → AreDistinct xs × ¬ (IsIn xs y)
distinct_front [] y d = (tt, λ h. h)
distinct_front {X} (x ∷ xs) y d =
    let more = distinct_front xs y d.1 in
    ((λ h. d.0 (is_in_left xs (y ∷ []) x h), more.0), not_there x xs y d.0 more.1)
  where
    not_there : (x : X) (xs : List X) (y : X) → ¬ (IsIn (xs ++ y ∷ []) x) → ¬ (IsIn xs y) → ¬ (IsIn (x ∷ xs) y)
    not_there x xs y other none (inl e) = other (is_in_right xs (y ∷ []) x (inl (sym e)))
    not_there x xs y other none (inr h) = none h

pub has_none : (places : BTreeMap (Bor (List ℕ)) ℕ) → places.entries ≡ [] → HasNames places []
has_none places e = λ n. rw e (λ h. h)

joined_by : (m : BTreeMap (Bor (List ℕ)) ℕ) (ns : List (List ℕ)) (w q : Bor (List ℕ)) (v : ℕ) (r : Bool) (o : Option ℕ) → Compared w.now q.now r → MatchOption o (¬ (IsIn ns q.now)) (λ place. IsIn ns q.now) → MatchOption (cond r (Some v) o) (¬ (IsIn (ns ++ w.now ∷ []) q.now)) (λ place. IsIn (ns ++ w.now ∷ []) q.now)
joined_by m ns w q v true o (same e) before = is_in_right ns (w.now ∷ []) q.now (inl e)
joined_by m ns w q v false None (apart ne) before = λ h. ⊎_elim (λ (k : IsIn ns q.now). before k) (λ (e : w.now ≡ q.now). ne e) (is_in_push ns w.now q.now h)
joined_by m ns w q v false (Some p) (apart ne) before = is_in_left ns (w.now ∷ []) q.now before

pub names_more : (m n : BTreeMap (Bor (List ℕ)) ℕ) (ns : List (List ℕ)) (w : Bor (List ℕ)) (v : ℕ) → HasNames m ns → ((q : Bor (List ℕ)) → get key_cmp n q ≡ cond (is_eq (key_cmp w q)) (Some v) (get key_cmp m q)) → HasNames n (ns ++ w.now ∷ [])
names_more m n ns w v before updates = λ q. rw (updates q) (joined_by m ns w q v (is_eq (key_cmp w q)) (get key_cmp m q) (compared w.now q.now) (before q))

again_by : (ns : List (List ℕ)) (w q : Bor (List ℕ)) (v : ℕ) (r : Bool) (o : Option ℕ) → Compared w.now q.now r → IsIn ns w.now → MatchOption o (¬ (IsIn ns q.now)) (λ place. IsIn ns q.now) → MatchOption (cond r (Some v) o) (¬ (IsIn ns q.now)) (λ place. IsIn ns q.now)
again_by ns w q v true o (same e) there before = subst (λ k. IsIn ns k) e there
again_by ns w q v false o (apart ne) there before = before

pub names_again : (m n : BTreeMap (Bor (List ℕ)) ℕ) (ns : List (List ℕ)) (w : Bor (List ℕ)) (v : ℕ) → IsIn ns w.now → HasNames m ns → ((q : Bor (List ℕ)) → get key_cmp n q ≡ cond (is_eq (key_cmp w q)) (Some v) (get key_cmp m q)) → HasNames n ns
names_again m n ns w v there before updates = λ q. rw (updates q) (again_by ns w q v (is_eq (key_cmp w q)) (get key_cmp m q) (compared w.now q.now) there (before q))

pushed : {X : Type 0} (before found after : Option X) (ns : List (List ℕ)) (n : List ℕ) → Finds before found (AreDistinct ns) → Finds found after (¬ (IsIn ns n)) → Finds before after (AreDistinct (ns ++ n ∷ []))
pushed before found after ns n f g =
    finds_same (AreDistinct ns × ¬ (IsIn ns n)) (AreDistinct (ns ++ n ∷ [])) before after (λ h. distinct_push ns n h.0 h.1) (distinct_front ns n) (finds_both (AreDistinct ns) (¬ (IsIn ns n)) before found after f g)

-- a name that is new
pub met_new : {X : Type 0} (before found : Option X) (m n : BTreeMap (Bor (List ℕ)) ℕ) (ns : List (List ℕ)) (w : Bor (List ℕ)) (v : ℕ) → get key_cmp m w ≡ None → HasMet before found m ns → ((q : Bor (List ℕ)) → get key_cmp n q ≡ cond (is_eq (key_cmp w q)) (Some v) (get key_cmp m q)) → HasMet before found n (ns ++ w.now ∷ [])
met_new before found m n ns w v none met updates =
    let new : ¬ (IsIn ns w.now) = MatchOption-at_none (¬ (IsIn ns w.now)) (λ place. IsIn ns w.now) none (met.names w) in
    record { names = names_more m n ns w v met.names updates; found = pushed before found found ns w.now met.found (finds_none (¬ (IsIn ns w.now)) found new) }

-- a name that was met before
pub met_again : {X : Type 0} (before found after : Option X) (m n o : BTreeMap (Bor (List ℕ)) ℕ) (ns : List (List ℕ)) (w : Bor (List ℕ)) (p v u : ℕ) → get key_cmp m w ≡ Some p → IsSome after → HasMet before found m ns → ((q : Bor (List ℕ)) → get key_cmp n q ≡ cond (is_eq (key_cmp w q)) (Some v) (get key_cmp m q)) → ((q : Bor (List ℕ)) → get key_cmp o q ≡ cond (is_eq (key_cmp w q)) (Some u) (get key_cmp n q)) → HasMet before after o (ns ++ w.now ∷ [])
met_again before found after m n o ns w p v u there some met first second =
    let old : IsIn ns w.now = MatchOption-at_some (¬ (IsIn ns w.now)) (λ place. IsIn ns w.now) p there (met.names w) in
    record {
      names = names_again n o (ns ++ w.now ∷ []) w u (is_in_right ns (w.now ∷ []) w.now (inl refl)) (names_more m n ns w v met.names first) second;
      found = pushed before found after ns w.now met.found (finds_some (¬ (IsIn ns w.now)) found after (λ k. k old) some);
    }

-- ---- the loops

-- one more name of a list
pub met_more : {X Y : Type 0} (before after : Option Y) (places : BTreeMap (Bor (List ℕ)) ℕ) (name_of : X → List ℕ) (xs : List X) (i : ℕ) (x : X) → i < length xs → x ≡ get_or xs i x → HasMet before after places (map name_of (take i xs) ++ name_of x ∷ []) → HasMet before after places (map name_of (take (i + 1) xs))
met_more {X} before after places name_of xs i x lt is met =
    subst (HasMet before after places) (sym (map_more name_of xs i x lt ∙ ap (λ (z : X). map name_of (take i xs) ++ name_of z ∷ []) (sym is))) met

-- one more declaration, after others
pub declared_more : {X Y Z : Type 0} (before after : Option Y) (places : BTreeMap (Bor (List ℕ)) ℕ) (plain_of : X → Z) (name_of : Z → List ℕ) (front : List (List ℕ)) (xs : List X) (i : ℕ) (x : X) → i < length xs → x ≡ get_or xs i x → HasMet before after places ((front ++ map name_of (map plain_of (take i xs))) ++ name_of (plain_of x) ∷ []) → HasMet before after places (front ++ map name_of (map plain_of (take (i + 1) xs)))
declared_more {X} before after places plain_of name_of front xs i x lt is met =
    let so_far = map plain_of (take i xs) in
    let e : map plain_of (take (i + 1) xs) ≡ so_far ++ plain_of x ∷ [] = map_more plain_of xs i x lt ∙ ap (λ (z : X). so_far ++ plain_of z ∷ []) (sym is) in
    subst (HasMet before after places) (append_assoc front (map name_of so_far) (name_of (plain_of x) ∷ []) ∙ ap (λ ns. front ++ ns) (sym (ap (map name_of) e ∙ map_push name_of so_far (plain_of x)))) met

with_new_append : (of : Option (List ℕ)) (n : List ℕ) (ns ms : List (List ℕ)) → with_new of n (ns ++ ms) ≡ with_new of n ns ++ ms
with_new_append None n ns ms = refl
with_new_append (Some e) n ns ms = refl

new_explicit_push : (xs : List Attribute) (x : Attribute) → new_explicit (xs ++ x ∷ []) ≡ new_explicit xs ++ with_new x.of x.name []
new_explicit_push [] x = refl
new_explicit_push (y ∷ xs) x = ap (with_new y.of y.name) (new_explicit_push xs x) ∙ with_new_append y.of y.name (new_explicit xs) (with_new x.of x.name [])

new_derived_push : (xs : List Derived) (x : Derived) → new_derived (xs ++ x ∷ []) ≡ new_derived xs ++ with_new x.of x.name []
new_derived_push [] x = refl
new_derived_push (y ∷ xs) x = ap (with_new y.of y.name) (new_derived_push xs x) ∙ with_new_append y.of y.name (new_derived xs) (with_new x.of x.name [])

pub explicit_more : {Y : Type 0} (before after : Option Y) (places : BTreeMap (Bor (List ℕ)) ℕ) (xs : List AttrDecl) (i : ℕ) (x : AttrDecl) → i < length xs → x ≡ get_or xs i x → HasMet before after places (new_explicit (map plain_attribute (take i xs)) ++ with_new (plain_attribute x).of (plain_attribute x).name []) → HasMet before after places (new_explicit (map plain_attribute (take (i + 1) xs)))
explicit_more before after places xs i x lt is met =
    let e : map plain_attribute (take (i + 1) xs) ≡ map plain_attribute (take i xs) ++ plain_attribute x ∷ [] = map_more plain_attribute xs i x lt ∙ ap (λ (z : AttrDecl). map plain_attribute (take i xs) ++ plain_attribute z ∷ []) (sym is) in
    subst (HasMet before after places) (sym (ap new_explicit e ∙ new_explicit_push (map plain_attribute (take i xs)) (plain_attribute x))) met

pub derived_more : {Y : Type 0} (before after : Option Y) (places : BTreeMap (Bor (List ℕ)) ℕ) (front : List (List ℕ)) (xs : List DeriveDecl) (i : ℕ) (x : DeriveDecl) → i < length xs → x ≡ get_or xs i x → HasMet before after places ((front ++ new_derived (map plain_derived (take i xs))) ++ with_new (plain_derived x).of (plain_derived x).name []) → HasMet before after places (front ++ new_derived (map plain_derived (take (i + 1) xs)))
derived_more before after places front xs i x lt is met =
    let e : map plain_derived (take (i + 1) xs) ≡ map plain_derived (take i xs) ++ plain_derived x ∷ [] = map_more plain_derived xs i x lt ∙ ap (λ (z : DeriveDecl). map plain_derived (take i xs) ++ plain_derived z ∷ []) (sym is) in
    subst (HasMet before after places) (append_assoc front (new_derived (map plain_derived (take i xs))) (with_new (plain_derived x).of (plain_derived x).name []) ∙ ap (λ ns. front ++ ns) (sym (ap new_derived e ∙ new_derived_push (map plain_derived (take i xs)) (plain_derived x)))) met
