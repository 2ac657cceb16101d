-- Rows of attributes.
use Rattle.std.proofs.Common.{◌≡◌, ℕ, zero, suc, ◌+◌, ◌-◌, ◌<◌, ◌≤◌, Bool, true, false, not, cond, ◌||◌, List, [], ◌∷◌, ◌++◌, Option, Some, None, is_some, option_map, length, get_or, take, drop, replicate, map, refl, sym, ap, ◌∙◌, subst, inl, inr, ⊎_elim, arith, append_assoc, add-zero}
use Rattle.std.specs.Prelude.{slice_get}
use Rattle.std.specs.List.{list_any, filter, AllByRecursion}
use Rattle.std.specs.Cmp.Lexicographic.{bytes_decides}
use Rattle.std.specs.Str.{bytes_eq}
use Rattle.std.proofs.lemmas.Bool.{cases_eq, cases_lt, cases_Bool, false≢true, eqb-true, eq-eqb, ne_eqb, and_parts, and_from}
use Rattle.std.proofs.lemmas.List.{map-append, take_more, drop_more, drop_all, append-nil, length-append, length-map, get_or_append_left, get_or-append-add, get_or-map, get_or_push, take-append-drop, replicate-append-replicate, get_or-replicate, get_or_past, length-replicate}
use Rattle.std.proofs.Math.Seq.{get_or-append_seam}
use Rattle.std.proofs.lemmas.Option.{get_or_from_slice_get}
use Rattle.p21_express.specs.Schema.{Schema, Entity, Attribute}
use Rattle.p21_express.specs.WellFormed.{IsIn, AreDistinct, Origin, new_explicit, new_derived, new_names, with_new}
use Rattle.p21_graph.specs.MemberLaws.{in_either, from_map, distinct_left, same_place, place_of, at_place}
use Rattle.p21_schema.specs.declared.ids.AttrId.{AttrId}
use Rattle.p21_schema.specs.declared.ids.EntityId.{EntityId}
use Rattle.p21_schema.specs.Place.{no_entity, entity_at, entity_name, IsEntityOf}
use Rattle.p21_schema.specs.Ancestry.{entity_id, AreNamed}
use Rattle.p21_schema.specs.Row.{own_attributes, attributes_of, no_attribute, attribute_at, IsAttributeOf, same_origin, first_places, IsRow, AreRows, row, none, more}
use Rattle.p21_schema.specs.RowTable.{same_id, kept, all_kept, ids_from, joined, IsOwn, IsOwnTable, IsRowAt}
use Rattle.p21_schema.specs.RowTable.{no_own}
use Rattle.p21_schema.specs.declared.rows.Own.{Own}
use Rattle.p21_schema.proofs.AncestryLemmas.{all_names, name_at}

-- ---- each at its first place

abbrev without : {X : Type 0} → (X → X → Bool) → X → List X → List X
without same y zs = filter (λ z. not (same y z)) zs

module _ (exact : (a b : AttrId) → same_id a b ≡ true → a ≡ b) where
  any_without : (y x : AttrId) (zs : List AttrId) → same_id y x ≡ false → list_any (λ z. same_id z x) (without same_id y zs) ≡ list_any (λ z. same_id z x) zs
  any_without y x [] h = refl
  any_without y x (z ∷ zs) h =
      ⊎_elim
      (λ (t : same_id y z ≡ true).
      let e : same_id z x ≡ false = ap (λ (u : AttrId). same_id u x) (sym (exact y z t)) ∙ h in
      rw (t, e) (any_without y x zs h))
      (λ (f : same_id y z ≡ false). rw f (ap (λ (b : Bool). same_id z x || b) (any_without y x zs h)))
      (cases_Bool (same_id y z))

  without_push : (y x : AttrId) (zs : List AttrId) → without same_id y (zs ++ x ∷ []) ≡ without same_id y zs ++ cond (not (same_id y x)) (x ∷ []) []
  without_push y x [] = refl
  without_push y x (z ∷ zs) =
      ⊎_elim
      (λ (t : same_id y z ≡ true). rw t (without_push y x zs))
      (λ (f : same_id y z ≡ false). rw f (ap (λ (u : List AttrId). z ∷ u) (without_push y x zs)))
      (cases_Bool (same_id y z))

  first_push : (xs : List AttrId) (x : AttrId) → first_places same_id (xs ++ x ∷ []) ≡ kept (first_places same_id xs) x
  first_push [] x = refl
  first_push (y ∷ ys) x =
      let ps = first_places same_id ys in
      let start : first_places same_id ((y ∷ ys) ++ x ∷ []) ≡ y ∷ without same_id y (kept ps x) = ap (λ (u : List AttrId). y ∷ without same_id y u) (first_push ys x) in
      start ∙ ⊎_elim
      (λ (t : same_id y x ≡ true).
      ⊎_elim
      (λ (in' : list_any (λ z. same_id z x) ps ≡ true). rw (in', t) refl)
      (λ (out : list_any (λ z. same_id z x) ps ≡ false). rw (out, t) (ap (λ (u : List AttrId). y ∷ u) (without_push y x ps ∙ rw t (append-nil (without same_id y ps)))))
      (cases_Bool (list_any (λ z. same_id z x) ps)))
      (λ (f : same_id y x ≡ false).
      let w = any_without y x ps f in
      ⊎_elim
      (λ (in' : list_any (λ z. same_id z x) ps ≡ true). rw (in', f, w ∙ in') refl)
      (λ (out : list_any (λ z. same_id z x) ps ≡ false). rw (out, f, w ∙ out) (ap (λ (u : List AttrId). y ∷ u) (without_push y x ps ∙ rw f refl)))
      (cases_Bool (list_any (λ z. same_id z x) ps)))
      (cases_Bool (same_id y x))

-- the kept ones are each at its first place
pub kept_is_first : (exact : (a b : AttrId) → same_id a b ≡ true → a ≡ b) (before xs : List AttrId) → all_kept (first_places same_id before) xs ≡ first_places same_id (before ++ xs)
kept_is_first exact before [] = ap (λ (u : List AttrId). first_places same_id u) (sym (append-nil before))
kept_is_first exact before (x ∷ xs) =
    ap (λ (u : List AttrId). all_kept u xs) (sym (first_push exact before x)) ∙ kept_is_first exact (before ++ x ∷ []) xs ∙ ap (λ (u : List AttrId). first_places same_id u) (append_assoc before (x ∷ []) xs)

pub exact_id : (a b : AttrId) → same_id a b ≡ true → a ≡ b
exact_id a b h = let e = eqb-true a.index b.index h in λ j. record { index = e j }

in_without : {X : Type 0} (p : X → Bool) (xs : List X) (x : X) → IsIn (filter p xs) x → IsIn xs x
in_without p [] x h = h
in_without p (y ∷ ys) x h =
    ⊎_elim
    (λ (t : p y ≡ true). ⊎_elim (λ (e : y ≡ x). inl e) (λ (i : IsIn (filter p ys) x). inr (in_without p ys x i)) (rw t at h))
    (λ (f : p y ≡ false). inr (in_without p ys x (rw f at h)))
    (cases_Bool (p y))

pub in_first : {X : Type 0} (same : X → X → Bool) (xs : List X) (x : X) → IsIn (first_places same xs) x → IsIn xs x
in_first same [] x h = h
in_first same (y ∷ ys) x (inl e) = inl e
in_first same (y ∷ ys) x (inr h) = inr (in_first same ys x (in_without (λ z. not (same y z)) (first_places same ys) x h))

-- first places, where ids stand for attributes
module _ {X Y : Type 0} (f : X → Y) (same : X → X → Bool) (other : Y → Y → Bool) (P : X → Type 0) (agree : (a b : X) → P a → P b → other (f a) (f b) ≡ same a b) where
  without_map : (y : X) (zs : List X) → P y → ((z : X) → IsIn zs z → P z) → map f (filter (λ z. not (same y z)) zs) ≡ filter (λ z. not (other (f y) z)) (map f zs)
  without_map y [] py all = refl
  without_map y (z ∷ zs) py all =
      let e = agree y z py (all z (inl refl)) in
      let ih = without_map y zs py (λ w i. all w (inr i)) in
      ⊎_elim (λ (t : same y z ≡ true). rw (t, e ∙ t) ih) (λ (n : same y z ≡ false). rw (n, e ∙ n) (ap (λ (u : List Y). f z ∷ u) ih)) (cases_Bool (same y z))

  pub first_map : (xs : List X) → ((x : X) → IsIn xs x → P x) → map f (first_places same xs) ≡ first_places other (map f xs)
  first_map [] all = refl
  first_map (x ∷ xs) all =
      let ih = first_map xs (λ w i. all w (inr i)) in
      ap (λ (u : List Y). f x ∷ u) (without_map x (first_places same xs) (all x (inl refl)) (λ z i. all z (inr (in_first same xs z i))) ∙ ap (λ (u : List Y). filter (λ z. not (other (f x) z)) u) ih)

-- a list of one element over and over, read by it
pub all_alike : {X : Type 0} (n i : ℕ) (x : X) → get_or (replicate n x) i x ≡ x
all_alike n i x = ⊎_elim
    (λ (l : i < n). get_or-replicate n i x x l)
    (λ (h : n ≤ i). get_or_past (replicate n x) i x (subst (λ u. u ≤ i) (sym (length-replicate n x)) h))
    (cases_lt i n)

-- ---- own attributes

pub with_new_append : (o : Option (List ℕ)) (n : List ℕ) (xs ys : List (List ℕ)) → with_new o n (xs ++ ys) ≡ with_new o n xs ++ ys
with_new_append None n xs ys = refl
with_new_append (Some e) n xs ys = refl

pub new_append : (xs ys : List Attribute) → new_explicit (xs ++ ys) ≡ new_explicit xs ++ new_explicit ys
new_append [] ys = refl
new_append (a ∷ others) ys = ap (λ (u : List (List ℕ)). with_new a.of a.name u) (new_append others ys) ∙ with_new_append a.of a.name (new_explicit others) (new_explicit ys)

-- the names that the attributes up to one more newly declare
pub new_at : (xs : List Attribute) (i : ℕ) (d : Attribute) → i < length xs → new_explicit (take (i + 1) xs) ≡ new_explicit (take i xs) ++ with_new (get_or xs i d).of (get_or xs i d).name []
new_at xs i d less = ap new_explicit (take_more xs i d less) ∙ new_append (take i xs) (get_or xs i d ∷ [])

pub new_more : (xs : List Attribute) (i : ℕ) (d : Attribute) → i < length xs → (get_or xs i d).of ≡ None → new_explicit (take (i + 1) xs) ≡ new_explicit (take i xs) ++ (get_or xs i d).name ∷ []
new_more xs i d less e = new_at xs i d less ∙ ap (λ (o : Option (List ℕ)). new_explicit (take i xs) ++ with_new o (get_or xs i d).name []) e

pub new_same : (xs : List Attribute) (i : ℕ) (d : Attribute) (o : List ℕ) → i < length xs → (get_or xs i d).of ≡ Some o → new_explicit (take (i + 1) xs) ≡ new_explicit (take i xs)
new_same xs i d o less e = new_at xs i d less ∙ ap (λ (o : Option (List ℕ)). new_explicit (take i xs) ++ with_new o (get_or xs i d).name []) e ∙ append-nil (new_explicit (take i xs))

empty_push : {X : Type 0} (n : ℕ) (x : X) → replicate n x ++ x ∷ [] ≡ replicate (n + 1) x
empty_push n x = replicate-append-replicate n 1 x

-- an empty list for each of them
pub lists_more : {X : Type 0} (xs : List Attribute) (i : ℕ) (d : Attribute) (old now : List (List X)) → i < length xs → now ≡ old ++ replicate (length (new_explicit (take i xs))) [] → (get_or xs i d).of ≡ None → now ++ [] ∷ [] ≡ old ++ replicate (length (new_explicit (take (i + 1) xs))) []
lists_more {X} xs i d old now less h e =
    let n = length (new_explicit (take i xs)) in
    let long : length (new_explicit (take (i + 1) xs)) ≡ n + 1 = ap length (new_more xs i d less e) ∙ length-append (new_explicit (take i xs)) ((get_or xs i d).name ∷ []) in
    ap (λ (u : List (List X)). u ++ [] ∷ []) h ∙ append_assoc old (replicate n []) ([] ∷ []) ∙ ap (λ (u : List (List X)). old ++ u) (empty_push n [] ∙ ap (λ (u : ℕ). replicate u []) (sym long))

pub lists_same : {X : Type 0} (xs : List Attribute) (i : ℕ) (d : Attribute) (o : List ℕ) (old now : List (List X)) → i < length xs → now ≡ old ++ replicate (length (new_explicit (take i xs))) [] → (get_or xs i d).of ≡ Some o → now ≡ old ++ replicate (length (new_explicit (take (i + 1) xs))) []
lists_same {X} xs i d o old now less h e = h ∙ ap (λ (u : List (List ℕ)). old ++ replicate (length u) []) (sym (new_same xs i d o less e))

-- the place of a new name among all
pub new_place : (xs : List Attribute) (i : ℕ) (d : Attribute) → i < length xs → (get_or xs i d).of ≡ None → (length (new_explicit (take i xs)) < length (new_explicit xs)) × (get_or (new_explicit xs) (length (new_explicit (take i xs))) [] ≡ (get_or xs i d).name)
new_place xs i d less e =
    let front = new_explicit (take i xs) in
    let rest = new_explicit (drop (i + 1) xs) in
    let n = (get_or xs i d).name in
    let whole : new_explicit xs ≡ front ++ n ∷ rest = ap new_explicit (sym (take-append-drop (i + 1) xs)) ∙ new_append (take (i + 1) xs) (drop (i + 1) xs) ∙ ap (λ (u : List (List ℕ)). u ++ rest) (new_more xs i d less e) ∙ append_assoc front (n ∷ []) rest in
    let long : length (new_explicit xs) ≡ length front + length (n ∷ rest) = ap length whole ∙ length-append front (n ∷ rest) in
    (omega (arith, long), ap (λ (u : List (List ℕ)). get_or u (length front) []) whole ∙ get_or-append_seam front n rest [])

-- the attributes of the entities up to one more
attributes_append : (xs ys : List Entity) → attributes_of (xs ++ ys) ≡ attributes_of xs ++ attributes_of ys
attributes_append [] ys = refl
attributes_append (e ∷ es) ys = ap (λ (u : List Origin). own_attributes e ++ u) (attributes_append es ys) ∙ sym (append_assoc (own_attributes e) (attributes_of es) (attributes_of ys))

pub attributes_more : (es : List Entity) (i : ℕ) → i < length es → length (attributes_of (take (i + 1) es)) ≡ length (attributes_of (take i es)) + length (own_attributes (get_or es i no_entity))
attributes_more es i less =
    ap (λ (u : List Entity). length (attributes_of u)) (take_more es i no_entity less) ∙ ap length (attributes_append (take i es) (get_or es i no_entity ∷ [])) ∙ length-append (attributes_of (take i es)) (own_attributes (get_or es i no_entity) ++ []) ∙ ap (λ (u : List Origin). length (attributes_of (take i es)) + length u) (append-nil (own_attributes (get_or es i no_entity)))

-- an own attribute among all
pub own_at : (es : List Entity) (i k : ℕ) (d : Origin) → i < length es → k < length (own_attributes (get_or es i no_entity)) → get_or (attributes_of es) (length (attributes_of (take i es)) + k) d ≡ get_or (own_attributes (get_or es i no_entity)) k d
own_at [] i k d less h = absurd (omega arith)
own_at (e ∷ es) zero k d less h = let z : 0 + k ≡ k = omega arith in ap (λ (u : ℕ). get_or (own_attributes e ++ attributes_of es) u d) z ∙ get_or_append_left (own_attributes e) (attributes_of es) d k h
own_at (e ∷ es) (suc i) k d less h =
    let n : length (own_attributes e ++ attributes_of (take i es)) + k ≡ length (own_attributes e) + (length (attributes_of (take i es)) + k) = omega (arith, length-append (own_attributes e) (attributes_of (take i es))) in
    ap (λ (u : ℕ). get_or (own_attributes e ++ attributes_of es) u d) n ∙ get_or-append-add (own_attributes e) (attributes_of es) (length (attributes_of (take i es)) + k) d ∙ own_at es i k d (omega arith) h

pub attributes_le : (es : List Entity) (i : ℕ) → i < length es → length (attributes_of (take i es)) + length (own_attributes (get_or es i no_entity)) ≤ length (attributes_of es)
attributes_le [] i less = absurd (omega arith)
attributes_le (e ∷ es) zero less = omega (arith, length-append (own_attributes e) (attributes_of es))
attributes_le (e ∷ es) (suc i) less =
    let ih = attributes_le es i (omega arith) in
    omega (arith, ih, length-append (own_attributes e) (attributes_of (take i es)), length-append (own_attributes e) (attributes_of es))

pub own_below : (es : List Entity) (i k : ℕ) → i < length es → k < length (own_attributes (get_or es i no_entity)) → length (attributes_of (take i es)) + k < length (attributes_of es)
own_below [] i k less h = absurd (omega arith)
own_below (e ∷ es) zero k less h = omega (arith, length-append (own_attributes e) (attributes_of es))
own_below (e ∷ es) (suc i) k less h =
    let ih = own_below es i k (omega arith) h in
    omega (arith, ih, length-append (own_attributes e) (attributes_of (take i es)), length-append (own_attributes e) (attributes_of es))

-- the own attributes of an entity stand upwards, and not after the last of all
pub own_upward : (s : Schema) (own : List Own) → IsOwnTable s own → (v : ℕ) → v < length own → (get_or own v no_own).from ≤ (get_or own v no_own).to
own_upward s own t v less = let is = (t.rows v (subst (λ u. v < u) t.count less)).count in omega (arith, is)

pub own_within : (s : Schema) (own : List Own) → IsOwnTable s own → (v : ℕ) → v < length own → (get_or own v no_own).to ≤ length (attributes_of s.entities)
own_within s own t v less =
    let at : v < length s.entities = subst (λ u. v < u) t.count less in
    let is = t.rows v at in
    let from = is.from in
    let count = is.count in
    let upto = attributes_le s.entities v at in
    omega (arith, from, count, upto)

-- ---- no attribute twice

module _ {X : Type 0} where
  distinct_join : (xs ys : List X) → AreDistinct xs → AreDistinct ys → ((x : X) → IsIn xs x → ¬ (IsIn ys x)) → AreDistinct (xs ++ ys)
  distinct_join [] ys a b apart = b
  distinct_join (x ∷ xs) ys a b apart = (λ i. ⊎_elim (λ (l : IsIn xs x). a.0 l) (λ (r : IsIn ys x). apart x (inl refl) r) (in_either xs ys x i), distinct_join xs ys a.1 b (λ z i. apart z (inr i)))

own_distinct : (e : List ℕ) (ns : List (List ℕ)) → AreDistinct ns → AreDistinct (map (λ n. let o : Origin = record { entity = e; name = n } in o) ns)
own_distinct e [] h = tt
own_distinct e (n ∷ ns) h = (λ i. let f = from_map (λ m. let o : Origin = record { entity = e; name = m } in o) ns (record { entity = e; name = n }) i in h.0 (subst (λ u. IsIn ns u) (ap (λ (o : Origin). o.name) f.1.1) f.1.0), own_distinct e ns h.1)

pub own_entity : (e : Entity) (o : Origin) → IsIn (own_attributes e) o → o.entity ≡ e.name
own_entity e o i = let f = from_map (λ n. let o : Origin = record { entity = e.name; name = n } in o) (new_explicit e.attributes) o i in sym (ap (λ (o : Origin). o.entity) f.1.1)

any_entity : (es : List Entity) (o : Origin) → IsIn (attributes_of es) o → IsIn (map (λ (e : Entity). e.name) es) o.entity
any_entity [] o i = absurd i
any_entity (e ∷ es) o i = ⊎_elim (λ (l : IsIn (own_attributes e) o). inl (sym (own_entity e o l))) (λ (r : IsIn (attributes_of es) o). inr (any_entity es o r)) (in_either (own_attributes e) (attributes_of es) o i)

pub attributes_distinct : (es : List Entity) → AreDistinct (map (λ (e : Entity). e.name) es) → AllByRecursion (λ (e : Entity). AreDistinct (new_names e)) es → AreDistinct (attributes_of es)
attributes_distinct [] names own = tt
attributes_distinct (e ∷ es) names own =
    distinct_join (own_attributes e) (attributes_of es) (own_distinct e.name (new_explicit e.attributes) (distinct_left (new_explicit e.attributes) (new_derived e.derived) own.0)) (attributes_distinct es names.1 own.1)
    (λ o i j. names.0 (subst (λ u. IsIn (map (λ (e : Entity). e.name) es) u) (own_entity e o i) (any_entity es o j)))

pub origin_tells : (a b : Origin) → (same_origin a b ≡ true → a ≡ b) × (a ≡ b → same_origin a b ≡ true)
origin_tells a b = (
  λ t. let p = and_parts (bytes_eq a.entity b.entity) (bytes_eq a.name b.name) t in
      let e = (bytes_decides a.entity b.entity).0 p.0 in
      let n = (bytes_decides a.name b.name).0 p.1 in
      λ j. record { entity = e j; name = n j },
  λ e. and_from (bytes_eq a.entity b.entity) (bytes_eq a.name b.name) ((bytes_decides a.entity b.entity).1 (ap (λ (o : Origin). o.entity) e)) ((bytes_decides a.name b.name).1 (ap (λ (o : Origin). o.name) e)),
)

pub same_attribute : (s : Schema) → AreDistinct (attributes_of s.entities) → (a b : AttrId) → IsAttributeOf s a → IsAttributeOf s b → same_origin (attribute_at s a) (attribute_at s b) ≡ same_id a b
same_attribute s distinct a b la lb =
    let t = origin_tells (attribute_at s a) (attribute_at s b) in
    ⊎_elim
    (λ (e : a.index ≡ b.index). t.1 (ap (λ (u : ℕ). get_or (attributes_of s.entities) u no_attribute) e) ∙ sym (eq-eqb a.index b.index e))
    (λ (n : (a.index ≡ b.index) → ⊥). ⊎_elim
    (λ (y : same_origin (attribute_at s a) (attribute_at s b) ≡ true). absurd (n (same_place (attributes_of s.entities) a.index b.index no_attribute distinct la lb (t.0 y))))
    (λ (f : same_origin (attribute_at s a) (attribute_at s b) ≡ false). f ∙ sym (ne_eqb a.index b.index n))
    (cases_Bool (same_origin (attribute_at s a) (attribute_at s b))))
    (cases_eq a.index b.index)

-- ---- the row of an entity by the rows of its supertypes

own_ids : (s : Schema) (i : ℕ) → i < length s.entities → (k n : ℕ) (o : List Origin) → k + n ≡ length (own_attributes (get_or s.entities i no_entity)) → o ≡ drop k (own_attributes (get_or s.entities i no_entity)) → map (attribute_at s) (ids_from (length (attributes_of (take i s.entities)) + k) n) ≡ o
own_ids s i less k zero o h e = sym (e ∙ drop_all k (own_attributes (get_or s.entities i no_entity)) (omega arith))
own_ids s i less k (suc n) o h e =
    let own = own_attributes (get_or s.entities i no_entity) in
    let base = length (attributes_of (take i s.entities)) in
    let below : k < length own = omega arith in
    let first : attribute_at s (record { index = base + k }) ≡ get_or own k no_attribute = own_at s.entities i k no_attribute less below in
    let next : suc (base + k) ≡ base + (k + 1) = omega arith in
    let rest = own_ids s i less (k + 1) n (drop (k + 1) own) (omega arith) refl in
    (λ j. first j ∷ (ap (λ (u : ℕ). map (attribute_at s) (ids_from u n)) next ∙ rest) j) ∙ sym (drop_more own k no_attribute below) ∙ sym e

pub own_is : (s : Schema) (i : ℕ) → i < length s.entities → map (attribute_at s) (ids_from (length (attributes_of (take i s.entities))) (length (own_attributes (get_or s.entities i no_entity)))) ≡ own_attributes (get_or s.entities i no_entity)
own_is s i less =
    let own = own_attributes (get_or s.entities i no_entity) in
    let base = length (attributes_of (take i s.entities)) in
    ap (λ (u : ℕ). map (attribute_at s) (ids_from u (length own))) (sym (add-zero base)) ∙ own_ids s i less 0 (length own) own (omega arith) refl

pub ids_below : (i n m : ℕ) → i + n ≤ m → (a : AttrId) → IsIn (ids_from i n) a → a.index < m
ids_below i zero m h a in' = absurd in'
ids_below i (suc n) m h a (inl e) = let f : i ≡ a.index = ap (λ (u : AttrId). u.index) e in omega (arith, f)
ids_below i (suc n) m h a (inr r) = ids_below (suc i) n m (omega arith) a r

pub rows_joined : (s : Schema) (table : ℕ → List AttrId) (es : List ℕ) → ((e : ℕ) → IsIn es e → IsRowAt s e (table e)) → AreRows s (map (λ i. entity_name s (entity_id i)) es) (map (attribute_at s) (joined table es))
rows_joined s table [] h = none refl
rows_joined s table (e ∷ es) h =
    let all = joined table es in
    more (h e (inl refl)).is (rows_joined s table es (λ x i. h x (inr i))) (map-append (attribute_at s) (table e) all)

joined_known : (s : Schema) (table : ℕ → List AttrId) (es : List ℕ) → ((e : ℕ) → IsIn es e → IsRowAt s e (table e)) → (a : AttrId) → IsIn (joined table es) a → IsAttributeOf s a
joined_known s table [] h a i = absurd i
joined_known s table (e ∷ es) h a i = ⊎_elim (λ (l : IsIn (table e) a). (h e (inl refl)).known a l) (λ (r : IsIn (joined table es) a). joined_known s table es (λ x j. h x (inr j)) a r) (in_either (table e) (joined table es) a i)

names_map : (s : Schema) (es : List ℕ) → map (λ i. entity_name s (entity_id i)) es ≡ map (λ i. get_or (all_names s) i []) es
names_map s [] = refl
names_map s (i ∷ is) = let first = name_at s i in let rest = names_map s is in λ j. sym first j ∷ rest j

pub row_at : (s : Schema) (i : ℕ) (table : ℕ → List AttrId) (sups : List ℕ) (own : Own) (ids : List AttrId) → AreDistinct (attributes_of s.entities) → i < length s.entities → IsOwn s i own → AreNamed (all_names s) sups (get_or s.entities i no_entity).supertypes
    → ((e : ℕ) → IsIn sups e → IsRowAt s e (table e)) → ids ≡ all_kept [] (joined table sups ++ ids_from own.from (own.to - own.from)) → IsRowAt s i ids
row_at s i table sups own ids distinct less is named rows e =
    let entity = get_or s.entities i no_entity in
    let n : own.to - own.from ≡ length (own_attributes entity) = omega (arith, is.count) in
    let before = joined table sups ++ ids_from own.from (own.to - own.from) in
    let first : ids ≡ first_places same_id before = e ∙ kept_is_first exact_id [] before in
    let known : (a : AttrId) → IsIn before a → IsAttributeOf s a =
    λ a j. ⊎_elim
    (λ (l : IsIn (joined table sups) a). joined_known s table sups rows a l)
    (λ (r : IsIn (ids_from own.from (own.to - own.from)) a). ids_below own.from (own.to - own.from) (length (attributes_of s.entities)) (own_end s i own less is) a r)
    (in_either (joined table sups) (ids_from own.from (own.to - own.from)) a j) in
    let owns : map (attribute_at s) (ids_from own.from (own.to - own.from)) ≡ own_attributes entity = (λ j. map (attribute_at s) (ids_from (is.from j) (n j))) ∙ own_is s i less in
    record {
      is = row entity (at_place s.entities i no_entity less) refl (subst (λ (u : List (List ℕ)). AreRows s u (map (attribute_at s) (joined table sups))) (names_map s sups ∙ named.named) (rows_joined s table sups rows))
          (ap (λ (u : List AttrId). map (attribute_at s) u) first ∙ first_map (attribute_at s) same_id same_origin (IsAttributeOf s) (same_attribute s distinct) before known
          ∙ ap (λ (u : List Origin). first_places same_origin u) (map-append (attribute_at s) (joined table sups) (ids_from own.from (own.to - own.from)) ∙ ap (λ (u : List Origin). map (attribute_at s) (joined table sups) ++ u) owns));
      known = λ a j. known a (in_first same_id before a (subst (λ (u : List AttrId). IsIn u a) first j));
    }
  where
    own_end : (s : Schema) (i : ℕ) (own : Own) → i < length s.entities → IsOwn s i own → own.from + (own.to - own.from) ≤ length (attributes_of s.entities)
    own_end s i own less is = let m = attributes_le s.entities i less in omega (arith, m, is.count, is.from)

-- ---- what the code knows of them

pub is_new : {X Y : Type 0} (f : X → Y) (o : Option X) (b : Bool) → is_some o ≡ not b → b ≡ true → option_map f o ≡ None
is_new f None b e h = refl
is_new f (Some x) b e h = absurd (false≢true (sym (e ∙ ap not h)))

pub is_again : {X Y : Type 0} (f : X → Y) (o : Option X) (b : Bool) → is_some o ≡ not b → b ≡ false → (y : Y) × (option_map f o ≡ Some y)
is_again f None b e h = absurd (false≢true (e ∙ ap not h))
is_again f (Some x) b e h = (f x, refl)

pub own_push : (s : Schema) (table : List Own) (own : Own) (k : ℕ) → length table ≡ k → ((i : ℕ) → i < k → IsOwn s i (get_or table i no_own)) → IsOwn s k own → (i : ℕ) → i < k + 1 → IsOwn s i (get_or (table ++ own ∷ []) i no_own)
own_push s table own k long rows this i less =
    ⊎_elim
    (λ (e : i ≡ k). rw (e, get_or_push table own no_own k long) this)
    (λ (ne : (i ≡ k) → ⊥). let before : i < k = omega arith in rw (get_or_append_left table (own ∷ []) no_own i (omega arith)) (rows i before))
    (cases_eq i k)

entity_is : (s : Schema) → AreDistinct (map (λ (e : Entity). e.name) s.entities) → (e f : Entity) → IsIn s.entities e → IsIn s.entities f → e.name ≡ f.name → e ≡ f
entity_is s distinct e f i j h =
    let p = place_of s.entities e i in
    let q = place_of s.entities f j in
    let name : Entity → List ℕ = λ x. x.name in
    let le : p.0 < length (map name s.entities) = rw (length-map s.entities name) p.1.0 in
    let lf : q.0 < length (map name s.entities) = rw (length-map s.entities name) q.1.0 in
    let same : p.0 ≡ q.0 = same_place (map name s.entities) p.0 q.0 [] distinct le lf (get_or-map name s.entities p.0 no_entity [] p.1.0 ∙ ap name (p.1.1 no_entity) ∙ h ∙ sym (ap name (q.1.1 no_entity)) ∙ sym (get_or-map name s.entities q.0 no_entity [] q.1.0)) in
    sym (p.1.1 no_entity) ∙ ap (λ (u : ℕ). get_or s.entities u no_entity) same ∙ q.1.1 no_entity

heads : {n m : List ℕ} {ns ms : List (List ℕ)} → n ∷ ns ≡ m ∷ ms → n ≡ m
heads e = cc

tails : {n m : List ℕ} {ns ms : List (List ℕ)} → n ∷ ns ≡ m ∷ ms → ns ≡ ms
tails e = cc

-- an entity has one row
mutual
  pub one_row : (s : Schema) → AreDistinct (map (λ (e : Entity). e.name) s.entities) → {n : List ℕ} {a b : List Origin} → IsRow s n a → IsRow s n b → a ≡ b
  one_row s distinct (row {above = above} e i m rows h) (row {above = other} f j k others l) =
      let same : e ≡ f = entity_is s distinct e f i j (m ∙ sym k) in
      let up : above ≡ other = one_rows s distinct rows others (ap (λ (x : Entity). x.supertypes) same) in
      h ∙ (λ t. first_places same_origin (up t ++ own_attributes (same t))) ∙ sym l

  one_rows : (s : Schema) → AreDistinct (map (λ (e : Entity). e.name) s.entities) → {ns ms : List (List ℕ)} {a b : List Origin} → AreRows s ns a → AreRows s ms b → ns ≡ ms → a ≡ b
  one_rows s distinct (none h) (none l) e = h ∙ sym l
  one_rows s distinct (none h) (more x y l) e = absurd cc
  one_rows s distinct (more x y h) (none l) e = absurd cc
  one_rows s distinct (more {one = p} {rest = q} x y h) (more {n = m} {one = u} {rest = v} z w l) e =
      let first : p ≡ u = one_row s distinct x (subst (λ (k : List ℕ). IsRow s k u) (sym (heads e)) z) in
      let rest : q ≡ v = one_rows s distinct y w (tails e) in
      h ∙ (λ t. first t ++ rest t) ∙ sym l

-- ---- what a table tells

slice_at : {X : Type 0} (xs : List X) (k : ℕ) (d : X) → k < length xs → slice_get xs k ≡ Some (get_or xs k d)
slice_at [] k d h = absurd (omega arith)
slice_at (x ∷ xs) zero d h = refl
slice_at (x ∷ xs) (suc k) d h = slice_at xs k d (omega arith)

-- the row of an entity, as ids
module _ (s : Schema) (distinct : AreDistinct (map (λ (e : Entity). e.name) s.entities)) (e : EntityId) (ids : List AttrId) (h : IsRowAt s e.index ids) where
  pub row_length : (all : List Origin) × (IsRow s (entity_name s e) all × (length all ≡ length ids))
  row_length = (map (attribute_at s) ids, (h.is, length-map ids (attribute_at s)))

  pub row_within : (k : ℕ) → (all : List Origin) × (IsRow s (entity_name s e) all × (k < length all)) → k < length ids
  row_within k r =
      let same : r.0 ≡ map (attribute_at s) ids = one_row s distinct r.1.0 h.is in
      subst (λ u. k < u) (ap (λ (u : List Origin). length u) same ∙ length-map ids (attribute_at s)) r.1.1

  pub row_known : (k : ℕ) (a : AttrId) → k < length ids → slice_get ids k ≡ Some a → IsAttributeOf s a
  row_known k a less is = h.known a (subst (λ u. IsIn ids u) (get_or_from_slice_get ids k a a is) (at_place ids k a less))

  pub row_item : (k : ℕ) (a : AttrId) → k < length ids → slice_get ids k ≡ Some a → (all : List Origin) → IsRow s (entity_name s e) all → slice_get all k ≡ Some (attribute_at s a)
  row_item k a less is all r =
      let same : all ≡ map (attribute_at s) ids = one_row s distinct r h.is in
      let less' : k < length (map (attribute_at s) ids) = rw (length-map ids (attribute_at s)) less in
      ap (λ (u : List Origin). slice_get u k) same ∙ slice_at (map (attribute_at s) ids) k no_attribute less' ∙ ap (λ (u : Origin). Some u) (get_or-map (attribute_at s) ids k a no_attribute less ∙ ap (attribute_at s) (get_or_from_slice_get ids k a a is))

module _ (s : Schema) (table : List Own) (e : EntityId) (own : Own) (t : IsOwnTable s table) (l : IsEntityOf s e) (is : get_or table e.index no_own ≡ own) where
  own_of : IsOwn s e.index own
  own_of = subst (λ (u : Own). IsOwn s e.index u) is (t.rows e.index l)

  pub own_known : (i k : ℕ) → k < length (own_attributes (entity_at s e)) → i ≡ own.from + k → IsAttributeOf s (record { index = i })
  own_known i k less at = subst (λ u. u < length (attributes_of s.entities)) (ap (λ (u : ℕ). u + k) (sym own_of.from) ∙ sym at) (own_below s.entities e.index k l less)

  pub own_item : (i k : ℕ) → k < length (own_attributes (entity_at s e)) → i ≡ own.from + k → slice_get (own_attributes (entity_at s e)) k ≡ Some (attribute_at s (record { index = i }))
  own_item i k less at =
      slice_at (own_attributes (entity_at s e)) k no_attribute less ∙ ap (λ (u : Origin). Some u) (sym (ap (λ (u : ℕ). get_or (attributes_of s.entities) u no_attribute) (at ∙ ap (λ (u : ℕ). u + k) own_of.from) ∙ own_at s.entities e.index k no_attribute l less))
