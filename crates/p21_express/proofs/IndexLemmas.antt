-- What each name declares, name by name.
use Rattle.std.proofs.Common.{◌≡◌, ℕ, zero, suc, ◌+◌, ◌<◌, Bool, true, false, cond, List, [], ◌∷◌, ◌++◌, length, map, take, get_or, Option, Some, None, refl, sym, ap, subst, ◌∙◌, Bor, inl, inr, ◌⊎◌, ⊎_elim, arith}
use Rattle.std.specs.Prelude.{slice_get, option_map}
use Rattle.std.specs.BTreeMap.{BTreeMap, get}
use Rattle.std.specs.Ordering.{nat_cmp, is_eq}
use Rattle.std.specs.Cmp.Lexicographic.{slice_cmp}
use Rattle.std.specs.Str.{bytes_eq}
use Rattle.std.proofs.lemmas.List.{map_push, map_more, length-map, length-take}
use Rattle.std.proofs.lemmas.Option.{slice_get-map}
use Rattle.std.proofs.lemmas.Map.Text.{is_eq-slice_cmp}
use Rattle.std.proofs.lemmas.Slice.Eq.{bytes_eq-Decides}
use Rattle.p21_express.specs.declared.checks.names.Declared.{Declared}
use Rattle.p21_express.specs.declared.checks.names.Declared.TheVariants as found
use Rattle.p21_express.specs.declared.declarations.EntityDecl.{EntityDecl}
use Rattle.p21_express.specs.declared.declarations.TypeDecl.{TypeDecl}
use Rattle.p21_express.specs.Plain.{plain_entity, plain_type}
use Rattle.p21_express.specs.Schema.{Schema, Entity, Defined, Underlying, items, select, plain}
use Rattle.p21_express.specs.WellFormed.{IsIn, AreDistinct, declared_names, IsSelectType}
use Rattle.p21_express.specs.Index.{IsEntityAt, IsSelectAt, IsTypeAt, Declares, IsIndex, key_cmp, declared_type}

pub went : (b : Bool) → (b ≡ true) ⊎ (b ≡ false)
went true = inl refl
went false = inr refl

-- two names are one, or the order tells them apart
pub data Compared (a b : List ℕ) : Bool → Type 0 where
  same : a ≡ b → Compared a b true
  apart : ¬ (a ≡ b) → Compared a b false

compared_by : (a b : List ℕ) (r : Bool) → bytes_eq a b ≡ r → Compared a b r
compared_by a b true e = same ((bytes_eq-Decides a b).0 e)
compared_by a b false e = apart (λ k. let t = (bytes_eq-Decides a b).1 k in absurd (let f : true ≡ false = sym t ∙ e in cc))

pub compared : (a b : List ℕ) → Compared a b (is_eq (slice_cmp nat_cmp a b))
compared a b = compared_by a b (is_eq (slice_cmp nat_cmp a b)) (sym (is_eq-slice_cmp a b))

-- ---- one more at the end

pub is_in_push : {X : Type 0} (xs : List X) (y x : X) → IsIn (xs ++ y ∷ []) x → IsIn xs x ⊎ (y ≡ x)
is_in_push [] y x (inl e) = inr e
is_in_push [] y x (inr h) = absurd h
is_in_push (z ∷ xs) y x (inl e) = inl (inl e)
is_in_push {X} (z ∷ xs) y x (inr h) = ⊎_elim (λ (k : IsIn xs x). inl (inr k)) (λ (e : y ≡ x). inr e) (is_in_push xs y x h)

pub slice_get_before : {X : Type 0} (xs : List X) (y : X) (i : ℕ) (x : X) → slice_get xs i ≡ Some x → slice_get (xs ++ y ∷ []) i ≡ Some x
slice_get_before [] y i x e = absurd cc
slice_get_before (z ∷ xs) y zero x e = e
slice_get_before (z ∷ xs) y (suc i) x e = slice_get_before xs y i x e

pub slice_get_pushed : {X : Type 0} (xs : List X) (y : X) → slice_get (xs ++ y ∷ []) (length xs) ≡ Some y
slice_get_pushed [] y = refl
slice_get_pushed (z ∷ xs) y = slice_get_pushed xs y

-- some entities and types, under no name
abbrev pub some_schema : List Entity → List Defined → Schema
some_schema es ts = record { name = []; entities = es; types = ts; distinct = false }

named_before : {X : Type 0} (name_of : X → List ℕ) (xs : List X) (y : X) (n : List ℕ) → ¬ (name_of y ≡ n) → ¬ (IsIn (map name_of xs) n) → ¬ (IsIn (map name_of (xs ++ y ∷ [])) n)
named_before name_of xs y n other none h = ⊎_elim (λ (k : IsIn (map name_of xs) n). none k) (λ (e : name_of y ≡ n). other e) (is_in_push (map name_of xs) (name_of y) n (subst (λ ns. IsIn ns n) (map_push name_of xs y) h))

other_entity : (es : List Entity) (ts : List Defined) (e : Entity) (n : List ℕ) (o : Option Declared) → ¬ (e.name ≡ n) → Declares (some_schema es ts) n o → Declares (some_schema (es ++ e ∷ []) ts) n o
other_entity es ts e n None other d = (named_before (λ (x : Entity). x.name) es e n other d.0, d.1)
other_entity es ts e n (Some (found.Entity i)) other d = record { entity = d.entity; there = slice_get_before es e i d.entity d.there; name_is = d.name_is }
other_entity es ts e n (Some (found.Select i)) other d = record { type = d.type; there = d.there; name_is = d.name_is; selects = d.selects }
other_entity es ts e n (Some (found.Type i)) other d = record { type = d.type; there = d.there; name_is = d.name_is; selects_not = d.selects_not }

other_type : (es : List Entity) (ts : List Defined) (t : Defined) (n : List ℕ) (o : Option Declared) → ¬ (t.name ≡ n) → Declares (some_schema es ts) n o → Declares (some_schema es (ts ++ t ∷ [])) n o
other_type es ts t n None other d = (d.0, named_before (λ (x : Defined). x.name) ts t n other d.1)
other_type es ts t n (Some (found.Entity i)) other d = record { entity = d.entity; there = d.there; name_is = d.name_is }
other_type es ts t n (Some (found.Select i)) other d = record { type = d.type; there = slice_get_before ts t i d.type d.there; name_is = d.name_is; selects = d.selects }
other_type es ts t n (Some (found.Type i)) other d = record { type = d.type; there = slice_get_before ts t i d.type d.there; name_is = d.name_is; selects_not = d.selects_not }

this_type : (es : List Entity) (ts : List Defined) (n : List ℕ) (u : Underlying) → Declares (some_schema es (ts ++ record { name = n; under = u } ∷ [])) n (Some (declared_type u (length ts)))
this_type es ts n (items ns) = record { type = record { name = n; under = items ns }; there = slice_get_pushed ts (record { name = n; under = items ns }); name_is = refl; selects_not = λ h. h }
this_type es ts n (select ns) = record { type = record { name = n; under = select ns }; there = slice_get_pushed ts (record { name = n; under = select ns }); name_is = refl; selects = tt }
this_type es ts n (plain e) = record { type = record { name = n; under = plain e }; there = slice_get_pushed ts (record { name = n; under = plain e }); name_is = refl; selects_not = λ h. h }

-- ---- the map with one name more

updated : (s t : Schema) (m : BTreeMap (Bor (List ℕ)) Declared) (w q : Bor (List ℕ)) (d : Declared) (r : Bool) → Compared w.now q.now r → Declares s q.now (get key_cmp m q) → ((o : Option Declared) → ¬ (w.now ≡ q.now) → Declares s q.now o → Declares t q.now o) → Declares t w.now (Some d) → Declares t q.now (cond r (Some d) (get key_cmp m q))
updated s t m w q d true (same e) before others this = subst (λ n. Declares t n (Some d)) e this
updated s t m w q d false (apart ne) before others this = others (get key_cmp m q) ne before

pub index_entity : (es : List Entity) (ts : List Defined) (e : Entity) (m n : BTreeMap (Bor (List ℕ)) Declared) (w : Bor (List ℕ)) (i : ℕ) → i ≡ length es → w.now ≡ e.name → IsIndex (some_schema es ts) m → ((q : Bor (List ℕ)) → get key_cmp n q ≡ cond (is_eq (key_cmp w q)) (Some (found.Entity i)) (get key_cmp m q)) → IsIndex (some_schema (es ++ e ∷ []) ts) n
index_entity es ts e m n w i at is before updates = λ q.
    rw (updates q)
    (updated (some_schema es ts) (some_schema (es ++ e ∷ []) ts) m w q (found.Entity i) (is_eq (key_cmp w q)) (compared w.now q.now) (before q)
    (λ o ne d. other_entity es ts e q.now o (λ k. ne (is ∙ k)) d)
    (record { entity = e; there = subst (λ k. slice_get (es ++ e ∷ []) k ≡ Some e) (sym at) (slice_get_pushed es e); name_is = sym is }))

pub index_type : (es : List Entity) (ts : List Defined) (t : Defined) (m n : BTreeMap (Bor (List ℕ)) Declared) (w : Bor (List ℕ)) (i : ℕ) → i ≡ length ts → w.now ≡ t.name → IsIndex (some_schema es ts) m → ((q : Bor (List ℕ)) → get key_cmp n q ≡ cond (is_eq (key_cmp w q)) (Some (declared_type t.under i)) (get key_cmp m q)) → IsIndex (some_schema es (ts ++ t ∷ [])) n
index_type es ts t m n w i at is before updates = λ q.
    rw (updates q)
    (updated (some_schema es ts) (some_schema es (ts ++ t ∷ [])) m w q (declared_type t.under i) (is_eq (key_cmp w q)) (compared w.now q.now) (before q)
    (λ o ne d. other_type es ts t q.now o (λ k. ne (is ∙ k)) d)
    (subst (λ k. Declares (some_schema es (ts ++ t ∷ [])) k (Some (declared_type t.under i))) (sym is) (subst (λ k. Declares (some_schema es (ts ++ t ∷ [])) t.name (Some (declared_type t.under k))) (sym at) (this_type es ts t.name t.under))))

length_so_far : {X Y : Type 0} (f : X → Y) (xs : List X) (i : ℕ) → i < length xs → i ≡ length (map f (take i xs))
length_so_far f xs i lt = simp (length-map, length-take) (omega arith)

-- the loops over the entities and the types
pub index_entities : (ds : List EntityDecl) (ts : List Defined) (x : EntityDecl) (m n : BTreeMap (Bor (List ℕ)) Declared) (w : Bor (List ℕ)) (i : ℕ) → i < length ds → x ≡ get_or ds i x → w.now ≡ x.name.items → IsIndex (some_schema (map plain_entity (take i ds)) ts) m → ((q : Bor (List ℕ)) → get key_cmp n q ≡ cond (is_eq (key_cmp w q)) (Some (found.Entity i)) (get key_cmp m q)) → IsIndex (some_schema (map plain_entity (take (i + 1) ds)) ts) n
index_entities ds ts x m n w i lt is name before updates =
    subst (λ es. IsIndex (some_schema es ts) n) (sym (map_more plain_entity ds i x lt ∙ ap (λ (e : EntityDecl). map plain_entity (take i ds) ++ plain_entity e ∷ []) (sym is)))
    (index_entity (map plain_entity (take i ds)) ts (plain_entity x) m n w i (length_so_far plain_entity ds i lt) name before updates)

pub index_types : (ds : List TypeDecl) (es : List Entity) (x : TypeDecl) (m n : BTreeMap (Bor (List ℕ)) Declared) (w : Bor (List ℕ)) (i : ℕ) → i < length ds → x ≡ get_or ds i x → w.now ≡ x.name.items → IsIndex (some_schema es (map plain_type (take i ds))) m → ((q : Bor (List ℕ)) → get key_cmp n q ≡ cond (is_eq (key_cmp w q)) (Some (declared_type (plain_type x).under i)) (get key_cmp m q)) → IsIndex (some_schema es (map plain_type (take (i + 1) ds))) n
index_types ds es x m n w i lt is name before updates =
    subst (λ ts. IsIndex (some_schema es ts) n) (sym (map_more plain_type ds i x lt ∙ ap (λ (t : TypeDecl). map plain_type (take i ds) ++ plain_type t ∷ []) (sym is)))
    (index_type es (map plain_type (take i ds)) (plain_type x) m n w i (length_so_far plain_type ds i lt) name before updates)

-- ---- where no name is declared twice, a name has one answer

pub is_in_at : {X : Type 0} (xs : List X) (i : ℕ) (x : X) → slice_get xs i ≡ Some x → IsIn xs x
is_in_at [] i x e = absurd cc
is_in_at (y ∷ xs) zero x e = inl cc
is_in_at (y ∷ xs) (suc i) x e = inr (is_in_at xs i x e)

pub at_is_in : {X : Type 0} (xs : List X) (x : X) → IsIn xs x → (i : ℕ) × (slice_get xs i ≡ Some x)
at_is_in [] x h = absurd h
at_is_in {X} (y ∷ xs) x (inl e) = (zero, ap (λ (z : X). Some z) e)
at_is_in (y ∷ xs) x (inr h) = let k = at_is_in xs x h in (suc k.0, k.1)

pub is_in_left : {X : Type 0} (xs ys : List X) (x : X) → IsIn xs x → IsIn (xs ++ ys) x
is_in_left [] ys x h = absurd h
is_in_left (y ∷ xs) ys x (inl e) = inl e
is_in_left (y ∷ xs) ys x (inr h) = inr (is_in_left xs ys x h)

pub is_in_right : {X : Type 0} (xs ys : List X) (x : X) → IsIn ys x → IsIn (xs ++ ys) x
is_in_right [] ys x h = h
is_in_right (y ∷ xs) ys x h = inr (is_in_right xs ys x h)

pub distinct_left : {X : Type 0} (xs ys : List X) → AreDistinct (xs ++ ys) → AreDistinct xs
distinct_left [] ys d = tt
distinct_left (x ∷ xs) ys d = (λ h. d.0 (is_in_left xs ys x h), distinct_left xs ys d.1)

pub distinct_right : {X : Type 0} (xs ys : List X) → AreDistinct (xs ++ ys) → AreDistinct ys
distinct_right [] ys d = d
distinct_right (x ∷ xs) ys d = distinct_right xs ys d.1

pub distinct_apart : {X : Type 0} (xs ys : List X) (x : X) → AreDistinct (xs ++ ys) → IsIn xs x → IsIn ys x → ⊥
distinct_apart [] ys x d h k = h
distinct_apart {X} (y ∷ xs) ys x d (inl e) k = d.0 (subst (λ (z : X). IsIn (xs ++ ys) z) (sym e) (is_in_right xs ys x k))
distinct_apart (y ∷ xs) ys x d (inr h) k = distinct_apart xs ys x d.1 h k

-- a list in which all differ has each at one place
pub one_place : {X : Type 0} (xs : List X) (i j : ℕ) (x : X) → AreDistinct xs → slice_get xs i ≡ Some x → slice_get xs j ≡ Some x → i ≡ j
one_place [] i j x d e f = absurd cc
one_place (y ∷ xs) zero zero x d e f = refl
one_place {X} (y ∷ xs) zero (suc j) x d e f = absurd (d.0 (is_in_at xs j y (f ∙ ap (λ (z : X). Some z) (let k : x ≡ y = cc in k))))
one_place {X} (y ∷ xs) (suc i) zero x d e f = absurd (d.0 (is_in_at xs i y (e ∙ ap (λ (z : X). Some z) (let k : x ≡ y = cc in k))))
one_place (y ∷ xs) (suc i) (suc j) x d e f = ap suc (one_place xs i j x d.1 e f)

named_at : {X : Type 0} (name_of : X → List ℕ) (xs : List X) (i : ℕ) (x : X) (n : List ℕ) → slice_get xs i ≡ Some x → name_of x ≡ n → slice_get (map name_of xs) i ≡ Some n
named_at {X} name_of xs i x n e is = slice_get-map name_of xs i ∙ (ap (option_map name_of) e ∙ ap (λ k. Some k) is)

pub entity_named : (s : Schema) (i : ℕ) (n : List ℕ) → IsEntityAt s i n → slice_get (map (λ e. e.name) s.entities) i ≡ Some n
entity_named s i n h = named_at (λ (e : Entity). e.name) s.entities i h.entity n h.there h.name_is

pub select_named : (s : Schema) (i : ℕ) (n : List ℕ) → IsSelectAt s i n → slice_get (map (λ t. t.name) s.types) i ≡ Some n
select_named s i n h = named_at (λ (t : Defined). t.name) s.types i h.type n h.there h.name_is

pub type_named : (s : Schema) (i : ℕ) (n : List ℕ) → IsTypeAt s i n → slice_get (map (λ t. t.name) s.types) i ≡ Some n
type_named s i n h = named_at (λ (t : Defined). t.name) s.types i h.type n h.there h.name_is

pub entity_or_type : (s : Schema) (i j : ℕ) (n : List ℕ) → AreDistinct (declared_names s) → slice_get (map (λ e. e.name) s.entities) i ≡ Some n → slice_get (map (λ t. t.name) s.types) j ≡ Some n → ⊥
entity_or_type s i j n d e t = distinct_apart (map (λ (x : Entity). x.name) s.entities) (map (λ (x : Defined). x.name) s.types) n d (is_in_at (map (λ (x : Entity). x.name) s.entities) i n e) (is_in_at (map (λ (x : Defined). x.name) s.types) j n t)

one_entity : (s : Schema) (i j : ℕ) (n : List ℕ) → AreDistinct (declared_names s) → slice_get (map (λ e. e.name) s.entities) i ≡ Some n → slice_get (map (λ e. e.name) s.entities) j ≡ Some n → i ≡ j
one_entity s i j n d e f = one_place (map (λ (x : Entity). x.name) s.entities) i j n (distinct_left (map (λ (x : Entity). x.name) s.entities) (map (λ (x : Defined). x.name) s.types) d) e f

one_type : (s : Schema) (i j : ℕ) (n : List ℕ) → AreDistinct (declared_names s) → slice_get (map (λ t. t.name) s.types) i ≡ Some n → slice_get (map (λ t. t.name) s.types) j ≡ Some n → i ≡ j
one_type s i j n d e f = one_place (map (λ (x : Defined). x.name) s.types) i j n (distinct_right (map (λ (x : Entity). x.name) s.entities) (map (λ (x : Defined). x.name) s.types) d) e f

pub entity_answer : (s : Schema) (i : ℕ) (n : List ℕ) (o : Option Declared) → AreDistinct (declared_names s) → IsEntityAt s i n → Declares s n o → o ≡ Some (found.Entity i)
entity_answer s i n None d h k = absurd (k.0 (is_in_at (map (λ (x : Entity). x.name) s.entities) i n (entity_named s i n h)))
entity_answer s i n (Some (found.Entity j)) d h k = ap (λ (p : ℕ). Some (found.Entity p)) (one_entity s j i n d (entity_named s j n k) (entity_named s i n h))
entity_answer s i n (Some (found.Select j)) d h k = absurd (entity_or_type s i j n d (entity_named s i n h) (select_named s j n k))
entity_answer s i n (Some (found.Type j)) d h k = absurd (entity_or_type s i j n d (entity_named s i n h) (type_named s j n k))

pub select_or_type : (s : Schema) (i j : ℕ) (n : List ℕ) → AreDistinct (declared_names s) → IsSelectAt s i n → IsTypeAt s j n → ⊥
select_or_type s i j n d h k =
    let e : i ≡ j = one_type s i j n d (select_named s i n h) (type_named s j n k) in
    let same : h.type ≡ k.type = (let a = h.there in let b = k.there in let c : slice_get s.types i ≡ slice_get s.types j = ap (slice_get s.types) e in cc) in
    k.selects_not (subst (λ (t : Defined). IsSelectType t.under) same h.selects)

pub select_answer : (s : Schema) (i : ℕ) (n : List ℕ) (o : Option Declared) → AreDistinct (declared_names s) → IsSelectAt s i n → Declares s n o → o ≡ Some (found.Select i)
select_answer s i n None d h k = absurd (k.1 (is_in_at (map (λ (x : Defined). x.name) s.types) i n (select_named s i n h)))
select_answer s i n (Some (found.Entity j)) d h k = absurd (entity_or_type s j i n d (entity_named s j n k) (select_named s i n h))
select_answer s i n (Some (found.Select j)) d h k = ap (λ (p : ℕ). Some (found.Select p)) (one_type s j i n d (select_named s j n k) (select_named s i n h))
select_answer s i n (Some (found.Type j)) d h k = absurd (select_or_type s i j n d h k)

pub type_answer : (s : Schema) (i : ℕ) (n : List ℕ) (o : Option Declared) → AreDistinct (declared_names s) → IsTypeAt s i n → Declares s n o → o ≡ Some (found.Type i)
type_answer s i n None d h k = absurd (k.1 (is_in_at (map (λ (x : Defined). x.name) s.types) i n (type_named s i n h)))
type_answer s i n (Some (found.Entity j)) d h k = absurd (entity_or_type s j i n d (entity_named s j n k) (type_named s i n h))
type_answer s i n (Some (found.Select j)) d h k = absurd (select_or_type s j i n d k h)
type_answer s i n (Some (found.Type j)) d h k = ap (λ (p : ℕ). Some (found.Type p)) (one_type s j i n d (type_named s j n k) (type_named s i n h))
