-- The keys of the attributes of a record differ.
use Rattle.std.proofs.Common.{◌≡◌, ◌⊎◌, ◌≤◌, ℕ, zero, suc, Bool, true, false, List, [], ◌∷◌, ◌++◌, Some, map, refl, sym, ap, subst, ◌∙◌, inl, inr, ⊎_elim, arith}
use Rattle.std.specs.Prelude.{◌||◌, if◌then◌else◌, not, slice_get, take}
use Rattle.std.specs.List.{AllByRecursion, filter}
use Rattle.std.specs.Str.{bytes_eq}
use Rattle.std.proofs.lemmas.Bool.{cases_Bool, false≢true}
use Rattle.std.proofs.lemmas.Slice.Eq.{bytes_eq-Decides}
use Rattle.p21_text.specs.Spelling.{IsName, IsUpper, IsDigit}
use Rattle.p21_express.specs.Schema.{Schema, Entity}
use Rattle.p21_express.specs.WellFormed.{IsIn, AreDistinct, IsWellFormed, Origin, new_explicit, new_derived, new_names}
use Rattle.p21_graph.specs.MemberLaws.{in_either, distinct_left, from_map}
use Rattle.p21_schema.specs.Row.{IsRow, AreRows, own_attributes, first_places, same_origin}
use Rattle.p21_schema.specs.Row as rows
use Rattle.p21_json.specs.Keys.{HasNames}
use Rattle.p21_json.specs.Keys.{has_name, full_name, key_of, keys_behind}

-- ---- names hold no point

no_point : (bs : List ℕ) → AllByRecursion (λ c. IsUpper c ⊎ IsDigit c) bs → ¬ (IsIn bs 46)
no_point [] h i = i
no_point (b ∷ bs) h (inl e) = ⊎_elim (λ (u : IsUpper b). ⊎_elim (λ (p : (65 ≤ b) × (b ≤ 90)). let q = p.0 in omega arith) (λ (q : b ≡ 95). omega arith) u) (λ (d : IsDigit b). let q = d.0 in omega arith) h.0
no_point (b ∷ bs) h (inr i) = no_point bs h.1 i

pub name_without_point : (n : List ℕ) → IsName n → ¬ (IsIn n 46)
name_without_point [] h i = i
name_without_point (b ∷ bs) h i = no_point (b ∷ bs) (inl h.0, h.1) i

point_in : (a b : List ℕ) → IsIn (a ++ 46 ∷ b) 46
point_in [] b = inl refl
point_in (x ∷ a) b = inr (point_in a b)

-- two names with a point between them are two names in one way
same_halves : (a b c d : List ℕ) → ¬ (IsIn a 46) → ¬ (IsIn c 46) → a ++ 46 ∷ b ≡ c ++ 46 ∷ d → (a ≡ c) × (b ≡ d)
same_halves [] b [] d h k e = (refl, cc)
same_halves [] b (y ∷ c) d h k e = let one : y ≡ 46 = cc in absurd (k (inl one))
same_halves (x ∷ a) b [] d h k e = let one : x ≡ 46 = cc in absurd (h (inl one))
same_halves (x ∷ a) b (y ∷ c) d h k e =
    let first : x ≡ y = cc in
    let rest : a ++ 46 ∷ b ≡ c ++ 46 ∷ d = cc in
    let more = same_halves a b c d (λ i. h (inr i)) (λ i. k (inr i)) rest in (cc (first, more.0), more.1)

-- ---- names of attributes

same_bytes : (n : List ℕ) → bytes_eq n n ≡ true
same_bytes n = (bytes_eq-Decides n n).1 refl

or_right : (a b : Bool) → b ≡ true → (a || b) ≡ true
or_right true b e = refl
or_right false b e = e

or_left : (a b : Bool) → a ≡ true → (a || b) ≡ true
or_left true b e = refl
or_left false b e = absurd (false≢true e)

has_here : (os : List Origin) (o : Origin) → IsIn os o → has_name os o.name ≡ true
has_here [] o h = absurd h
has_here (p ∷ os) o (inl e) = or_left (bytes_eq p.name o.name) (has_name os o.name) (ap (λ (x : Origin). bytes_eq x.name o.name) e ∙ same_bytes o.name)
has_here (p ∷ os) o (inr i) = or_right (bytes_eq p.name o.name) (has_name os o.name) (has_here os o i)

or_more : (a b c : Bool) → (b ≡ true → c ≡ true) → (a || b) ≡ true → (a || c) ≡ true
or_more true b c f e = refl
or_more false b c f e = f e

has_more : (os ps : List Origin) (n : List ℕ) → has_name os n ≡ true → has_name (os ++ ps) n ≡ true
has_more [] ps n h = absurd (false≢true h)
has_more (o ∷ os) ps n h = or_more (bytes_eq o.name n) (has_name os n) (has_name (os ++ ps) n) (has_more os ps n) h

has_last : (os : List Origin) (o : Origin) → has_name (os ++ o ∷ []) o.name ≡ true
has_last os o = has_here (os ++ o ∷ []) o (last os) where
  last : (ps : List Origin) → IsIn (ps ++ o ∷ []) o
  last [] = inl refl
  last (p ∷ ps) = inr (last ps)

-- an attribute that is called by names
abbrev pub IsNamed : Origin → Type 0
IsNamed o = IsName o.entity × IsName o.name

-- the key is the name or the full name
pub key_is : (before : List Origin) (o : Origin) → ((has_name before o.name ≡ true) × (key_of before o ≡ full_name o)) ⊎ ((has_name before o.name ≡ false) × (key_of before o ≡ o.name))
key_is before o = by (has_name before o.name) refl where
  by : (b : Bool) → has_name before o.name ≡ b → ((b ≡ true) × ((if b then full_name o else o.name) ≡ full_name o)) ⊎ ((b ≡ false) × ((if b then full_name o else o.name) ≡ o.name))
  by true e = inl (refl, refl)
  by false e = inr (refl, refl)

pub plain_key : (before : List Origin) (o : Origin) → has_name before o.name ≡ false → key_of before o ≡ o.name
plain_key before o e = ap (λ (b : Bool). if b then full_name o else o.name) e

pub full_key : (before : List Origin) (o : Origin) → has_name before o.name ≡ true → key_of before o ≡ full_name o
full_key before o e = ap (λ (b : Bool). if b then full_name o else o.name) e

full_is_no_name : (o p : Origin) → IsNamed p → full_name o ≡ p.name → ⊥
full_is_no_name o p n e = name_without_point p.name n.1 (subst (λ (l : List ℕ). IsIn l 46) e (point_in o.entity o.name))

same_full : (o p : Origin) → IsNamed o → IsNamed p → full_name o ≡ full_name p → o ≡ p
same_full o p m n e =
    let both = same_halves o.entity o.name p.entity p.name (name_without_point o.entity m.0) (name_without_point p.entity n.0) e in
    both_same o p both.0 both.1
  where
    both_same : (o p : Origin) → o.entity ≡ p.entity → o.name ≡ p.name → o ≡ p
    both_same o p e f = λ j. record { entity = e j; name = f j }

-- the key of another attribute after the first of this name is another one
clash : (before others : List Origin) (o p : Origin) → IsNamed o → IsNamed p → ¬ (o ≡ p) → has_name others o.name ≡ true → key_of others p ≡ key_of before o → ⊥
clash before others o p m n d h e =
    ⊎_elim
    (λ (x : (has_name others p.name ≡ true) × (key_of others p ≡ full_name p)). ⊎_elim
    (λ (y : (has_name before o.name ≡ true) × (key_of before o ≡ full_name o)). d (sym (same_full p o n m (sym x.1 ∙ e ∙ y.1))))
    (λ (y : (has_name before o.name ≡ false) × (key_of before o ≡ o.name)). full_is_no_name p o m (sym x.1 ∙ e ∙ y.1))
    (key_is before o))
    (λ (x : (has_name others p.name ≡ false) × (key_of others p ≡ p.name)). ⊎_elim
    (λ (y : (has_name before o.name ≡ true) × (key_of before o ≡ full_name o)). full_is_no_name o p n (sym y.1 ∙ sym e ∙ x.1))
    (λ (y : (has_name before o.name ≡ false) × (key_of before o ≡ o.name)).
    let same : p.name ≡ o.name = sym x.1 ∙ e ∙ y.1 in
    false≢true (sym x.0 ∙ subst (λ (l : List ℕ). has_name others l ≡ true) (sym same) h))
    (key_is before o))
    (key_is others p)

not_behind : (before others os : List Origin) (o : Origin) → IsNamed o → AllByRecursion IsNamed os → ¬ (IsIn os o) → has_name others o.name ≡ true → ¬ (IsIn (keys_behind others os) (key_of before o))
not_behind before others [] o m n d h i = i
not_behind before others (p ∷ os) o m n d h (inl e) = clash before others o p m n.0 (λ q. d (inl (sym q))) h e
not_behind before others (p ∷ os) o m n d h (inr i) = not_behind before (others ++ p ∷ []) os o m n.1 (λ j. d (inr j)) (has_more others (p ∷ []) o.name h) i

-- keys of attributes that differ differ
pub distinct_keys : (before os : List Origin) → AllByRecursion IsNamed os → AreDistinct os → AreDistinct (keys_behind before os)
distinct_keys before [] n d = tt
distinct_keys before (o ∷ os) n d = (not_behind before (before ++ o ∷ []) os o n.0 n.1 d.0 (has_last before o), distinct_keys (before ++ o ∷ []) os n.1 d.1)

-- ---- attributes of a record differ

in_filter : {X : Type 0} (p : X → Bool) (xs : List X) (x : X) → IsIn (filter p xs) x → IsIn xs x × (p x ≡ true)
in_filter p [] x h = absurd h
in_filter p (y ∷ ys) x h =
    ⊎_elim
    (λ (t : p y ≡ true). ⊎_elim (λ (e : y ≡ x). (inl e, ap p (sym e) ∙ t)) (λ (i : IsIn (filter p ys) x). let r = in_filter p ys x i in (inr r.0, r.1)) (rw t at h))
    (λ (f : p y ≡ false). let r = in_filter p ys x (rw f at h) in (inr r.0, r.1))
    (cases_Bool (p y))

distinct_filter : {X : Type 0} (p : X → Bool) (xs : List X) → AreDistinct xs → AreDistinct (filter p xs)
distinct_filter p [] d = tt
distinct_filter {X} p (y ∷ ys) d =
    ⊎_elim
    (λ (t : p y ≡ true). let both : AreDistinct (y ∷ filter p ys) = (λ i. d.0 (in_filter p ys y i).0, distinct_filter p ys d.1) in rw t both)
    (λ (f : p y ≡ false). rw f (distinct_filter p ys d.1))
    (cases_Bool (p y))

distinct_first : {X : Type 0} (same : X → X → Bool) → ((x : X) → same x x ≡ true) → (xs : List X) → AreDistinct (first_places same xs)
distinct_first same h [] = tt
distinct_first same h (x ∷ xs) = (λ i. false≢true (sym (ap not (h x)) ∙ (in_filter (λ y. not (same x y)) (first_places same xs) x i).1), distinct_filter (λ y. not (same x y)) (first_places same xs) (distinct_first same h xs))

itself : (o : Origin) → same_origin o o ≡ true
itself o = rw (same_bytes o.entity, same_bytes o.name) refl

pub distinct_row : (s : Schema) {n : List ℕ} {os : List Origin} → IsRow s n os → AreDistinct os
distinct_row s (rows.row {above = a} e i m r q) = subst (λ (l : List Origin). AreDistinct l) (sym q) (distinct_first same_origin itself (a ++ own_attributes e))

distinct_map : {X Y : Type 0} (f : X → Y) → ((x y : X) → f x ≡ f y → x ≡ y) → (xs : List X) → AreDistinct xs → AreDistinct (map f xs)
distinct_map f one [] d = tt
distinct_map f one (x ∷ xs) d = (λ i. let r = from_map f xs (f x) i in d.0 (subst (λ y. IsIn xs y) (one r.0 x r.1.1) r.1.0), distinct_map f one xs d.1)

each_entity : (P : Entity → Type 0) (es : List Entity) (e : Entity) → AllByRecursion P es → IsIn es e → P e
each_entity P [] e h i = absurd i
each_entity P (x ∷ es) e h (inl q) = subst P q h.0
each_entity P (x ∷ es) e h (inr i) = each_entity P es e h.1 i

abbrev of_entity : List ℕ → List ℕ → Origin
of_entity n m = record { entity = n; name = m }

same_name_of : (n a b : List ℕ) → of_entity n a ≡ of_entity n b → a ≡ b
same_name_of n a b e = ap (λ (o : Origin). o.name) e

pub distinct_own : (s : Schema) → IsWellFormed s → (e : Entity) → IsIn s.entities e → AreDistinct (own_attributes e)
distinct_own s wf e i = distinct_map (of_entity e.name) (same_name_of e.name) (new_explicit e.attributes) (distinct_left (new_explicit e.attributes) (new_derived e.derived) (each_entity (λ (x : Entity). AreDistinct (new_names x)) s.entities e wf.repeated.attributes i))

-- ---- attributes of a record are called by names

in_first : {X : Type 0} (same : X → X → Bool) (xs : List X) (x : X) → IsIn (first_places same xs) x → IsIn xs x
in_first same [] x h = h
in_first same (y ∷ ys) x (inl e) = inl e
in_first same (y ∷ ys) x (inr h) = inr (in_first same ys x (in_filter (λ z. not (same y z)) (first_places same ys) x h).0)

all_from : (os : List Origin) → ((o : Origin) → IsIn os o → IsNamed o) → AllByRecursion IsNamed os
all_from [] f = tt
all_from (o ∷ os) f = (f o (inl refl), all_from os (λ p i. f p (inr i)))

each_name : (ns : List (List ℕ)) (n : List ℕ) → AllByRecursion IsName ns → IsIn ns n → IsName n
each_name [] n h i = absurd i
each_name (m ∷ ns) n h (inl e) = subst IsName e h.0
each_name (m ∷ ns) n h (inr i) = each_name ns n h.1 i

own_named : (s : Schema) → HasNames s → (e : Entity) → IsIn s.entities e → (o : Origin) → IsIn (own_attributes e) o → IsNamed o
own_named s h e i o j =
    let both = each_entity (λ (x : Entity). IsName x.name × AllByRecursion IsName (new_explicit x.attributes)) s.entities e h i in
    let from = from_map (of_entity e.name) (new_explicit e.attributes) o j in
    subst IsNamed from.1.1 (both.0, each_name (new_explicit e.attributes) from.0 both.1 from.1.0)

mutual
  row_named : (s : Schema) → HasNames s → {n : List ℕ} {os : List Origin} → IsRow s n os → (o : Origin) → IsIn os o → IsNamed o
  row_named s h (rows.row {above = a} e i m r q) o j =
      let there : IsIn (a ++ own_attributes e) o = in_first same_origin (a ++ own_attributes e) o (subst (λ (l : List Origin). IsIn l o) q j) in
      ⊎_elim (λ (up : IsIn a o). rows_named s h r o up) (λ (own : IsIn (own_attributes e) o). own_named s h e i o own) (in_either a (own_attributes e) o there)

  rows_named : (s : Schema) → HasNames s → {ns : List (List ℕ)} {os : List Origin} → AreRows s ns os → (o : Origin) → IsIn os o → IsNamed o
  rows_named s h (rows.none e) o j = absurd (subst (λ (l : List Origin). IsIn l o) e j)
  rows_named s h (rows.more {one = a} {rest = b} r rs e) o j =
      ⊎_elim (λ (i : IsIn a o). row_named s h r o i) (λ (i : IsIn b o). rows_named s h rs o i) (in_either a b o (subst (λ (l : List Origin). IsIn l o) e j))

pub row_all_named : (s : Schema) → HasNames s → {n : List ℕ} {os : List Origin} → IsRow s n os → AllByRecursion IsNamed os
row_all_named s h {n} {os} r = all_from os (row_named s h r)

pub own_all_named : (s : Schema) → HasNames s → (e : Entity) → IsIn s.entities e → AllByRecursion IsNamed (own_attributes e)
own_all_named s h e i = all_from (own_attributes e) (own_named s h e i)

-- ---- own attributes have no two of one name

no_name_twice : (ns : List (List ℕ)) (e : List ℕ) (p : ℕ) (o : Origin) → AreDistinct ns → slice_get (map (of_entity e) ns) p ≡ Some o → has_name (take p (map (of_entity e) ns)) o.name ≡ false
no_name_twice ns e zero o d h = refl
no_name_twice [] e (suc p) o d h = cc
no_name_twice (n ∷ ns) e (suc p) o d h =
    let rest = no_name_twice ns e p o d.1 h in
    let other : bytes_eq n o.name ≡ false = differ (bytes_eq n o.name) refl in
    rw (other, rest) refl
  where
    found : (ms : List (List ℕ)) (q : ℕ) → slice_get (map (of_entity e) ms) q ≡ Some o → IsIn ms o.name
    found [] q k = cc
    found (m ∷ ms) zero k = let same : of_entity e m ≡ o = cc in inl (ap (λ (x : Origin). x.name) same)
    found (m ∷ ms) (suc q) k = inr (found ms q k)

    differ : (b : Bool) → bytes_eq n o.name ≡ b → bytes_eq n o.name ≡ false
    differ true q = absurd (d.0 (subst (λ (l : List ℕ). IsIn ns l) (sym ((bytes_eq-Decides n o.name).0 q)) (found ns p h)))
    differ false q = q

pub own_once : (s : Schema) → IsWellFormed s → (e : Entity) → IsIn s.entities e → (p : ℕ) (o : Origin) → slice_get (own_attributes e) p ≡ Some o → has_name (take p (own_attributes e)) o.name ≡ false
own_once s wf e i p o h = no_name_twice (new_explicit e.attributes) e.name p o (distinct_left (new_explicit e.attributes) (new_derived e.derived) (each_entity (λ (x : Entity). AreDistinct (new_names x)) s.entities e wf.repeated.attributes i)) h
