-- What conforms to a name.
use Rattle.std.proofs.Common.{◌≡◌, ◌⊎◌, ◌↔◌, ⊎_elim, inl, inr, ℕ, List, [], ◌∷◌, ◌++◌, map, refl, sym, ap, subst, ◌∙◌}
use Rattle.p21_tree.specs.Tree.{Tree}
use Rattle.p21_tree.specs.Tree as tree
use Rattle.p21_express.specs.Schema.{Schema, Entity, Defined, Underlying}
use Rattle.p21_express.specs.Schema as type
use Rattle.p21_express.specs.WellFormed.{IsIn, AreDistinct, IsEntity, IsSelect, IsSelectType, IsWellFormed, IsKnownUnder}
use Rattle.std.specs.List.{AllByRecursion}
use Rattle.p21_schema.specs.Under.{StandsUnder}
use Rattle.p21_schema.specs.Under as under
use Rattle.p21_schema.specs.Select.{ReachesType, ReachesEntity}
use Rattle.p21_check.specs.Conforms.{Conforms}
use Rattle.p21_check.specs.Conforms as conforms

-- ---- one name, one declaration

pub in_map : {X : Type 0} (f : X → List ℕ) (xs : List X) (x : X) → IsIn xs x → IsIn (map f xs) (f x)
in_map f [] x h = h
in_map f (y ∷ xs) x h = ⊎_elim (λ (e : y ≡ x). inl (ap f e)) (λ (k : IsIn xs x). inr (in_map f xs x k)) h

pub in_front : (xs ys : List (List ℕ)) (n : List ℕ) → IsIn xs n → IsIn (xs ++ ys) n
in_front [] ys n h = absurd h
in_front (x ∷ xs) ys n h = ⊎_elim (λ (e : x ≡ n). inl e) (λ (k : IsIn xs n). inr (in_front xs ys n k)) h

in_back : (xs ys : List (List ℕ)) (n : List ℕ) → IsIn ys n → IsIn (xs ++ ys) n
in_back [] ys n h = h
in_back (x ∷ xs) ys n h = inr (in_back xs ys n h)

distinct_back : (xs ys : List (List ℕ)) → AreDistinct (xs ++ ys) → AreDistinct ys
distinct_back [] ys h = h
distinct_back (x ∷ xs) ys h = distinct_back xs ys h.1

apart : (xs ys : List (List ℕ)) (n : List ℕ) → AreDistinct (xs ++ ys) → IsIn xs n → IsIn ys n → ⊥
apart [] ys n h a b = a
apart (x ∷ xs) ys n h a b =
    ⊎_elim (λ (e : x ≡ n). h.0 (subst (IsIn (xs ++ ys)) (sym e) (in_back xs ys n b))) (λ (k : IsIn xs n). apart xs ys n h.1 k b) a

-- no two with one name
pub one_by_name : {X : Type 0} (f : X → List ℕ) (xs : List X) (x y : X) → AreDistinct (map f xs) → IsIn xs x → IsIn xs y → f x ≡ f y → x ≡ y
one_by_name f [] x y h a b e = absurd a
one_by_name {X} f (z ∷ xs) x y h a b e =
    ⊎_elim
    (λ (p : z ≡ x). ⊎_elim
    (λ (q : z ≡ y). sym p ∙ q)
    (λ (q : IsIn xs y). absurd (h.0 (subst (IsIn (map f xs)) (sym e ∙ ap f (sym p)) (in_map f xs y q))))
    b)
    (λ (p : IsIn xs x). ⊎_elim
    (λ (q : z ≡ y). absurd (h.0 (subst (IsIn (map f xs)) (e ∙ ap f (sym q)) (in_map f xs x p))))
    (λ (q : IsIn xs y). one_by_name f xs x y h.1 p q e)
    b)
    a

pub one_type : (s : Schema) → IsWellFormed s → (t u : Defined) → IsIn s.types t → IsIn s.types u → t.name ≡ u.name → t ≡ u
one_type s w t u a b e = one_by_name (λ (t : Defined). t.name) s.types t u (distinct_back (map (λ (e : Entity). e.name) s.entities) (map (λ (t : Defined). t.name) s.types) w.repeated.declarations) a b e

no_type_too : (s : Schema) → IsWellFormed s → (n : List ℕ) (t : Defined) → IsEntity s n → IsIn s.types t → t.name ≡ n → ⊥
no_type_too s w n t a b e = apart (map (λ (e : Entity). e.name) s.entities) (map (λ (t : Defined). t.name) s.types) n w.repeated.declarations a (subst (IsIn (map (λ (t : Defined). t.name) s.types)) e (in_map (λ (t : Defined). t.name) s.types t b))

-- ---- entities

entity_parts : {s : Schema} {n : List ℕ} {t : Tree} → IsWellFormed s → IsEntity s n → Conforms s (type.named n) t → (r : ℕ) × (t ≡ tree.reference r)
entity_parts {s} {n} w e (conforms.enumeration d a b c i) = absurd (no_type_too s w n d e a b)
entity_parts {s} {n} w e (conforms.defined d a b c h) = absurd (no_type_too s w n d e a b)
entity_parts w e (conforms.entity {r} h) = (r, refl)
entity_parts w e (conforms.select_entity {r} h k) = (r, refl)
entity_parts {s} {n} w e (conforms.select_type h k j) = absurd (no_type_too s w n h.type e h.declared h.name_is)

pub entity_by : (s : Schema) (n : List ℕ) (t : Tree) → IsWellFormed s → IsEntity s n → ((r : ℕ) × (t ≡ tree.reference r)) ↔ Conforms s (type.named n) t
entity_by s n t w e = (λ h. subst (Conforms s (type.named n)) (sym h.1) (conforms.entity e), λ h. entity_parts w e h)

-- ---- types

-- an instance name where the SELECT reaches an entity, or a typed parameter
abbrev pub FitsSelect : Schema → List ℕ → Tree → Type 0
FitsSelect s n t = (((r : ℕ) × (t ≡ tree.reference r)) × ReachesEntity s n) ⊎ ((k : List ℕ) × (p : Tree) × (t ≡ tree.typed k p) × ReachesType s n k × Conforms s (type.named k) p)

-- what conforms by what stands under a type of this name
abbrev pub FitsUnder : Schema → List ℕ → Underlying → Tree → Type 0
FitsUnder s n (type.items names) t = (v : List ℕ) × (t ≡ tree.enumeration v) × IsIn names v
FitsUnder s n (type.select names) t = FitsSelect s n t
FitsUnder s n (type.plain e) t = Conforms s e t

selects : (u : Underlying) → IsSelectType u → (names : List (List ℕ)) × (u ≡ type.select names)
selects (type.items ns) h = absurd h
selects (type.select ns) h = (ns, refl)
selects (type.plain e) h = absurd h

module _ (s : Schema) (w : IsWellFormed s) where
  fits_parts : {n : List ℕ} {t : Tree} (d : Defined) → IsIn s.types d → d.name ≡ n → Conforms s (type.named n) t → FitsUnder s n d.under t
  fits_parts {n} {t} d a b (conforms.enumeration {v} x c f g i) =
      let same : x ≡ d = one_type s w x d c a (f ∙ sym b) in
      subst (λ u. FitsUnder s n u t) (sym g ∙ ap (λ (y : Defined). y.under) same) (v, refl, i)
  fits_parts {n} {t} d a b (conforms.defined x c f g h) =
      let same : x ≡ d = one_type s w x d c a (f ∙ sym b) in
      subst (λ u. FitsUnder s n u t) (sym g ∙ ap (λ (y : Defined). y.under) same) h
  fits_parts {n} d a b (conforms.entity e) = absurd (no_type_too s w n d e a b)
  fits_parts {n} {t} d a b (conforms.select_entity {r} h k) =
      let same : h.type ≡ d = one_type s w h.type d h.declared a (h.name_is ∙ sym b) in
      let sel = selects h.type.under h.selects in
      subst (λ u. FitsUnder s n u t) (sym sel.1 ∙ ap (λ (y : Defined). y.under) same) (inl ((r, refl), k))
  fits_parts {n} {t} d a b (conforms.select_type {k = k} {p = p} h j c) =
      let same : h.type ≡ d = one_type s w h.type d h.declared a (h.name_is ∙ sym b) in
      let sel = selects h.type.under h.selects in
      subst (λ u. FitsUnder s n u t) (sym sel.1 ∙ ap (λ (y : Defined). y.under) same) (inr (k, p, refl, j, c))

  fits_made : {n : List ℕ} {t : Tree} (d : Defined) (u : Underlying) → IsIn s.types d → d.name ≡ n → d.under ≡ u → FitsUnder s n u t → Conforms s (type.named n) t
  fits_made {n} d (type.items names) a b c h = subst (Conforms s (type.named n)) (sym h.1) (conforms.enumeration d a b c h.2)
  fits_made {n} {t} d (type.select names) a b c h =
      let sel : IsSelect s n = record { type = d; declared = a; name_is = b; selects = subst IsSelectType (sym c) tt } in
      ⊎_elim
      (λ (x : ((r : ℕ) × (t ≡ tree.reference r)) × ReachesEntity s n). subst (Conforms s (type.named n)) (sym x.0.1) (conforms.select_entity sel x.1))
      (λ (x : (k : List ℕ) × (p : Tree) × (t ≡ tree.typed k p) × ReachesType s n k × Conforms s (type.named k) p). subst (Conforms s (type.named n)) (sym x.2) (conforms.select_type sel x.3 x.4))
      h
  fits_made d (type.plain e) a b c h = conforms.defined d a b c h

  alone : (d : Defined) (m : List ℕ) → IsIn s.types d → d.under ≡ type.plain (type.named m) → ¬ (IsSelect s m)
  alone d m a e =
      let k : IsKnownUnder s d.under = all_at (λ (t : Defined). IsKnownUnder s t.under) s.types d w.unknown.types a in
      let j : IsKnownUnder s (type.plain (type.named m)) = subst (IsKnownUnder s) e k in
      j.1.1 where
        all_at : (P : Defined → Type 0) (ts : List Defined) (t : Defined) → AllByRecursion P ts → IsIn ts t → P t
        all_at P [] t h i = absurd i
        all_at P (x ∷ ts) t h i = ⊎_elim (λ (e : x ≡ t). subst P e h.0) (λ (k : IsIn ts t). all_at P ts t h.1 k) i

  -- a SELECT stands under its own name alone
  pub under_select : {n : List ℕ} {names : List (List ℕ)} → StandsUnder s n (type.select names) → IsSelect s n
  under_select (under.itself d a b c none) = record { type = d; declared = a; name_is = b; selects = subst IsSelectType (sym c) tt }
  under_select (under.followed {m = m} d a b c h) = absurd (alone d m a c (under_select h))

  moved : (n m : List ℕ) (u : Underlying) (t : Tree) → StandsUnder s m u → ¬ (IsSelect s m) → FitsUnder s n u t → FitsUnder s m u t
  moved n m (type.items names) t h none k = k
  moved n m (type.select names) t h none k = absurd (none (under_select h))
  moved n m (type.plain e) t h none k = k

  moved_back : (n m : List ℕ) (u : Underlying) (t : Tree) → StandsUnder s m u → ¬ (IsSelect s m) → FitsUnder s m u t → FitsUnder s n u t
  moved_back n m (type.items names) t h none k = k
  moved_back n m (type.select names) t h none k = absurd (none (under_select h))
  moved_back n m (type.plain e) t h none k = k

  -- what conforms to a type of this name is what conforms by what stands under it
  pub under_by : {n : List ℕ} {u : Underlying} → (t : Tree) → StandsUnder s n u → FitsUnder s n u t ↔ Conforms s (type.named n) t
  under_by {n} {u} t (under.itself d a b c none) =
      (fits_made d u a b c, λ h. subst (λ v. FitsUnder s n v t) c (fits_parts d a b h))
  under_by {n} {u} t (under.followed {m = m} d a b c h) =
      let more : FitsUnder s m u t ↔ Conforms s (type.named m) t = under_by t h in
      let none : ¬ (IsSelect s m) = alone d m a c in
      let whole : FitsUnder s n d.under t → Conforms s (type.named m) t = λ k. subst (λ v. FitsUnder s n v t) c k in (
        λ k. fits_made d (type.plain (type.named m)) a b c (more.0 (moved n m u t h none k)),
        λ k. moved_back n m u t h none (more.1 (whole (fits_parts d a b k))),
      )

  pub select_by : {n : List ℕ} → (t : Tree) → IsSelect s n → FitsSelect s n t ↔ Conforms s (type.named n) t
  select_by {n} t h =
      let sel = selects h.type.under h.selects in
      (fits_made h.type (type.select sel.0) h.declared h.name_is sel.1, λ k. subst (λ u. FitsUnder s n u t) sel.1 (fits_parts h.type h.declared h.name_is k))

  -- a SELECT by what the parameter is

  pub select_reference : {n : List ℕ} {B : Type 0} (t : Tree) (r : ℕ) → IsSelect s n → t ≡ tree.reference r → B ↔ ReachesEntity s n → B ↔ Conforms s (type.named n) t
  select_reference {n} {B} t r h e k = (
    λ b. (select_by t h).0 (inl ((r, e), k.0 b)),
    λ c. ⊎_elim
        (λ (x : ((r : ℕ) × (t ≡ tree.reference r)) × ReachesEntity s n). k.1 x.1)
        (λ (x : (k : List ℕ) × (p : Tree) × (t ≡ tree.typed k p) × ReachesType s n k × Conforms s (type.named k) p). let f = x.2 in absurd (cc))
        ((select_by t h).1 c),
  )

  same_typed : (t : Tree) (k m : List ℕ) (p q : Tree) → t ≡ tree.typed k p → t ≡ tree.typed m q → (k ≡ m) × (p ≡ q)
  same_typed t k m p q e f = (cc, cc)

  pub select_typed : {n : List ℕ} {B : Type 0} (t : Tree) (k m : List ℕ) (p : Tree) → IsSelect s n → t ≡ tree.typed k p → m ≡ k → ReachesType s n k → B ↔ Conforms s (type.named m) p → B ↔ Conforms s (type.named n) t
  select_typed {n} {B} t k m p h e f reached b = (
    λ x. (select_by t h).0 (inr (k, p, e, reached, subst (λ y. Conforms s (type.named y) p) f (b.0 x))),
    λ c. ⊎_elim
        (λ (x : ((r : ℕ) × (t ≡ tree.reference r)) × ReachesEntity s n). let g = x.0.1 in absurd (cc))
        (λ (x : (k : List ℕ) × (p : Tree) × (t ≡ tree.typed k p) × ReachesType s n k × Conforms s (type.named k) p).
        let same = same_typed t x.0 k x.1 p x.2 e in
        b.1 (subst (λ y. Conforms s (type.named y) p) (same.0 ∙ sym f) (subst (λ y. Conforms s (type.named x.0) y) same.1 x.4)))
        ((select_by t h).1 c),
  )

  pub select_untyped : {n : List ℕ} (t : Tree) (k : List ℕ) (p : Tree) → IsSelect s n → t ≡ tree.typed k p → ¬ (ReachesType s n k) → ¬ (Conforms s (type.named n) t)
  select_untyped {n} t k p h e reached c =
      ⊎_elim
      (λ (x : ((r : ℕ) × (t ≡ tree.reference r)) × ReachesEntity s n). let g = x.0.1 in absurd (cc))
      (λ (x : (k : List ℕ) × (p : Tree) × (t ≡ tree.typed k p) × ReachesType s n k × Conforms s (type.named k) p).
      reached (subst (ReachesType s n) (same_typed t x.0 k x.1 p x.2 e).0 x.3))
      ((select_by t h).1 c)

  pub select_other : {n : List ℕ} (t : Tree) → IsSelect s n → ((r : ℕ) → ¬ (t ≡ tree.reference r)) → ((k : List ℕ) (p : Tree) → ¬ (t ≡ tree.typed k p)) → ¬ (Conforms s (type.named n) t)
  select_other {n} t h a b c =
      ⊎_elim
      (λ (x : ((r : ℕ) × (t ≡ tree.reference r)) × ReachesEntity s n). a x.0.0 x.0.1)
      (λ (x : (k : List ℕ) × (p : Tree) × (t ≡ tree.typed k p) × ReachesType s n k × Conforms s (type.named k) p). b x.0 x.1 x.2)
      ((select_by t h).1 c)
