-- The rules that concern an instance, in their order, and those between them.
use Rattle.std.proofs.Common.{◌≡◌, ℕ, zero, suc, add-one, ◌+◌, ◌<◌, ◌≤◌, List, [], ◌∷◌, ◌++◌, Option, None, Some, Vec, ◌⊎◌, ⊎_elim, inl, inr, map, length, drop, get_or, refl, sym, ap, subst, ◌∙◌, arith}
use Rattle.std.specs.Prelude.{slice_get, All, MatchOption}
use Rattle.std.proofs.lemmas.List.{drop_all, drop_more, length-map}
use Rattle.std.proofs.lemmas.List.Elements.{All-map}
use Rattle.std.proofs.lemmas.Option.{slice_get_within}
use Rattle.std.proofs.lemmas.Slice.Zip.{AllZip-long}
use Rattle.p21_check.specs.EntityOf.{AreSimpleEntities, IsSimpleEntity}
use Rattle.p21_express.specs.Schema.{Schema}
use Rattle.p21_schema.specs.Place.{IsEntityOf, entity_name}
use Rattle.p21_schema.specs.declared.ids.EntityId.{EntityId}
use Rattle.p21_tree.specs.Views.{plain_instance}
use Rattle.p21_tree.specs.declared.instances.RawInstance.{RawInstance}
use Rattle.p21_rules.specs.Concerned.{AnyBelow, AreConcerned}
use Rattle.p21_rules.specs.Concerned as concerned
use Rattle.p21_rules.specs.Named.{IsNamed}

abbrev pub no_wanted : EntityId
no_wanted = record { index = 0 }

-- ---- what stands at a place, and after it

module _ {X : Type 0} where
  first_left : (xs : List X) (k : ℕ) (x : X) (rest : List X) → drop k xs ≡ x ∷ rest → (slice_get xs k ≡ Some x) × (drop (suc k) xs ≡ rest)
  first_left [] zero x rest e = absurd cc
  first_left [] (suc k) x rest e = absurd cc
  first_left (y ∷ xs) zero x rest e = let same : y ≡ x = cc in (ap Some same, cc)
  first_left (y ∷ xs) (suc k) x rest e = first_left xs k x rest e

  left_from : (xs : List X) (k : ℕ) (x : X) → slice_get xs k ≡ Some x → drop k xs ≡ x ∷ drop (suc k) xs
  left_from [] zero x e = absurd cc
  left_from [] (suc k) x e = absurd cc
  left_from (y ∷ xs) zero x e = let same : y ≡ x = cc in ap (λ (z : X). z ∷ xs) same
  left_from (y ∷ xs) (suc k) x e = left_from xs k x e

  -- the element at a place, and those after it
  pub left_of : (xs : List X) (k : ℕ) (x : X) → slice_get xs k ≡ Some x → drop k xs ≡ x ∷ drop (k + 1) xs
  left_of xs k x e = left_from xs k x e ∙ ap (λ (n : ℕ). x ∷ drop n xs) (sym (add-one k))

  past_all : (xs : List X) (k : ℕ) → drop k xs ≡ [] → length xs ≤ k
  past_all [] k e = omega arith
  past_all (y ∷ xs) zero e = absurd cc
  past_all (y ∷ xs) (suc k) e = let rest = past_all xs k e in omega arith

-- ---- from one rule that concerns the instance to the next

module _ {R : Type 0} (entity : R → EntityId) (s : Schema) (ks : List (List ℕ)) (rules : List R) (State : ℕ → Type 0) (pass : (k : ℕ) (r : R) → slice_get rules k ≡ Some r → ¬ (AnyBelow s ks (entity r)) → State k → State (k + 1)) where
  -- the next rule concerns it, and those between do not
  pub reach : (k : ℕ) (rs : List R) (n : ℕ) (ns : List ℕ) → drop k rules ≡ rs → AreConcerned s ks k (map entity rs) (n ∷ ns) → State k
      → (r : R) × (slice_get rules n ≡ Some r) × AnyBelow s ks (entity r) × AreConcerned s ks (n + 1) (map entity (drop (n + 1) rules)) ns × State n
  reach k [] n ns e h state = elim h [ ]
  reach k (r ∷ rs) n ns e (concerned.listed any h) state =
      let at = first_left rules k r rs e in
      let left : drop (k + 1) rules ≡ rs = ap (λ (m : ℕ). drop m rules) (add-one k) ∙ at.1 in
      (r, at.0, any, subst (λ (l : List R). AreConcerned s ks (k + 1) (map entity l) ns) (sym left) h, state)
  reach k (r ∷ rs) n ns e (concerned.passed not h) state =
      let at = first_left rules k r rs e in
      let left : drop (k + 1) rules ≡ rs = ap (λ (m : ℕ). drop m rules) (add-one k) ∙ at.1 in
      reach (k + 1) rs n ns left h (pass k r at.0 not state)

  -- no rule concerns it that is left
  pub finish : (k : ℕ) (rs : List R) → drop k rules ≡ rs → AreConcerned s ks k (map entity rs) [] → State k → (m : ℕ) × (length rules ≤ m) × State m
  finish k [] e h state = (k, past_all rules k e, state)
  finish k (r ∷ rs) e (concerned.passed not h) state =
      let at = first_left rules k r rs e in
      let left : drop (k + 1) rules ≡ rs = ap (λ (m : ℕ). drop m rules) (add-one k) ∙ at.1 in
      finish (k + 1) rs left h (pass k r at.0 not state)

-- ---- the numbers from a place on

module _ {R : Type 0} (entity : R → EntityId) (s : Schema) (ks : List (List ℕ)) (rules : List R) (k : ℕ) (numbers : List ℕ) (place : ℕ) (h : AreConcerned s ks k (map entity (drop k rules)) (drop place numbers)) where
  module _ (less : place < length numbers) where
    -- the rule of the number that stands there, and what is known after the rules before it
    pub next : (State : ℕ → Type 0) → ((m : ℕ) (r : R) → slice_get rules m ≡ Some r → ¬ (AnyBelow s ks (entity r)) → State m → State (m + 1)) → State k
        → (r : R) × (slice_get rules (get_or numbers place 0) ≡ Some r) × AnyBelow s ks (entity r) × AreConcerned s ks (get_or numbers place 0 + 1) (map entity (drop (get_or numbers place 0 + 1) rules)) (drop (place + 1) numbers) × State (get_or numbers place 0)
    next State pass state =
        reach entity s ks rules State pass k (drop k rules) (get_or numbers place 0) (drop (place + 1) numbers) refl (subst (AreConcerned s ks k (map entity (drop k rules))) (drop_more numbers place 0 less) h) state

    -- there is such a rule
    pub within : get_or numbers place 0 < length rules
    within = let r = next (λ m. Unit {0}) (λ m r there not t. tt) tt in slice_get_within rules (get_or numbers place 0) r.0 r.1

    -- it concerns the instance
    pub concerns : (r : R) → slice_get rules (get_or numbers place 0) ≡ Some r → AnyBelow s ks (entity r)
    concerns r there =
        let n = next (λ m. Unit {0}) (λ m r there not t. tt) tt in
        let both : Some n.0 ≡ Some r = sym n.1 ∙ there in
        let same : n.0 ≡ r = cc in
        subst (λ (x : R). AnyBelow s ks (entity x)) same n.2

    -- the numbers after it are those of the rules after it
    pub behind : AreConcerned s ks (get_or numbers place 0 + 1) (map entity (drop (get_or numbers place 0 + 1) rules)) (drop (place + 1) numbers)
    behind = let r = next (λ m. Unit {0}) (λ m r there not t. tt) tt in r.3

  -- where no number is left, what is known after all rules
  pub last : (State : ℕ → Type 0) → ((m : ℕ) (r : R) → slice_get rules m ≡ Some r → ¬ (AnyBelow s ks (entity r)) → State m → State (m + 1)) → length numbers ≤ place → State k → (m : ℕ) × (length rules ≤ m) × State m
  last State pass past state = finish entity s ks rules State pass k (drop k rules) refl (subst (AreConcerned s ks k (map entity (drop k rules))) (drop_all place numbers past) h) state

-- ---- the table

-- the entities of rules are of the schema where those of each rule are
pub entities_known : {R : Type 0} (s : Schema) (entity : R → EntityId) (rules : List R) → All (λ r. IsEntityOf s (entity r)) rules → All (IsEntityOf s) (map entity rules)
entities_known s entity rules h = All-map (IsEntityOf s) entity rules h

-- the entity at a place of the schema is the one that a record with its name names
pub named_there : (s : Schema) (place : ℕ) (o : Option EntityId) → MatchOption o (length s.entities ≤ place) (λ e. IsEntityOf s e × (e.index ≡ place)) → place < length s.entities → IsNamed s (entity_name s (record { index = place })) o
named_there s place None h less = absurd (omega (arith, h, less))
named_there s place (Some e) h less = let same : e ≡ record { index = place } = λ j. record { index = h.1 j } in (h.0, ap (entity_name s) same)

entity_within : {X : Type 0} (xs : List X) (x y : X) (k : ℕ) → slice_get (xs ++ x ∷ []) k ≡ Some y → ((k < length xs) × (slice_get xs k ≡ Some y)) ⊎ ((k ≡ length xs) × (x ≡ y))
entity_within [] x y zero e = inr (refl, cc)
entity_within [] x y (suc k) e = absurd cc
entity_within (z ∷ xs) x y zero e = inl (omega arith, e)
entity_within (z ∷ xs) x y (suc k) e =
    ⊎_elim
    (λ (p : (k < length xs) × (slice_get xs k ≡ Some y)). inl (let less = p.0 in omega (arith, less), p.1))
    (λ (p : (k ≡ length xs) × (x ≡ y)). inr (ap suc p.0, p.1))
    (entity_within xs x y k e)

-- the numbers of the entities below a place, and of the one that stands there
pub table_more : {A : Type 0} (s : Schema) (ws : List EntityId) (table : List (Vec ℕ A)) (new : Vec ℕ A) (place : ℕ) → length table ≡ place
    → ((e : EntityId) (ns : Vec ℕ A) → slice_get table e.index ≡ Some ns → AreConcerned s (entity_name s e ∷ []) 0 ws ns.items)
    → AreConcerned s (entity_name s (record { index = place }) ∷ []) 0 ws new.items
    → (e : EntityId) (ns : Vec ℕ A) → slice_get (table ++ new ∷ []) e.index ≡ Some ns → AreConcerned s (entity_name s e ∷ []) 0 ws ns.items
table_more {A} s ws table new place long each here e ns there =
    ⊎_elim
    (λ (p : (e.index < length table) × (slice_get table e.index ≡ Some ns)). each e ns p.1)
    (λ (p : (e.index ≡ length table) × (new ≡ ns)).
    let same : record { index = place } ≡ e = λ j. record { index = sym (p.0 ∙ long) j } in
    subst (λ (x : EntityId). AreConcerned s (entity_name s x ∷ []) 0 ws ns.items) same (subst (λ (v : Vec ℕ A). AreConcerned s (entity_name s (record { index = place }) ∷ []) 0 ws v.items) p.1 here))
    (entity_within table new ns e.index there)

-- ---- the entities of instances

-- one for each instance
pub simple_long : (s : Schema) (rs : List RawInstance) (es : List (Option EntityId)) → AreSimpleEntities s (map plain_instance rs) es → length es ≡ length rs
simple_long s rs es h = AllZip-long (IsSimpleEntity s) (map plain_instance rs) es h ∙ length-map rs plain_instance

-- that of an instance
pub simple_at : (s : Schema) (rs : List RawInstance) (es : List (Option EntityId)) (i : ℕ) (r : RawInstance) → AreSimpleEntities s (map plain_instance rs) es → i < length rs → r ≡ get_or rs i r → IsSimpleEntity s (plain_instance r) (get_or es i None)
simple_at s [] es i r h less e = absurd (omega (arith, less))
simple_at s (x ∷ rs) [] i r h less e = absurd h
simple_at s (x ∷ rs) (o ∷ es) zero r h less e = subst (λ (y : RawInstance). IsSimpleEntity s (plain_instance y) o) (sym e) h.0
simple_at s (x ∷ rs) (o ∷ es) (suc i) r h less e = simple_at s rs es i r h.1 (omega (arith, less)) e
