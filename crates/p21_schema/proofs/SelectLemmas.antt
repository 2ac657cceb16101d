-- What SELECTs reach.
use Rattle.std.proofs.Common.{◌≡◌, ℕ, zero, suc, ◌+◌, ◌<◌, ◌≤◌, ◌↔◌, Bool, true, false, List, [], ◌∷◌, ◌++◌, Option, Some, map, length, get_or, take, refl, sym, ap, ◌∙◌, subst, inl, inr, ⊎_elim, ◌⊎◌, arith}
use Rattle.std.specs.Prelude.{slice_get}
use Rattle.std.proofs.lemmas.Bool.{cases_eq, cases_lt}
use Rattle.std.proofs.lemmas.List.{length-map, get_or-map, get_or_past, get_or_append_left, get_or_push}
use Rattle.p21_express.specs.Schema.{Schema, Defined, Underlying, items, select, plain}
use Rattle.p21_express.specs.WellFormed.{IsIn, IsEntity, IsType, IsSelect, IsSelectType, IsInnerSelect, IsWellFormed, Leads, HasNoCycle}
use Rattle.p21_graph.specs.Graph.{one, more, HasEdge, AreEdgesBelow, Reaches, here, through as onward}
use Rattle.p21_graph.specs.Bits.{Holds}
use Rattle.p21_graph.specs.Reach.{IsReachTable}
use Rattle.p21_graph.specs.declared.bits.Bits.{Bits}
use Rattle.p21_graph.specs.MemberLaws.{place_of as place_in, at_place, in_left, in_right, in_either, in_map, from_map, same_place, distinct_apart, front_more, front_in, last_in}
use Rattle.p21_schema.specs.declared.resolved.Target.{Target}
use Rattle.p21_schema.specs.declared.resolved.Target.TheVariants as target
use Rattle.p21_schema.specs.declared.resolved.Resolved.{Resolved}
use Rattle.p21_schema.specs.declared.resolved.Resolved.TheVariants as resolved
use Rattle.p21_schema.specs.declared.selects.Item.{Item}
use Rattle.p21_schema.specs.declared.selects.Item.TheVariants as item_kind
use Rattle.p21_schema.specs.Place.{no_type}
use Rattle.p21_schema.specs.Resolved.{target_name}
use Rattle.p21_schema.specs.Under.{IsResolved, AreResolved}
use Rattle.p21_schema.specs.Select.{IsItem, SelectReaches, item, through, ReachesType, ReachesEntity}
use Rattle.p21_schema.specs.SelectItems.{IsItemAt, kind_under, kind_of, place_of, targets_of, IsItemRow, IsItemGraph}
use Rattle.p21_schema.specs.SelectTable.{entity_named, type_named, IsSelectTable}
use Rattle.p21_schema.proofs.AncestryLemmas.{all_names, name_count, name_at, same_entity, distinct_entities}
use Rattle.p21_schema.proofs.UnderLemmas.{type_names, distinct_types}

-- what stands at a place
there : {X : Type 0} (xs : List X) (k : ℕ) → k < length xs → (x : X) × ((slice_get xs k ≡ Some x) × ((d : X) → get_or xs k d ≡ x))
there [] k h = absurd (omega arith)
there (x ∷ xs) zero h = (x, (refl, λ d. refl))
there (x ∷ xs) (suc k) h = there xs k (omega arith)

got : {X : Type 0} (xs : List X) (k : ℕ) (x : X) → slice_get xs k ≡ Some x → (k < length xs) × ((d : X) → get_or xs k d ≡ x)
got [] k x h = absurd cc
got (y ∷ ys) zero x h = (omega arith, λ d. let e : y ≡ x = cc in e)
got (y ∷ ys) (suc k) x h = let r = got ys k x h in (let less : k < length ys = r.0 in omega arith, r.1)

-- ---- rows of items

pub item_more : (unders : List Resolved) (wanted : Item) (ts : List Target) (row : List ℕ) (i : ℕ) (d : Target) → i < length ts → kind_of unders (get_or ts i d) ≡ wanted → IsItemRow unders wanted (take i ts) row → IsItemRow unders wanted (take (i + 1) ts) (row ++ place_of (get_or ts i d) ∷ [])
item_more unders wanted ts row i d less kind h k = (
  λ j. ⊎_elim
      (λ (l : IsIn row k). let r = (h k).0 l in record { target = r.target; item = front_in ts i d r.target less r.item; kind = r.kind; place = r.place })
      (λ (r : IsIn (place_of (get_or ts i d) ∷ []) k). ⊎_elim (λ (e : place_of (get_or ts i d) ≡ k). record { target = get_or ts i d; item = last_in ts i d less; kind = kind; place = e }) (λ (n : ⊥). absurd n) r)
      (in_either row (place_of (get_or ts i d) ∷ []) k j),
  λ r. ⊎_elim
      (λ (l : IsIn (take i ts) r.target). in_left row (place_of (get_or ts i d) ∷ []) k ((h k).1 (record { target = r.target; item = l; kind = r.kind; place = r.place })))
      (λ (e : get_or ts i d ≡ r.target). in_right row (place_of (get_or ts i d) ∷ []) k (inl (ap place_of e ∙ r.place)))
      (front_more ts i d r.target less r.item),
)

pub item_same : (unders : List Resolved) (wanted : Item) (ts : List Target) (row : List ℕ) (i : ℕ) (d : Target) → i < length ts → ¬ (kind_of unders (get_or ts i d) ≡ wanted) → IsItemRow unders wanted (take i ts) row → IsItemRow unders wanted (take (i + 1) ts) row
item_same unders wanted ts row i d less kind h k = (
  λ j. let r = (h k).0 j in record { target = r.target; item = front_in ts i d r.target less r.item; kind = r.kind; place = r.place },
  λ r. ⊎_elim
      (λ (l : IsIn (take i ts) r.target). (h k).1 (record { target = r.target; item = l; kind = r.kind; place = r.place }))
      (λ (e : get_or ts i d ≡ r.target). absurd (kind (ap (λ (u : Target). kind_of unders u) e ∙ r.kind)))
      (front_more ts i d r.target less r.item),
)

pub graph_more : (unders : List Resolved) (wanted : Item) (graph : List (List ℕ)) (row : List ℕ) (k : ℕ) (u : Resolved) → k < length unders → u ≡ get_or unders k u → length graph ≡ k → ((i : ℕ) (d : Resolved) → i < k → IsItemRow unders wanted (targets_of (get_or unders i d)) (get_or graph i [])) → IsItemRow unders wanted (targets_of u) row
    → (i : ℕ) (d : Resolved) → i < k + 1 → IsItemRow unders wanted (targets_of (get_or unders i d)) (get_or (graph ++ row ∷ []) i [])
graph_more unders wanted graph row k u less is long rows this i d l =
    ⊎_elim
    (λ (e : i ≡ k).
    let at : get_or unders k d ≡ u = let p = there unders k less in p.1.1 d ∙ sym (is ∙ p.1.1 u) in
    subst (λ (v : ℕ). IsItemRow unders wanted (targets_of (get_or unders v d)) (get_or (graph ++ row ∷ []) v [])) (sym e)
    (subst (λ (v : Resolved). IsItemRow unders wanted (targets_of v) (get_or (graph ++ row ∷ []) k [])) (sym at) (subst (λ (v : List ℕ). IsItemRow unders wanted (targets_of u) v) (sym (get_or_push graph row [] k long)) this)))
    (λ (ne : (i ≡ k) → ⊥).
    let before : i < k = omega arith in
    subst (λ (v : List ℕ). IsItemRow unders wanted (targets_of (get_or unders i d)) v) (sym (get_or_append_left graph (row ∷ []) [] i (omega arith))) (rows i d before))
    (cases_eq i k)

-- ---- what a target is

module _ (s : Schema) (formed : IsWellFormed s) (unders : List Resolved) (r : AreResolved (all_names s) (type_names s) unders s.types) where
  name_of_type : (i : ℕ) → i < length s.types → get_or (type_names s) i [] ≡ type_named s i
  name_of_type i less = get_or-map (λ (t : Defined). t.name) s.types i no_type [] less

  type_count : length (type_names s) ≡ length s.types
  type_count = length-map s.types (λ (t : Defined). t.name)

  same_type_at : (i j : ℕ) → i < length s.types → j < length s.types → type_named s i ≡ type_named s j → i ≡ j
  same_type_at i j li lj e = same_place (type_names s) i j [] (distinct_types s formed.repeated) (subst (λ u. i < u) (sym type_count) li) (subst (λ u. j < u) (sym type_count) lj) (name_of_type i li ∙ e ∙ sym (name_of_type j lj))

  -- the type of a name
  same_type : (t : Defined) (i : ℕ) → IsIn s.types t → i < length s.types → t.name ≡ type_named s i → get_or s.types i no_type ≡ t
  same_type t i there less e =
      let p = place_in s.types t there in
      let same : p.0 ≡ i = same_type_at p.0 i p.1.0 less (ap (λ (u : Defined). u.name) (p.1.1 no_type) ∙ e) in
      subst (λ (u : ℕ). get_or s.types u no_type ≡ t) same (p.1.1 no_type)

  type_place : (n : List ℕ) → IsType s n → (i : ℕ) × ((i < length s.types) × (type_named s i ≡ n))
  type_place n h =
      let f = from_map (λ (t : Defined). t.name) s.types n h in
      let p = place_in s.types f.0 f.1.0 in
      (p.0, (p.1.0, ap (λ (t : Defined). t.name) (p.1.1 no_type) ∙ f.1.1))

  -- no name is an entity's and a type's
  apart : (k j : ℕ) → k < length s.entities → j < length s.types → ¬ (entity_named s k ≡ type_named s j)
  apart k j lk lj e =
      distinct_apart (all_names s) (type_names s) (entity_named s k) formed.repeated.declarations
      (subst (λ (u : List ℕ). IsIn (all_names s) u) (name_at s k) (at_place (all_names s) k [] (subst (λ u. k < u) (sym (name_count s)) lk)))
      (subst (λ (u : List ℕ). IsIn (type_names s) u) (name_of_type j lj ∙ sym e) (at_place (type_names s) j [] (subst (λ u. j < u) (sym type_count) lj)))

  -- a type is a SELECT as what stands under it is
  kind_is : (found : Resolved) (u : Underlying) → IsResolved (all_names s) (type_names s) found u → (IsSelectType u × (kind_under (Some found) ≡ item_kind.Select)) ⊎ ((¬ (IsSelectType u)) × (kind_under (Some found) ≡ item_kind.Other))
  kind_is (resolved.Items v) (items ns) h = inr ((λ i. i), refl)
  kind_is (resolved.Items v) (select ns) h = absurd h
  kind_is (resolved.Items v) (plain e) h = absurd h
  kind_is (resolved.Select v) (items ns) h = absurd h
  kind_is (resolved.Select v) (select ns) h = inl (tt, refl)
  kind_is (resolved.Select v) (plain e) h = absurd h
  kind_is (resolved.Plain x) (items ns) h = absurd h
  kind_is (resolved.Plain x) (select ns) h = absurd h
  kind_is (resolved.Plain x) (plain e) h = inr ((λ i. i), refl)

  resolved_at : (i : ℕ) → i < length s.types → (u : Resolved) × ((slice_get unders i ≡ Some u) × (((d : Resolved) → get_or unders i d ≡ u) × IsResolved (all_names s) (type_names s) u (get_or s.types i no_type).under))
  resolved_at i less =
      let p = there unders i (subst (λ u. i < u) (sym r.count) less) in
      (p.0, (p.1.0, (p.1.1, subst (λ (u : Resolved). IsResolved (all_names s) (type_names s) u (get_or s.types i no_type).under) (p.1.1 p.0) (r.rows i p.0 less))))

  is_select : (i : ℕ) → i < length s.types → IsSelectType (get_or s.types i no_type).under → IsSelect s (type_named s i)
  is_select i less h = record { type = get_or s.types i no_type; declared = at_place s.types i no_type less; name_is = refl; selects = h }

  selects_at : (i : ℕ) → i < length s.types → IsSelect s (type_named s i) → IsSelectType (get_or s.types i no_type).under
  selects_at i less h = subst (λ (t : Defined). IsSelectType t.under) (sym (same_type h.type i h.declared less h.name_is)) h.selects

  kind_at : (i : ℕ) → i < length s.types → (IsSelect s (type_named s i) × (kind_under (slice_get unders i) ≡ item_kind.Select)) ⊎ ((¬ (IsSelect s (type_named s i))) × (kind_under (slice_get unders i) ≡ item_kind.Other))
  kind_at i less =
      let u = resolved_at i less in
      let e : kind_under (slice_get unders i) ≡ kind_under (Some u.0) = ap kind_under u.1.0 in
      ⊎_elim
      (λ (y : IsSelectType (get_or s.types i no_type).under × (kind_under (Some u.0) ≡ item_kind.Select)). inl (is_select i less y.0, e ∙ y.1))
      (λ (n : (¬ (IsSelectType (get_or s.types i no_type).under)) × (kind_under (Some u.0) ≡ item_kind.Other)). inr ((λ h. n.0 (selects_at i less h)), e ∙ n.1))
      (kind_is u.0 (get_or s.types i no_type).under u.1.1.1)

  -- what a target of a name is
  pub record Stands (wanted : Item) (Wanted : List ℕ → Type 0) (size : ℕ) (named : ℕ → List ℕ) : Type 0 where
    pub sound : (t : Target) (m : List ℕ) → target_name (all_names s) (type_names s) t ≡ Some m → kind_of unders t ≡ wanted → (place_of t < size) × ((named (place_of t) ≡ m) × Wanted m)
    pub complete : (t : Target) (m : List ℕ) (k : ℕ) → target_name (all_names s) (type_names s) t ≡ Some m → k < size → named k ≡ m → Wanted m → (kind_of unders t ≡ wanted) × (place_of t ≡ k)

  entity_got : (i : ℕ) (m : List ℕ) → slice_get (all_names s) i ≡ Some m → (i < length s.entities) × (entity_named s i ≡ m)
  entity_got i m h = let g = got (all_names s) i m h in (subst (λ u. i < u) (name_count s) g.0, sym (name_at s i) ∙ g.1 [])

  type_got : (i : ℕ) (m : List ℕ) → slice_get (type_names s) i ≡ Some m → (i < length s.types) × (type_named s i ≡ m)
  type_got i m h =
      let g = got (type_names s) i m h in
      let less : i < length s.types = subst (λ u. i < u) type_count g.0 in
      (less, sym (name_of_type i less) ∙ g.1 [])

  pub stands_entity : Stands item_kind.Entity (IsEntity s) (length s.entities) (entity_named s)
  stands_entity = record { sound = sound; complete = complete }
    where
      sound : (t : Target) (m : List ℕ) → target_name (all_names s) (type_names s) t ≡ Some m → kind_of unders t ≡ item_kind.Entity → (place_of t < length s.entities) × ((entity_named s (place_of t) ≡ m) × IsEntity s m)
      sound (target.Entity e) m h k =
          let g = entity_got e.index m h in
          (g.0, (g.1, subst (λ (u : List ℕ). IsIn (all_names s) u) (name_at s e.index ∙ g.1) (at_place (all_names s) e.index [] (subst (λ u. e.index < u) (sym (name_count s)) g.0))))
      sound (target.Defined t) m h k =
          let g = type_got t.index m h in
          ⊎_elim
          (λ (y : IsSelect s (type_named s t.index) × (kind_under (slice_get unders t.index) ≡ item_kind.Select)). absurd (let bad : item_kind.Select ≡ item_kind.Entity = sym y.1 ∙ k in cc))
          (λ (n : (¬ (IsSelect s (type_named s t.index))) × (kind_under (slice_get unders t.index) ≡ item_kind.Other)). absurd (let bad : item_kind.Other ≡ item_kind.Entity = sym n.1 ∙ k in cc))
          (kind_at t.index g.0)

      complete : (t : Target) (m : List ℕ) (k : ℕ) → target_name (all_names s) (type_names s) t ≡ Some m → k < length s.entities → entity_named s k ≡ m → IsEntity s m → (kind_of unders t ≡ item_kind.Entity) × (place_of t ≡ k)
      complete (target.Entity e) m k h less is w = let g = entity_got e.index m h in (refl, same_entity s (distinct_entities s formed.repeated) e.index k g.0 less (g.1 ∙ sym is))
      complete (target.Defined t) m k h less is w = let g = type_got t.index m h in absurd (apart k t.index less g.0 (is ∙ sym g.1))

  pub stands_select : Stands item_kind.Select (IsSelect s) (length s.types) (type_named s)
  stands_select = record { sound = sound; complete = complete }
    where
      sound : (t : Target) (m : List ℕ) → target_name (all_names s) (type_names s) t ≡ Some m → kind_of unders t ≡ item_kind.Select → (place_of t < length s.types) × ((type_named s (place_of t) ≡ m) × IsSelect s m)
      sound (target.Entity e) m h k = absurd (let bad : item_kind.Entity ≡ item_kind.Select = k in cc)
      sound (target.Defined t) m h k =
          let g = type_got t.index m h in
          ⊎_elim
          (λ (y : IsSelect s (type_named s t.index) × (kind_under (slice_get unders t.index) ≡ item_kind.Select)). (g.0, (g.1, subst (λ (u : List ℕ). IsSelect s u) g.1 y.0)))
          (λ (n : (¬ (IsSelect s (type_named s t.index))) × (kind_under (slice_get unders t.index) ≡ item_kind.Other)). absurd (let bad : item_kind.Other ≡ item_kind.Select = sym n.1 ∙ k in cc))
          (kind_at t.index g.0)

      complete : (t : Target) (m : List ℕ) (k : ℕ) → target_name (all_names s) (type_names s) t ≡ Some m → k < length s.types → type_named s k ≡ m → IsSelect s m → (kind_of unders t ≡ item_kind.Select) × (place_of t ≡ k)
      complete (target.Entity e) m k h less is w = let g = entity_got e.index m h in absurd (apart e.index k g.0 less (g.1 ∙ sym is))
      complete (target.Defined t) m k h less is w =
          let g = type_got t.index m h in
          ⊎_elim
          (λ (y : IsSelect s (type_named s t.index) × (kind_under (slice_get unders t.index) ≡ item_kind.Select)). (y.1, same_type_at t.index k g.0 less (g.1 ∙ sym is)))
          (λ (n : (¬ (IsSelect s (type_named s t.index))) × (kind_under (slice_get unders t.index) ≡ item_kind.Other)). absurd (n.0 (subst (λ (u : List ℕ). IsSelect s u) (sym g.1) w)))
          (kind_at t.index g.0)

  pub stands_other : Stands item_kind.Other (λ n. ¬ (IsSelect s n)) (length s.types) (type_named s)
  stands_other = record { sound = sound; complete = complete }
    where
      sound : (t : Target) (m : List ℕ) → target_name (all_names s) (type_names s) t ≡ Some m → kind_of unders t ≡ item_kind.Other → (place_of t < length s.types) × ((type_named s (place_of t) ≡ m) × ¬ (IsSelect s m))
      sound (target.Entity e) m h k = absurd (let bad : item_kind.Entity ≡ item_kind.Other = k in cc)
      sound (target.Defined t) m h k =
          let g = type_got t.index m h in
          ⊎_elim
          (λ (y : IsSelect s (type_named s t.index) × (kind_under (slice_get unders t.index) ≡ item_kind.Select)). absurd (let bad : item_kind.Select ≡ item_kind.Other = sym y.1 ∙ k in cc))
          (λ (n : (¬ (IsSelect s (type_named s t.index))) × (kind_under (slice_get unders t.index) ≡ item_kind.Other)). (g.0, (g.1, subst (λ (u : List ℕ). ¬ (IsSelect s u)) g.1 n.0)))
          (kind_at t.index g.0)

      complete : (t : Target) (m : List ℕ) (k : ℕ) → target_name (all_names s) (type_names s) t ≡ Some m → k < length s.types → type_named s k ≡ m → ¬ (IsSelect s m) → (kind_of unders t ≡ item_kind.Other) × (place_of t ≡ k)
      complete (target.Entity e) m k h less is w = let g = entity_got e.index m h in absurd (apart e.index k g.0 less (g.1 ∙ sym is))
      complete (target.Defined t) m k h less is w =
          let g = type_got t.index m h in
          ⊎_elim
          (λ (y : IsSelect s (type_named s t.index) × (kind_under (slice_get unders t.index) ≡ item_kind.Select)). absurd (w (subst (λ (u : List ℕ). IsSelect s u) g.1 y.0)))
          (λ (n : (¬ (IsSelect s (type_named s t.index))) × (kind_under (slice_get unders t.index) ≡ item_kind.Other)). (n.1, same_type_at t.index k g.0 less (g.1 ∙ sym is)))
          (kind_at t.index g.0)

  -- ---- the graph of one kind of items

  names_of : (found : Resolved) (u : Underlying) (t : Target) → IsResolved (all_names s) (type_names s) found u → IsIn (targets_of found) t → (ns : List (List ℕ)) × ((u ≡ select ns) × (map (target_name (all_names s) (type_names s)) (targets_of found) ≡ map Some ns))
  names_of (resolved.Items v) u t h i = absurd i
  names_of (resolved.Plain x) u t h i = absurd i
  names_of (resolved.Select v) (items ns) t h i = absurd h
  names_of (resolved.Select v) (select ns) t h i = (ns, (refl, h))
  names_of (resolved.Select v) (plain e) t h i = absurd h

  targets_named : (found : Resolved) (ns : List (List ℕ)) → IsResolved (all_names s) (type_names s) found (select ns) → map (target_name (all_names s) (type_names s)) (targets_of found) ≡ map Some ns
  targets_named (resolved.Items v) ns h = absurd h
  targets_named (resolved.Plain x) ns h = absurd h
  targets_named (resolved.Select v) ns h = h

  named_in : (i : ℕ) → i < length s.types → (found : Resolved) (t : Target) (ns : List (List ℕ)) → (get_or s.types i no_type).under ≡ select ns → map (target_name (all_names s) (type_names s)) (targets_of found) ≡ map Some ns → IsIn (targets_of found) t
      → (m : List ℕ) × ((target_name (all_names s) (type_names s) t ≡ Some m) × IsItem s (type_named s i) m)
  named_in i less found t ns u e h =
      let f = from_map (λ (m : List ℕ). Some m) ns (target_name (all_names s) (type_names s) t) (subst (λ (v : List (Option (List ℕ))). IsIn v (target_name (all_names s) (type_names s) t)) e (in_map (target_name (all_names s) (type_names s)) (targets_of found) t h)) in
      (f.0, (sym f.1.1, record { type = get_or s.types i no_type; items = ns; declared = at_place s.types i no_type less; name_is = refl; under = u; item = f.1.0 }))

  -- a target that stands under a type names an item
  item_name : (i : ℕ) → i < length s.types → (found : Resolved) → IsResolved (all_names s) (type_names s) found (get_or s.types i no_type).under → (t : Target) → IsIn (targets_of found) t → (m : List ℕ) × ((target_name (all_names s) (type_names s) t ≡ Some m) × IsItem s (type_named s i) m)
  item_name i less found h t there = let n = names_of found (get_or s.types i no_type).under t h there in named_in i less found t n.0 n.1.0 n.1.1 there

  module _ (wanted : Item) (Wanted : List ℕ → Type 0) (size : ℕ) (named : ℕ → List ℕ) (stands : Stands wanted Wanted size named) (graph : List (List ℕ)) (g : IsItemGraph unders wanted graph) where
    edge_at : (i k : ℕ) → HasEdge graph i k → i < length s.types
    edge_at i k e = ⊎_elim
        (λ (l : i < length graph). subst (λ u. i < u) (g.count ∙ r.count) l)
        (λ (h : length graph ≤ i). absurd (subst (λ (u : List ℕ). IsIn u k) (get_or_past graph i [] h) e))
        (cases_lt i (length graph))

    -- what stands under a type, and the row of its items
    record RowAt (i : ℕ) : Type 0 where
      found : Resolved
      under : IsResolved (all_names s) (type_names s) found (get_or s.types i no_type).under
      row : IsItemRow unders wanted (targets_of found) (get_or graph i [])

    row_at : (i : ℕ) → i < length s.types → RowAt i
    row_at i less =
        let u = resolved_at i less in
        record { found = u.0; under = u.1.1.1; row = subst (λ (v : Resolved). IsItemRow unders wanted (targets_of v) (get_or graph i [])) (u.1.1.0 u.0) (g.rows i u.0 (subst (λ v. i < v) (sym r.count) less)) }

    moved : (i k p : ℕ) (m : List ℕ) → p ≡ k → (p < size) × ((named p ≡ m) × Wanted m) → IsItem s (type_named s i) m → (k < size) × (IsItem s (type_named s i) (named k) × Wanted (named k))
    moved i k p m e h it =
        let is : named k ≡ m = ap named (sym e) ∙ h.1.0 in
        (subst (λ (v : ℕ). v < size) e h.0, (subst (λ (v : List ℕ). IsItem s (type_named s i) v) (sym is) it, subst Wanted (sym is) h.1.1))

    item_of : (i k : ℕ) → i < length s.types → (found : Resolved) → IsResolved (all_names s) (type_names s) found (get_or s.types i no_type).under → IsItemAt unders wanted (targets_of found) k → (k < size) × (IsItem s (type_named s i) (named k) × Wanted (named k))
    item_of i k less found h at =
        let n = item_name i less found h at.target at.item in
        moved i k (place_of at.target) n.0 at.place (stands.sound at.target n.0 n.1.0 at.kind) n.1.1

    edge_item : (i k : ℕ) → HasEdge graph i k → (k < size) × (IsItem s (type_named s i) (named k) × Wanted (named k))
    edge_item i k e =
        let less = edge_at i k e in
        let p = row_at i less in
        item_of i k less p.found p.under ((p.row k).0 e)

    at_of : (k : ℕ) (found : Resolved) (ns : List (List ℕ)) → IsResolved (all_names s) (type_names s) found (select ns) → k < size → IsIn ns (named k) → Wanted (named k) → IsItemAt unders wanted (targets_of found) k
    at_of k found ns h lk there w =
        let f = from_map (target_name (all_names s) (type_names s)) (targets_of found) (Some (named k)) (subst (λ (v : List (Option (List ℕ))). IsIn v (Some (named k))) (sym (targets_named found ns h)) (in_map (λ (m : List ℕ). Some m) ns (named k) there)) in
        let c = stands.complete f.0 (named k) k f.1.1 lk refl w in
        record { target = f.0; item = f.1.0; kind = c.0; place = c.1 }

    item_edge : (i k : ℕ) → i < length s.types → k < size → IsItem s (type_named s i) (named k) → Wanted (named k) → HasEdge graph i k
    item_edge i k less lk it w =
        let p = row_at i less in
        let under : (get_or s.types i no_type).under ≡ select it.items = ap (λ (t : Defined). t.under) (same_type it.type i it.declared less it.name_is) ∙ it.under in
        (p.row k).1 (at_of k p.found it.items (subst (λ (v : Underlying). IsResolved (all_names s) (type_names s) p.found v) under p.under) lk it.item w)

    pub items_below : AreEdgesBelow graph size
    items_below i k e = (edge_item i k e).0

  -- ---- the SELECTs among the items

  module _ (inner : List (List ℕ)) (g : IsItemGraph unders item_kind.Select inner) where
    inner_edge : (i k : ℕ) → HasEdge inner i k → IsInnerSelect s (type_named s i) (type_named s k)
    inner_edge i k e =
        let h = edge_item item_kind.Select (IsSelect s) (length s.types) (type_named s) stands_select inner g i k e in
        let it = h.1.0 in
        record { type = it.type; items = it.items; declared = it.declared; name_is = it.name_is; under = it.under; item = it.item; selects = h.1.1 }

    pub inner_below : AreEdgesBelow inner (length inner)
    inner_below i k e = subst (λ u. k < u) (sym (g.count ∙ r.count)) (items_below item_kind.Select (IsSelect s) (length s.types) (type_named s) stands_select inner g i k e)

    leads_inner : {a b : ℕ} → Leads (HasEdge inner) a b → Leads (IsInnerSelect s) (type_named s a) (type_named s b)
    leads_inner {a} {b} (one e) = one (inner_edge a b e)
    leads_inner {a} (more {b = w} e l) = more (inner_edge a w e) (leads_inner l)

    pub no_inner_cycle : HasNoCycle (HasEdge inner)
    no_inner_cycle a l = formed.cycles.selects (type_named s a) (leads_inner l)

    -- an inner SELECT by name is one by place
    edge_inner : (i : ℕ) (b : List ℕ) → i < length s.types → IsInnerSelect s (type_named s i) b → (k : ℕ) × ((k < length s.types) × ((type_named s k ≡ b) × HasEdge inner i k))
    edge_inner i b less h =
        let p = type_place b (subst (λ (u : List ℕ). IsIn (type_names s) u) h.selects.name_is (in_map (λ (t : Defined). t.name) s.types h.selects.type h.selects.declared)) in
        let it : IsItem s (type_named s i) (type_named s p.0) = record { type = h.type; items = h.items; declared = h.declared; name_is = h.name_is; under = h.under; item = subst (λ (u : List ℕ). IsIn h.items u) (sym p.1.1) h.item } in
        (p.0, (p.1.0, (p.1.1, item_edge item_kind.Select (IsSelect s) (length s.types) (type_named s) stands_select inner g i p.0 less p.1.0 it (subst (λ (u : List ℕ). IsSelect s u) (sym p.1.1) h.selects))))

    module _ (wanted : Item) (Wanted : List ℕ → Type 0) (size : ℕ) (named : ℕ → List ℕ) (stands : Stands wanted Wanted size named) (direct : List (List ℕ)) (d : IsItemGraph unders wanted direct) where
      pub reaches_names : {i k : ℕ} → Reaches direct inner i k → (k < size) × (Wanted (named k) × SelectReaches s (type_named s i) (named k))
      reaches_names {i} {k} (here e) = let h = edge_item wanted Wanted size named stands direct d i k e in (h.0, (h.1.1, item h.1.0))
      reaches_names {i} (onward {b = w} e l) = let h = reaches_names l in (h.0, (h.1.0, through (inner_edge i w e) h.1.1))

      pub names_reach : {x y : List ℕ} → SelectReaches s x y → (i k : ℕ) → i < length s.types → k < size → x ≡ type_named s i → y ≡ named k → Wanted (named k) → Reaches direct inner i k
      names_reach {x} {y} (item it) i k li lk ex ey w = here (item_edge wanted Wanted size named stands direct d i k li lk (subst (λ (u : List ℕ). IsItem s (type_named s i) u) ey (subst (λ (u : List ℕ). IsItem s u y) ex it)) w)
      names_reach {x} {y} (through {b = b} h l) i k li lk ex ey w =
          let p = edge_inner i b li (subst (λ (u : List ℕ). IsInnerSelect s u b) ex h) in
          onward p.1.1.1 (names_reach l p.0 k p.1.0 lk (sym p.1.1.0) ey w)

      pub select_table : (table : Bits) → IsReachTable direct size inner table → IsSelectTable s Wanted size named table
      select_table table t = record {
        rows = t.rows ∙ g.count ∙ r.count;
        columns = t.columns;
        holds = λ i k less.
            let row = t.holds i k (subst (λ u. i < u) (sym (g.count ∙ r.count)) less) in
            (λ m. reaches_names (row.0 m), λ p. row.1 (names_reach p.1.1 i k less p.0 refl refl p.1.0));
      }

pub entity_at_place : (s : Schema) (k : ℕ) → k < length s.entities → IsEntity s (entity_named s k)
entity_at_place s k lk = subst (λ (u : List ℕ). IsIn (all_names s) u) (name_at s k) (at_place (all_names s) k [] (subst (λ u. k < u) (sym (name_count s)) lk))

-- ---- what the tables tell

pub entity_reached : (s : Schema) (table : Bits) (i k : ℕ) → IsSelectTable s (IsEntity s) (length s.entities) (entity_named s) table → i < length s.types → k < length s.entities → Holds table i k ↔ SelectReaches s (type_named s i) (entity_named s k)
entity_reached s table i k t li lk =
    let row = t.holds i k li in
    (λ m. (row.0 m).1.1, λ h. row.1 (lk, (entity_at_place s k lk, h)))

pub some_reached : (s : Schema) (table : Bits) (i : ℕ) → IsSelectTable s (IsEntity s) (length s.entities) (entity_named s) table → i < length s.types → ((k : ℕ) × Holds table i k) ↔ ReachesEntity s (type_named s i)
some_reached s table i t li = (
  λ m. let h = (t.holds i m.0 li).0 m.1 in (entity_named s m.0, h.1),
  λ e.
      let p = place_in (all_names s) e.0 e.1.0 in
      let lk : p.0 < length s.entities = subst (λ u. p.0 < u) (name_count s) p.1.0 in
      let is : entity_named s p.0 ≡ e.0 = sym (name_at s p.0) ∙ p.1.1 [] in
      (p.0, (t.holds i p.0 li).1 (lk, (subst (λ (u : List ℕ). IsEntity s u) (sym is) e.1.0, subst (λ (u : List ℕ). SelectReaches s (type_named s i) u) (sym is) e.1.1))),
)

-- the place of a type's name
pub placed : (s : Schema) (names : List (List ℕ)) (k : ℕ) (n : List ℕ) → names ≡ map (λ (t : Defined). t.name) s.types → (k < length names) × (get_or names k [] ≡ n) → (k < length s.types) × (type_named s k ≡ n)
placed s names k n is h =
    let name : Defined → List ℕ = λ t. t.name in
    let less : k < length s.types = subst (λ u. k < u) (ap (λ (u : List (List ℕ)). length u) is ∙ length-map s.types name) h.0 in
    (less, sym (get_or-map name s.types k no_type [] less) ∙ ap (λ (u : List (List ℕ)). get_or u k []) (sym is) ∙ h.1)

type_at_place : (s : Schema) (k : ℕ) → k < length s.types → IsType s (type_named s k)
type_at_place s k less = in_map (λ (t : Defined). t.name) s.types (get_or s.types k no_type) (at_place s.types k no_type less)

pub type_reached : (s : Schema) (table : Bits) (i k : ℕ) (n : List ℕ) → IsSelectTable s (λ n. ¬ (IsSelect s n)) (length s.types) (type_named s) table → i < length s.types → k < length s.types → type_named s k ≡ n → Holds table i k → ReachesType s (type_named s i) n
type_reached s table i k n t li lk is m =
    let h = (t.holds i k li).0 m in
    subst (λ (u : List ℕ). ReachesType s (type_named s i) u) is (record { type = type_at_place s k lk; plain = h.1.0; reached = h.1.1 })

pub type_not_reached : (s : Schema) (table : Bits) (i k : ℕ) (n : List ℕ) → IsSelectTable s (λ n. ¬ (IsSelect s n)) (length s.types) (type_named s) table → i < length s.types → k < length s.types → type_named s k ≡ n → ¬ (Holds table i k) → ¬ (ReachesType s (type_named s i) n)
type_not_reached s table i k n t li lk is m h =
    let g : ReachesType s (type_named s i) (type_named s k) = subst (λ (u : List ℕ). ReachesType s (type_named s i) u) (sym is) h in
    m ((t.holds i k li).1 (lk, (g.plain, g.reached)))
