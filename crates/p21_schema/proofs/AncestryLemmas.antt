-- Supertypes and ancestors, by places and by names.
use Rattle.std.proofs.Common.{◌≡◌, ℕ, ◌+◌, ◌<◌, ◌≤◌, ◌↔◌, List, [], ◌∷◌, ◌++◌, length, get_or, take, map, refl, sym, ap, ◌∙◌, subst, inl, inr, ⊎_elim, arith}
use Rattle.std.specs.Prelude.{Vec}
use Rattle.std.proofs.lemmas.Bool.{cases_eq, cases_lt}
use Rattle.std.proofs.lemmas.List.{map_push, take_more, get_or_append_left, get_or_push, length_push, get_or-take, length-take-le, length-map, get_or-map, get_or_past}
use Rattle.std.specs.List.{AllByRecursion}
use Rattle.p21_express.specs.Schema.{Schema, Entity, Defined}
use Rattle.p21_express.specs.WellFormed.{IsIn, AreDistinct, Leads, HasNoCycle, IsSupertype, IsAncestor, IsEntity, HasNoRepeated, HasNoUnknown}
use Rattle.p21_graph.specs.Graph.{one, more, HasEdge, AreEdgesBelow, rows_of, plain_graph}
use Rattle.p21_graph.specs.Reach.{IsReach, IsWithin, itself, through as inside}
use Rattle.p21_graph.specs.declared.bits.Bits.{Bits}
use Rattle.p21_graph.specs.GraphLaws.{rows_push, row_is, row_count}
use Rattle.p21_graph.specs.MemberLaws.{place_of, at_place, in_either, in_map, from_map, same_place, holds_of, distinct_left}
use Rattle.p21_schema.specs.Place.{no_entity, entity_name, IsEntityOf}
use Rattle.p21_schema.specs.Ancestry.{entity_id, AreNamed, AreSupertypesNamed, NameEntities, IsSupertypeTable, IsAncestryTable, IsA}
use Rattle.p21_schema.specs.declared.ids.EntityId.{EntityId}

pub named_push : (names ns : List (List ℕ)) (places : List ℕ) (i : ℕ) (n : List ℕ) → AreNamed names places ns → i < length names → get_or names i [] ≡ n → AreNamed names (places ++ i ∷ []) (ns ++ n ∷ [])
named_push names ns places i n h less at = record {
  named = map_push (λ (j : ℕ). get_or names j []) places i ∙ (λ k. h.named k ++ at k ∷ []);
  below = λ j m. ⊎_elim (λ (l : IsIn places j). h.below j l) (λ (r : IsIn (i ∷ []) j). ⊎_elim (λ (e : i ≡ j). subst (λ u. u < length names) e less) (λ (n' : ⊥). absurd n') r) (in_either places (i ∷ []) j m);
}

-- the next of some names of the code
pub named_more : {A : Type 0} (names : List (List ℕ)) (ks : List (Vec ℕ A)) (places : List ℕ) (k : ℕ) (x : Vec ℕ A) (n : List ℕ) (i : ℕ) → k < length ks → x ≡ get_or ks k x → n ≡ x.items
    → AreNamed names places (take k (map (λ (v : Vec ℕ A). v.items) ks)) → i < length names → get_or names i [] ≡ n → AreNamed names (places ++ i ∷ []) (take (k + 1) (map (λ (v : Vec ℕ A). v.items) ks))
named_more {A} names ks places k x n i less at is h below found =
    let f : Vec ℕ A → List ℕ = λ v. v.items in
    let less' : k < length (map f ks) = rw (length-map ks f) less in
    let e : get_or (map f ks) k [] ≡ n = get_or-map f ks k x [] less ∙ ap f (sym at) ∙ sym is in
    rw (take_more (map f ks) k [] less', e) (named_push names (take k (map f ks)) places i n h below found)

pub supertypes_push : (names graph : List (List ℕ)) (entities : List Entity) (row : List ℕ) (k : ℕ) → k < length entities → AreSupertypesNamed names graph (take k entities) → AreNamed names row (get_or entities k no_entity).supertypes → AreSupertypesNamed names (graph ++ row ∷ []) (take (k + 1) entities)
supertypes_push names graph entities row k less h this = record {
  count = length_push graph row ∙ (λ j. h.count j + 1) ∙ ap (λ (n : ℕ). n + 1) (length-take-le k entities (omega arith)) ∙ sym (length-take-le (k + 1) entities (omega arith));
  rows = λ i l.
      let long : length graph ≡ k = h.count ∙ length-take-le k entities (omega arith) in
      let l' : i < k + 1 = subst (λ u. i < u) (length-take-le (k + 1) entities (omega arith)) l in
      ⊎_elim
      (λ (e : i ≡ k). rw (e, get_or_push graph row [] k long, get_or-take (k + 1) entities k no_entity (omega arith)) this)
      (λ (ne : (i ≡ k) → ⊥).
      let before : i < k = omega arith in
      let b : AreNamed names (get_or graph i []) (get_or (take k entities) i no_entity).supertypes = h.rows i (subst (λ u. i < u) (sym (length-take-le k entities (omega arith))) before) in
      rw (get_or_append_left graph (row ∷ []) [] i (omega arith), get_or-take (k + 1) entities i no_entity l') (rw (get_or-take k entities i no_entity before) at b))
      (cases_eq i k);
}

-- the names of all entities, and the name at a place
abbrev pub all_names : Schema → List (List ℕ)
all_names s = map (λ (e : Entity). e.name) s.entities

pub name_count : (s : Schema) → length (all_names s) ≡ length s.entities
name_count s = length-map s.entities (λ (e : Entity). e.name)

pub name_at : (s : Schema) (i : ℕ) → get_or (all_names s) i [] ≡ entity_name s (entity_id i)
name_at s i = ⊎_elim
    (λ (l : i < length s.entities). get_or-map (λ (e : Entity). e.name) s.entities i no_entity [] l)
    (λ (g : length s.entities ≤ i). get_or_past (all_names s) i [] (subst (λ u. u ≤ i) (sym (name_count s)) g) ∙ sym (ap (λ (e : Entity). e.name) (get_or_past s.entities i no_entity g)))
    (cases_lt i (length s.entities))

-- two places with one name are one
pub same_entity : (s : Schema) → AreDistinct (all_names s) → (a b : ℕ) → a < length s.entities → b < length s.entities → entity_name s (entity_id a) ≡ entity_name s (entity_id b) → a ≡ b
same_entity s distinct a b la lb e = same_place (all_names s) a b [] distinct (subst (λ u. a < u) (sym (name_count s)) la) (subst (λ u. b < u) (sym (name_count s)) lb) (name_at s a ∙ e ∙ sym (name_at s b))

module _ (s : Schema) (graph : List (List ℕ)) (h : AreSupertypesNamed (map (λ (e : Entity). e.name) s.entities) graph s.entities) where
  abbrev name_of : ℕ → List ℕ
  name_of i = entity_name s (entity_id i)

  -- an edge has both its ends among the entities
  pub edge_at : (a b : ℕ) → HasEdge graph a b → a < length s.entities
  edge_at a b e = ⊎_elim
      (λ (l : a < length graph). subst (λ u. a < u) h.count l)
      (λ (g : length graph ≤ a). absurd (subst (λ (u : List ℕ). IsIn u b) (get_or_past graph a [] g) e))
      (cases_lt a (length graph))

  pub edges_below : AreEdgesBelow graph (length graph)
  edges_below a b e = subst (λ u. b < u) (name_count s ∙ sym h.count) ((h.rows a (edge_at a b e)).below b e)

  pub edge_names : (a b : ℕ) → HasEdge graph a b → IsSupertype s (name_of a) (name_of b)
  edge_names a b e =
      let at = edge_at a b e in
      record {
        entity = get_or s.entities a no_entity;
        declared = at_place s.entities a no_entity at;
        name_is = refl;
        named = subst (λ (u : List (List ℕ)). IsIn u (name_of b)) (h.rows a at).named (subst (λ (u : List ℕ). IsIn (map (λ i. get_or (all_names s) i []) (get_or graph a [])) u) (name_at s b) (in_map (λ i. get_or (all_names s) i []) (get_or graph a []) b e));
      }

  leads_names : {a b : ℕ} → Leads (HasEdge graph) a b → IsAncestor s (name_of a) (name_of b)
  leads_names {a} {b} (one e) = one (edge_names a b e)
  leads_names {a} (more {b = w} e l) = more (edge_names a w e) (leads_names l)

  pub no_cycle : HasNoCycle (IsSupertype s) → HasNoCycle (HasEdge graph)
  no_cycle none a l = none (name_of a) (leads_names l)

  within_is_a : {a b : ℕ} → IsWithin graph a b → IsA s (entity_id a) (entity_id b)
  within_is_a (itself e) = inl (ap name_of e)
  within_is_a {a} {b} (inside {b = w} edge r) =
      let step : IsSupertype s (name_of a) (name_of w) = edge_names a w edge in
      ⊎_elim (λ (same : name_of w ≡ name_of b). inr (one (subst (λ u. IsSupertype s (name_of a) u) same step))) (λ (up : IsAncestor s (name_of w) (name_of b)). inr (more step up)) (within_is_a r)

  module _ (distinct : AreDistinct (all_names s)) where
    -- a supertype by name is one by place
    pub names_edge : (a : ℕ) (n : List ℕ) → a < length s.entities → IsSupertype s (name_of a) n → (w : ℕ) × (HasEdge graph a w × (name_of w ≡ n))
    names_edge a n la st =
        let p = place_of s.entities st.entity st.declared in
        let at : get_or s.entities p.0 no_entity ≡ st.entity = p.1.1 no_entity in
        let same : p.0 ≡ a = same_entity s distinct p.0 a p.1.0 la (ap (λ (e : Entity). e.name) at ∙ st.name_is) in
        let e : get_or s.entities a no_entity ≡ st.entity = subst (λ u. get_or s.entities u no_entity ≡ st.entity) same at in
        let i : IsIn (get_or s.entities a no_entity).supertypes n = subst (λ (u : Entity). IsIn u.supertypes n) (sym e) st.named in
        let f = from_map (λ j. get_or (all_names s) j []) (get_or graph a []) n (subst (λ (u : List (List ℕ)). IsIn u n) (sym (h.rows a la).named) i) in
        (f.0, (f.1.0, sym (name_at s f.0) ∙ f.1.1))

    names_within : {x y : List ℕ} → IsAncestor s x y → (a b : ℕ) → a < length s.entities → b < length s.entities → x ≡ name_of a → y ≡ name_of b → IsWithin graph a b
    names_within {x} {y} (one st) a b la lb ex ey =
        let w = names_edge a y la (subst (λ u. IsSupertype s u y) ex st) in
        let lw : w.0 < length s.entities = subst (λ u. w.0 < u) (name_count s) ((h.rows a la).below w.0 w.1.0) in
        let e : w.0 ≡ b = same_entity s distinct w.0 b lw lb (w.1.1 ∙ ey) in
        inside w.1.0 (itself e)
    names_within {x} {y} (more {b = m} st l) a b la lb ex ey =
        let w = names_edge a m la (subst (λ u. IsSupertype s u m) ex st) in
        let lw : w.0 < length s.entities = subst (λ u. w.0 < u) (name_count s) ((h.rows a la).below w.0 w.1.0) in
        inside w.1.0 (names_within l w.0 b lw lb (sym w.1.1) ey)

    pub ancestry_table : (table : Bits) → IsReach graph table → IsAncestryTable s table
    ancestry_table table t = record {
      rows = t.rows ∙ h.count;
      columns = t.columns ∙ h.count;
      holds = λ a b la lb.
          let row = t.holds a b (subst (λ u. a < u) (sym h.count) la) in
          (λ m. within_is_a (row.0 m), λ i. row.1 (⊎_elim (λ (e : name_of a ≡ name_of b). itself (same_entity s distinct a b la lb e)) (λ (n : IsAncestor s (name_of a) (name_of b)). names_within n a b la lb refl refl) i));
    }

  pub supertype_table : IsSupertypeTable s (map (map entity_id) graph)
  supertype_table = record {
    count = length-map graph (map entity_id) ∙ h.count;
    rows = λ i l.
        let g : i < length graph = subst (λ u. i < u) (sym h.count) l in
        rw (get_or-map (map entity_id) graph i [] [] g) (row (get_or graph i []) (get_or s.entities i no_entity).supertypes (h.rows i l));
  }
    where
      names_map : (places : List ℕ) → map (λ e. entity_name s e) (map entity_id places) ≡ map (λ i. get_or (all_names s) i []) places
      names_map [] = refl
      names_map (i ∷ is) = λ j. sym (name_at s i) j ∷ names_map is j

      row : (places : List ℕ) (ns : List (List ℕ)) → AreNamed (all_names s) places ns → NameEntities s (map entity_id places) ns
      row places ns n = record {
        named = names_map places ∙ n.named;
        known = λ e i. let f = from_map entity_id places e i in subst (λ (u : _). IsEntityOf s u) f.1.1 (subst (λ u. f.0 < u) (name_count s) (n.below f.0 f.1.0));
      }

pub ids_more : {A B : Type 0} (old new : Vec (Vec EntityId B) B) (graph : Vec (Vec ℕ A) A) (row : Vec EntityId B) (places : Vec ℕ A) (now : List ℕ) (k : ℕ) → k < length graph.items → places ≡ get_or graph.items k places → now ≡ places.items → row.items ≡ map entity_id now → new.items ≡ old.items ++ row ∷ []
    → rows_of old ≡ map (map entity_id) (take k (plain_graph graph)) → rows_of new ≡ map (map entity_id) (take (k + 1) (plain_graph graph))
ids_more {A} {B} old new graph row places now k less at is ids pushed h =
    let less' : k < length (plain_graph graph) = rw (row_count graph, graph.ok.0) less in
    let e : get_or (plain_graph graph) k [] ≡ now = row_is graph k places less at ∙ sym is in
    rows_push old new row pushed ∙ (λ j. h j ++ ids j ∷ []) ∙ sym (map_push (map entity_id) (take k (plain_graph graph)) now) ∙ ap (λ (xs : List (List ℕ)). map (map entity_id) xs) (ap (λ (u : List ℕ). take k (plain_graph graph) ++ u ∷ []) (sym e) ∙ sym (take_more (plain_graph graph) k [] less'))

-- the names of entities differ, and each supertype is an entity
pub distinct_entities : (s : Schema) → HasNoRepeated s → AreDistinct (map (λ (e : Entity). e.name) s.entities)
distinct_entities s h = distinct_left (map (λ (e : Entity). e.name) s.entities) (map (λ (t : Defined). t.name) s.types) h.declarations

pub supertypes_known : (s : Schema) → HasNoUnknown s → (e : Entity) (n : List ℕ) → IsIn s.entities e → IsIn e.supertypes n → IsIn (map (λ (e : Entity). e.name) s.entities) n
supertypes_known s h e n i j = holds_of (IsEntity s) e.supertypes n (holds_of (λ (e : Entity). AllByRecursion (IsEntity s) e.supertypes) s.entities e h.supertypes i) j

pub named_by : {X : Type 0} (plain : X → Entity) (names graph : List (List ℕ)) (xs ys all : List X) → names ≡ map (λ (e : Entity). e.name) (map plain xs) → xs ≡ all → ys ≡ all → AreSupertypesNamed names graph (map plain ys) → AreSupertypesNamed (map (λ (e : Entity). e.name) (map plain all)) graph (map plain all)
named_by {X} plain names graph xs ys all n x y h = subst (λ (u : List X). AreSupertypesNamed (map (λ (e : Entity). e.name) (map plain all)) graph (map plain u)) y (subst (λ (u : List (List ℕ)). AreSupertypesNamed u graph (map plain ys)) (n ∙ ap (λ (u : List X). map (λ (e : Entity). e.name) (map plain u)) x) h)
