-- What stands under types.
use Rattle.std.proofs.Common.{◌≡◌, ℕ, ◌+◌, ◌<◌, ◌≤◌, List, [], ◌∷◌, ◌++◌, Some, None, length, get_or, set, take, map, refl, sym, ap, ◌∙◌, subst, inl, ⊎_elim, arith}
use Rattle.std.specs.Prelude.{slice_get}
use Rattle.std.proofs.lemmas.Bool.{cases_eq, cases_lt}
use Rattle.std.proofs.lemmas.List.{get_or_append_left, get_or_push, length_push, get_or-take, length-take-le, length-map, get_or-map, get_or_past, get_or-set_same, get_or-set_other}
use Rattle.p21_express.specs.Schema.{Schema, Entity, Defined, Underlying, items, select, plain, named}
use Rattle.p21_express.specs.WellFormed.{IsIn, AreDistinct, Leads, HasNoCycle, IsOther, IsEntity, IsType, HasNoRepeated, HasNoUnknown, IsKnownUnder}
use Rattle.p21_graph.specs.Graph.{one, more, HasEdge, AreEdgesBelow}
use Rattle.p21_graph.specs.MemberLaws.{at_place, distinct_right, holds_of, front_more, from_map}
use Rattle.p21_schema.specs.declared.resolved.Resolved.{Resolved}
use Rattle.p21_schema.specs.declared.ids.TypeId.{TypeId}
use Rattle.p21_schema.specs.Place.{no_type, type_name, IsTypeOf}
use Rattle.p21_schema.specs.Under.{StandsUnder, itself, followed, IsResolved, IsOtherRow, AreOthers, IsEnd, AreEnds, AreKnown, AreResolved, IsResolvedIn}

pub others_push : (types graph : List (List ℕ)) (all : List Defined) (row : List ℕ) (k : ℕ) → k < length all → AreOthers types graph (take k all) → IsOtherRow types row (get_or all k no_type).under → AreOthers types (graph ++ row ∷ []) (take (k + 1) all)
others_push types graph all row k less h this = record {
  count = length_push graph row ∙ (λ j. h.count j + 1) ∙ ap (λ (n : ℕ). n + 1) (length-take-le k all (omega arith)) ∙ sym (length-take-le (k + 1) all (omega arith));
  rows = λ i l.
      let long : length graph ≡ k = h.count ∙ length-take-le k all (omega arith) in
      let l' : i < k + 1 = subst (λ u. i < u) (length-take-le (k + 1) all (omega arith)) l in
      ⊎_elim
      (λ (e : i ≡ k). rw (e, get_or_push graph row [] k long, get_or-take (k + 1) all k no_type (omega arith)) this)
      (λ (ne : (i ≡ k) → ⊥).
      let before : i < k = omega arith in
      let b : IsOtherRow types (get_or graph i []) (get_or (take k all) i no_type).under = h.rows i (subst (λ u. i < u) (sym (length-take-le k all (omega arith))) before) in
      rw (get_or_append_left graph (row ∷ []) [] i (omega arith), get_or-take (k + 1) all i no_type l') (rw (get_or-take k all i no_type before) at b))
      (cases_eq i k);
}

pub resolved_push : (entities types : List (List ℕ)) (found : List Resolved) (all : List Defined) (one' : Resolved) (k : ℕ) → k < length all → AreResolved entities types found (take k all) → IsResolved entities types one' (get_or all k no_type).under → AreResolved entities types (found ++ one' ∷ []) (take (k + 1) all)
resolved_push entities types found all one' k less h this = record {
  count = length_push found one' ∙ (λ j. h.count j + 1) ∙ ap (λ (n : ℕ). n + 1) (length-take-le k all (omega arith)) ∙ sym (length-take-le (k + 1) all (omega arith));
  rows = λ i d l.
      let long : length found ≡ k = h.count ∙ length-take-le k all (omega arith) in
      let l' : i < k + 1 = subst (λ u. i < u) (length-take-le (k + 1) all (omega arith)) l in
      ⊎_elim
      (λ (e : i ≡ k). subst (λ u. IsResolved entities types (get_or (found ++ one' ∷ []) u d) (get_or (take (k + 1) all) u no_type).under) (sym e)
      (subst (λ (u : Resolved). IsResolved entities types u (get_or (take (k + 1) all) k no_type).under) (sym (get_or_push found one' d k long)) (subst (λ (u : Defined). IsResolved entities types one' u.under) (sym (get_or-take (k + 1) all k no_type (omega arith))) this)))
      (λ (ne : (i ≡ k) → ⊥).
      let before : i < k = omega arith in
      let b : IsResolved entities types (get_or found i d) (get_or (take k all) i no_type).under = h.rows i d (subst (λ u. i < u) (sym (length-take-le k all (omega arith))) before) in
      let b' : IsResolved entities types (get_or found i d) (get_or all i no_type).under = subst (λ (u : Defined). IsResolved entities types (get_or found i d) u.under) (get_or-take k all i no_type before) b in
      subst (λ (u : Resolved). IsResolved entities types u (get_or (take (k + 1) all) i no_type).under) (sym (get_or_append_left found (one' ∷ []) d i (omega arith))) (subst (λ (u : Defined). IsResolved entities types (get_or found i d) u.under) (sym (get_or-take (k + 1) all i no_type l')) b'))
      (cases_eq i k);
}

-- ---- the ends

abbrev pub type_names : Schema → List (List ℕ)
type_names s = map (λ (t : Defined). t.name) s.types

name_of_type : (s : Schema) (i : ℕ) → i < length s.types → get_or (type_names s) i [] ≡ (get_or s.types i no_type).name
name_of_type s i less = get_or-map (λ (t : Defined). t.name) s.types i no_type [] less

pub first_in : (row : List ℕ) (x : ℕ) → Some x ≡ slice_get row 0 → IsIn row x
first_in [] x e = absurd cc
first_in (y ∷ ys) x e = let f : y ≡ x = cc in inl f

pub none_in : (row : List ℕ) → None ≡ slice_get row 0 → row ≡ []
none_in [] e = refl
none_in (y ∷ ys) e = absurd cc

module _ (s : Schema) (graph : List (List ℕ)) (h : AreOthers (type_names s) graph s.types) where
  pub other_at : (a b : ℕ) → HasEdge graph a b → a < length s.types
  other_at a b e = ⊎_elim
      (λ (l : a < length graph). subst (λ u. a < u) h.count l)
      (λ (g : length graph ≤ a). absurd (subst (λ (u : List ℕ). IsIn u b) (get_or_past graph a [] g) e))
      (cases_lt a (length graph))

  pub others_below : AreEdgesBelow graph (length graph)
  others_below a b e = subst (λ u. b < u) (length-map s.types (λ (t : Defined). t.name) ∙ sym h.count) ((h.rows a (other_at a b e)).other b e).0

  other_below : (a b : ℕ) → HasEdge graph a b → b < length s.types
  other_below a b e = subst (λ u. b < u) h.count (others_below a b e)

  other_is : (a b : ℕ) → HasEdge graph a b → (get_or s.types a no_type).under ≡ plain (named (get_or s.types b no_type).name)
  other_is a b e = ((h.rows a (other_at a b e)).other b e).1 ∙ ap (λ (n : List ℕ). plain (named n)) (name_of_type s b (other_below a b e))

  edge_other : (a b : ℕ) → HasEdge graph a b → IsOther s (get_or s.types a no_type).name (get_or s.types b no_type).name
  edge_other a b e = record { type = get_or s.types a no_type; declared = at_place s.types a no_type (other_at a b e); name_is = refl; under = other_is a b e }

  leads_other : {a b : ℕ} → Leads (HasEdge graph) a b → Leads (IsOther s) (get_or s.types a no_type).name (get_or s.types b no_type).name
  leads_other {a} {b} (one e) = one (edge_other a b e)
  leads_other {a} (more {b = w} e l) = more (edge_other a w e) (leads_other l)

  pub no_other_cycle : HasNoCycle (IsOther s) → HasNoCycle (HasEdge graph)
  no_other_cycle not a l = not (get_or s.types a no_type).name (leads_other l)

  end_itself : (v : ℕ) → v < length s.types → get_or graph v [] ≡ [] → IsEnd s v v
  end_itself v less e = record {
    below = less;
    stands = itself (get_or s.types v no_type) (at_place s.types v no_type less) refl refl (λ n u. (h.rows v less).all n u e);
  }

  end_followed : (v x end : ℕ) → HasEdge graph v x → IsEnd s x end → IsEnd s v end
  end_followed v x end e t = record {
    below = t.below;
    stands = followed (get_or s.types v no_type) (at_place s.types v no_type (other_at v x e)) refl (other_is v x e) t.stands;
  }

  module _ (ends order : List ℕ) (i : ℕ) (less : i < length order) (below : get_or order i 0 < length ends) (at : get_or order i 0 < length s.types) (rows : (v : ℕ) → IsIn (take i order) v → IsEnd s v (get_or ends v 0)) where
    end_more : (end : ℕ) → IsEnd s (get_or order i 0) end → (v : ℕ) → IsIn (take (i + 1) order) v → IsEnd s v (get_or (set ends (get_or order i 0) end) v 0)
    end_more end this v m =
        let k = get_or order i 0 in
        ⊎_elim
        (λ (e : v ≡ k). subst (λ u. IsEnd s u (get_or (set ends k end) u 0)) (sym e) (rw (get_or-set_same ends k end 0 below) this))
        (λ (ne : (v ≡ k) → ⊥). rw (get_or-set_other ends k v end 0 ne) (rows v (⊎_elim (λ (f : IsIn (take i order) v). f) (λ (e : k ≡ v). absurd (ne (sym e))) (front_more order i 0 v less m))))
        (cases_eq v k)

    pub end_more_itself : get_or graph (get_or order i 0) [] ≡ [] → (v : ℕ) → IsIn (take (i + 1) order) v → IsEnd s v (get_or (set ends (get_or order i 0) (get_or order i 0)) v 0)
    end_more_itself e = end_more (get_or order i 0) (end_itself (get_or order i 0) at e)

    pub end_more_followed : (x : ℕ) → HasEdge graph (get_or order i 0) x → IsIn (take i order) x → (v : ℕ) → IsIn (take (i + 1) order) v → IsEnd s v (get_or (set ends (get_or order i 0) (get_or ends x 0)) v 0)
    end_more_followed x e before = end_more (get_or ends x 0) (end_followed (get_or order i 0) x (get_or ends x 0) e (rows x before))

-- ---- by what is well-formed

pub distinct_types : (s : Schema) → HasNoRepeated s → AreDistinct (type_names s)
distinct_types s h = distinct_right (map (λ (e : Entity). e.name) s.entities) (type_names s) h.declarations

types_known : (s : Schema) → HasNoUnknown s → (u : Underlying) → IsIn (map (λ (t : Defined). t.under) s.types) u → IsKnownUnder s u
types_known s h u i = let f = from_map (λ (t : Defined). t.under) s.types u i in subst (λ (x : Underlying). IsKnownUnder s x) f.1.1 (holds_of (λ (t : Defined). IsKnownUnder s t.under) s.types f.0 h.types f.1.0)

pub other_known : (s : Schema) → HasNoUnknown s → (u : Underlying) (n : List ℕ) → IsIn (map (λ (t : Defined). t.under) s.types) u → u ≡ plain (named n) → IsIn (type_names s) n
other_known s h u n i e =
    let k : IsKnownUnder s (plain (named n)) = subst (λ (x : Underlying). IsKnownUnder s x) e (types_known s h u i) in
    ⊎_elim (λ (a : IsEntity s n). absurd (k.1.0 a)) (λ (t : IsType s n). t) k.0

pub unders_known : (s : Schema) → HasNoUnknown s → (u : Underlying) → IsIn (map (λ (t : Defined). t.under) s.types) u → AreKnown (map (λ (e : Entity). e.name) s.entities) (type_names s) u
unders_known s h u i = by u (types_known s h u i)
  where
    by : (u : Underlying) → IsKnownUnder s u → AreKnown (map (λ (e : Entity). e.name) s.entities) (type_names s) u
    by (items ns) k = tt
    by (select ns) k = k
    by (plain e) k = k.0

-- the same rows, where the names and types are a schema's
pub others_for : (s : Schema) (types graph : List (List ℕ)) (all : List Defined) → s.types ≡ all → types ≡ map (λ (t : Defined). t.name) all → AreOthers types graph all → AreOthers (type_names s) graph s.types
others_for s types graph all e n h = subst (λ (u : List Defined). AreOthers (map (λ (t : Defined). t.name) u) graph u) (sym e) (subst (λ (u : List (List ℕ)). AreOthers u graph all) n h)

-- ---- what a table tells

pub stands_at : (s : Schema) (ends : List ℕ) (found : List Resolved) (t : TypeId) (end : ℕ) (one' : Resolved) → IsTypeOf s t → AreEnds s ends → AreResolved (map (λ (e : Entity). e.name) s.entities) (type_names s) found s.types → get_or ends t.index 0 ≡ end → get_or found end one' ≡ one'
    → (u : Underlying) × (StandsUnder s (type_name s t) u × IsResolvedIn s one' u)
stands_at s ends found t end one' less e r at is =
    let h : IsEnd s t.index end = subst (λ u. IsEnd s t.index u) at (e.rows t.index less) in
    ((get_or s.types end no_type).under, (h.stands, subst (λ (x : Resolved). IsResolved (map (λ (e : Entity). e.name) s.entities) (type_names s) x (get_or s.types end no_type).under) is (r.rows end one' h.below)))

pub end_below : (s : Schema) (ends : List ℕ) (t : TypeId) (end : ℕ) → IsTypeOf s t → AreEnds s ends → get_or ends t.index 0 ≡ end → end < length s.types
end_below s ends t end less e at = subst (λ u. u < length s.types) at (e.rows t.index less).below
