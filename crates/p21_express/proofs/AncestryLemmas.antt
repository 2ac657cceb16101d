-- What an entity may declare again, by positions and by names.
use Rattle.std.proofs.Common.{◌≡◌, ℕ, ◌<◌, ◌≤◌, ◌+◌, List, Option, Some, None, length, slice_get, true, refl, sym, ap, ◌∙◌, inl, inr, ◌⊎◌, ⊎_elim, subst, arith}
use Rattle.std.proofs.lemmas.Bool.{cases_lt, cases_eq}
use Rattle.std.proofs.lemmas.Option.{slice_get_within}
use Rattle.std.specs.List.{AllByRecursion}
use Rattle.p21_graph.specs.declared.bits.Bits.{Bits}
use Rattle.p21_graph.specs.Bits.{Holds}
use Rattle.p21_graph.specs.Graph as graph
use Rattle.p21_graph.specs.Reach.{IsReach, IsWithin, itself, through}
use Rattle.p21_express.specs.declared.declarations.Declarations.{Declarations}
use Rattle.p21_express.specs.Plain.{plain_entity, plain_schema}
use Rattle.std.proofs.lemmas.List.{length-map}
use Rattle.p21_express.specs.Again.{IsDerivedAt, IsAgainAt}
use Rattle.p21_express.specs.Graph.{HasEdge}
use Rattle.p21_express.specs.Index.{IsEntityAt}
use Rattle.p21_express.specs.Owners.{IsAncestry, IsFirstOwner, IsOnlyOwner, IsOwner}
use Rattle.p21_express.specs.Positions.{ArePositions, IsPosition, AreSupertypes}
use Rattle.p21_express.specs.Schema.{Schema, Entity}
use Rattle.p21_express.specs.WellFormed.{Leads, HasNoCycle, HasNoUnknown, AreDistinct, declared_names, IsEntity, IsSupertype, IsAncestor, IsOrigin, Redeclaration}
use Rattle.p21_express.proofs.IndexLemmas.{is_in_at, at_is_in}
use Rattle.p21_express.proofs.AgainLemmas.{same_entity}
use Rattle.p21_express.proofs.PositionLemmas.{zip_from, zip_length}
use Rattle.p21_express.proofs.CycleLemmas.{one_entity_name, one_entity_place, edge_supertype, supertype_edge, entity_there, all_in}

pub none_at : (At : ℕ → List ℕ → Type 0) (n : List ℕ) (o : Option ℕ) → ((i : ℕ) → o ≡ Some i → ⊥) → IsPosition At n o → IsPosition At n None
none_at At n None not_some h = h
none_at At n (Some i) not_some h = absurd (not_some i refl)

pub entity_within : (s : Schema) (i : ℕ) (n : List ℕ) → IsEntityAt s i n → i < length s.entities
entity_within s i n at = slice_get_within s.entities i at.entity at.there

-- ---- the graph of supertypes

module _ (s : Schema) (g : List (List ℕ)) (zips : AreSupertypes s g) where
  abbrev Listed : Entity → List ℕ → Type 0
  Listed e edges = ArePositions (IsEntityAt s) e.supertypes edges

  vertices : length s.entities ≡ length g
  vertices = zip_length Listed s.entities g zips

  pub edges_below : graph.AreEdgesBelow g (length g)
  edges_below a b e =
      let x = zip_from Listed s.entities g a b zips e in
      let p = (x.2 b).0 e in
      subst (λ u. b < u) vertices (slice_get_within s.entities b p.2.entity p.2.there)

  edge : (a b : ℕ) → graph.HasEdge g a b → HasEdge g a b
  edge a b e = record { is_vertex = edges_below a b e; listed = e }

  edges : {a b : ℕ} → Leads (graph.HasEdge g) a b → Leads (HasEdge g) a b
  edges {a} {b} (Leads.one e) = Leads.one (edge a b e)
  edges {a} {b} (Leads.more {b = c} e l) = Leads.more (edge a c e) (edges l)

  pub acyclic : HasNoCycle (HasEdge g) → HasNoCycle (graph.HasEdge g)
  acyclic none a l = none a (edges l)

  module _ (d : AreDistinct (declared_names s)) (unknown : HasNoUnknown s) where
    up : (i j : ℕ) (m n : List ℕ) → IsEntityAt s i m → IsEntityAt s j n → IsWithin g i j → (m ≡ n) ⊎ IsAncestor s m n
    up i j m n at to (itself e) = inl (one_entity_name s j m n (subst (λ (p : ℕ). IsEntityAt s p m) e at) to)
    up i j m n at to (through {b = k} e w) =
        let x = edge_supertype s g zips i k (edge i k e) in
        let step : IsSupertype s m x.1 = subst (λ (y : List ℕ). IsSupertype s y x.1) (one_entity_name s i x.0 m x.2 at) x.4 in
        inr (⊎_elim (λ (same : x.1 ≡ n). Leads.one (subst (λ (y : List ℕ). IsSupertype s m y) same step)) (λ (l : IsAncestor s x.1 n). Leads.more step l) (up k j x.1 n x.3 to w))

    down : (i j : ℕ) (m n : List ℕ) → IsEntityAt s i m → IsEntityAt s j n → IsAncestor s m n → IsWithin g i j
    down i j m n at to (Leads.one st) =
        let x = supertype_edge s g zips unknown m n st in
        through (subst (λ (p : ℕ). graph.HasEdge g p x.1) (one_entity_place s d m x.0 i x.2 at) x.4.listed) (itself (one_entity_place s d n x.1 j x.3 to))
    down i j m n at to (Leads.more {b = k} st l) =
        let x = supertype_edge s g zips unknown m k st in
        through (subst (λ (p : ℕ). graph.HasEdge g p x.1) (one_entity_place s d m x.0 i x.2 at) x.4.listed) (down x.1 j k n x.3 to l)

    pub ancestry_of : (table : Bits) → IsReach g table → IsAncestry s table
    ancestry_of table r = record {
      rows = r.rows ∙ sym vertices;
      columns = r.columns ∙ sym vertices;
      holds = λ i j m n at to.
          let reach = r.holds i j (subst (λ u. i < u) vertices (entity_within s i m at)) in (
            λ h. up i j m n at to (reach.0 h),
            λ a. reach.1 (⊎_elim (λ (e : m ≡ n). itself (one_entity_place s d n i j (subst (λ (y : List ℕ). IsEntityAt s i y) e at) to)) (λ (l : IsAncestor s m n). down i j m n at to l) a),
          );
    }

-- ---- the only owner

pub owner_within : (declarations : Declarations) (table : Bits) (of : ℕ) (n : List ℕ) (i : ℕ) → IsOwner (plain_schema declarations) table of n i → i < declarations.entities.len
owner_within declarations table of n i h =
    let s = plain_schema declarations in
    subst (λ u. i < u) (length-map declarations.entities.items plain_entity ∙ sym declarations.entities.ok.0) (slice_get_within s.entities i h.newly.entity h.newly.there)

module _ (s : Schema) (table : Bits) (of : ℕ) (n : List ℕ) where
  pub no_owner : ((i : ℕ) → 0 ≤ i → ¬ (IsOwner s table of n i)) → (i : ℕ) → ¬ (IsOnlyOwner s table of n i)
  no_owner none i h = none i (omega arith) h.owner

  pub only_first : (i : ℕ) → IsFirstOwner s table 0 of n i → ((j : ℕ) → i + 1 ≤ j → ¬ (IsOwner s table of n j)) → IsOnlyOwner s table of n i
  only_first i first none = record {
    owner = first.owner;
    only = λ j h. ⊎_elim (λ (e : j ≡ i). e) (λ (ne : (j ≡ i) → ⊥). ⊎_elim (λ (l : j < i). absurd (first.before j (omega arith) l h)) (λ (l : i ≤ j). absurd (none j (omega arith) h)) (cases_lt j i)) (cases_eq j i);
  }

  pub not_only : (i j k : ℕ) → IsFirstOwner s table 0 of n i → IsFirstOwner s table (i + 1) of n j → ¬ (IsOnlyOwner s table of n k)
  not_only i j k first second h = let a = h.only i first.owner in let b = h.only j second.owner in let later = second.from in absurd (omega arith)

-- ---- what is declared again

module _ (s : Schema) (d : AreDistinct (declared_names s)) (unknown : HasNoUnknown s) where
  is_entity : {m n : List ℕ} → IsAncestor s m n → (j : ℕ) × IsEntityAt s j n
  is_entity {m} {n} (Leads.one h) = entity_there s n (all_in (IsEntity s) h.entity.supertypes n (all_in (λ (e : Entity). AllByRecursion (IsEntity s) e.supertypes) s.entities h.entity unknown.supertypes h.declared) h.named)
  is_entity (Leads.more h l) = is_entity l

  module _ (cycles : HasNoCycle (IsSupertype s)) (table : Bits) (ancestry : IsAncestry s table) (position : ℕ) (e : List ℕ) (here : IsEntityAt s position e) (r : Redeclaration) where
    -- the ancestor after SELF is none
    pub no_entity : IsPosition (IsEntityAt s) r.of None → (i : ℕ) → ¬ (IsAgainAt s e r i)
    no_entity none i h = let x = is_entity h.again.ancestor in none x.0 x.1

    module _ (of : ℕ) (at : IsPosition (IsEntityAt s) r.of (Some of)) where
      pub not_itself : of ≡ position → (i : ℕ) → ¬ (IsAgainAt s e r i)
      not_itself same i h = cycles e (subst (λ (n : List ℕ). IsAncestor s e n) (one_entity_name s position r.of e (subst (λ (p : ℕ). IsEntityAt s p r.of) same at.0) here) h.again.ancestor)

      pub no_ancestor : ¬ (Holds table position of) → (i : ℕ) → ¬ (IsAgainAt s e r i)
      no_ancestor none i h = none ((ancestry.holds position of e r.of here at.0).1 (inr h.again.ancestor))

      origin_at : (n : List ℕ) → IsOrigin s r.of r.name n → (j : ℕ) × IsEntityAt s j n × IsOwner s table of r.name j
      origin_at n o =
          let p = at_is_in s.entities o.1.entity o.1.declared in
          let to : IsEntityAt s p.0 n = record { entity = o.1.entity; there = p.1; name_is = o.1.name_is } in
          (p.0, to, record { above = (ancestry.holds of p.0 r.of n at.0 to).1 o.0; newly = record { entity = o.1.entity; there = p.1; newly = o.1.newly } })

      at_origin : (j : ℕ) (n : List ℕ) → IsEntityAt s j n → IsOwner s table of r.name j → IsOrigin s r.of r.name n
      at_origin j n to owner =
          let new = owner.newly in
          let same : to.entity ≡ new.entity = same_entity s j to.entity new.entity to.there new.there in
          ((ancestry.holds of j r.of n at.0 to).0 owner.above, record { entity = new.entity; declared = is_in_at s.entities j new.entity new.there; name_is = ap (λ (x : Entity). x.name) (sym same) ∙ to.name_is; newly = new.newly })

      -- the only owner is declared again, where it may be
      pub only_again : (i : ℕ) → (of ≡ position → ⊥) → Holds table position of → IsOnlyOwner s table of r.name i → (r.explicit ≡ true → ¬ (IsDerivedAt s r.name i)) → IsAgainAt s e r i
      only_again i other above good allowed =
          let new = good.owner.newly in
          let to : IsEntityAt s i new.entity.name = record { entity = new.entity; there = new.there; name_is = refl } in
          record {
            name = new.entity.name;
            at = to;
            again = record {
              ancestor = ⊎_elim (λ (k : e ≡ r.of). absurd (other (one_entity_place s d r.of of position at.0 (subst (λ (n : List ℕ). IsEntityAt s position n) k here)))) (λ (l : IsAncestor s e r.of). l) ((ancestry.holds position of e r.of here at.0).0 above);
              origin = at_origin i new.entity.name to good.owner;
              only = λ m o. let y = origin_at m o in one_entity_name s i m new.entity.name (subst (λ (p : ℕ). IsEntityAt s p m) (good.only y.0 y.2) y.1) to;
              allowed = λ t k. allowed t (let p = at_is_in s.entities k.entity k.declared in let same : p.0 ≡ i = one_entity_place s d new.entity.name p.0 i (record { entity = k.entity; there = p.1; name_is = k.name_is }) to in record { entity = k.entity; there = subst (λ (q : ℕ). slice_get s.entities q ≡ Some k.entity) same p.1; newly = k.newly });
            };
          }

      pub again_only : (i : ℕ) → IsAgainAt s e r i → IsOnlyOwner s table of r.name i
      again_only i h =
          let y = origin_at h.name h.again.origin in
          let same : y.0 ≡ i = one_entity_place s d h.name y.0 i y.1 h.at in
          record {
            owner = subst (λ (p : ℕ). IsOwner s table of r.name p) same y.2;
            only = λ j k.
                let l = k.newly in
                let to : IsEntityAt s j l.entity.name = record { entity = l.entity; there = l.there; name_is = refl } in
                let m : l.entity.name ≡ h.name = h.again.only l.entity.name (at_origin j l.entity.name to k) in
                one_entity_place s d h.name j i (subst (λ (n : List ℕ). IsEntityAt s j n) m to) h.at;
          }

      -- where it may not be, nothing is
      pub not_allowed : (i : ℕ) → IsOnlyOwner s table of r.name i → ¬ (r.explicit ≡ true → ¬ (IsDerivedAt s r.name i)) → (j : ℕ) → ¬ (IsAgainAt s e r j)
      not_allowed i good refused j h =
          let same : j ≡ i = good.only j (again_only j h).owner in
          refused (λ t k. h.again.allowed t (
          let there = subst (λ (p : ℕ). IsDerivedAt s r.name p) (sym same) k in
          let one : there.entity ≡ h.at.entity = same_entity s j there.entity h.at.entity there.there h.at.there in
          record { entity = there.entity; declared = is_in_at s.entities j there.entity there.there; name_is = ap (λ (x : Entity). x.name) one ∙ h.at.name_is; newly = there.newly }
          ))
