-- Cycles of declarations are those of their graphs.
use Rattle.std.proofs.Common.{◌≡◌, ℕ, ◌<◌, List, [], ◌∷◌, length, map, Option, Some, None, slice_get, refl, sym, ap, ◌∙◌, inl, inr, ◌⊎◌, ⊎_elim, subst}
use Rattle.std.specs.Prelude.{option_map}
use Rattle.std.specs.Option.{option_to_list}
use Rattle.std.specs.List.{AllByRecursion}
use Rattle.std.proofs.lemmas.Option.{slice_get_within, slice_get-map}
use Rattle.p21_express.specs.declared.checks.names.Declared.TheVariants as declared
use Rattle.p21_express.specs.Checks.{lone_name}
use Rattle.p21_express.specs.Graph.{neighbors, HasEdge}
use Rattle.p21_express.specs.Index.{IsEntityAt, IsTypeAt}
use Rattle.p21_express.specs.Positions.{ArePositions, AreSupertypes, AreTypes, AreTypesUnder, IsDefinedAt, LeadsToType}
use Rattle.p21_express.specs.Schema.{Schema, Entity, Defined, Underlying, Expr, items, select, plain, named}
use Rattle.p21_express.specs.WellFormed.{IsIn, Leads, HasNoCycle, HasNoCycles, HasNoUnknown, AreDistinct, declared_names, IsEntity, IsType, IsSelect, IsKnownUnder, IsSupertype, IsOther, IsInnerSelect}
use Rattle.p21_express.proofs.IndexLemmas.{is_in_at, at_is_in, one_place, distinct_right, entity_answer}
use Rattle.p21_express.proofs.PositionLemmas.{no_cycle, zip_at, zip_from, zip_length}
use Rattle.p21_express.proofs.UnknownLemmas.{lone_named, select_at, is_select}

pub all_in : {X : Type 0} (P : X → Type 0) (xs : List X) (x : X) → AllByRecursion P xs → IsIn xs x → P x
all_in P [] x h i = absurd i
all_in P (y ∷ xs) x h i = ⊎_elim (λ (e : y ≡ x). subst P e h.0) (λ (j : IsIn xs x). all_in P xs x h.1 j) i

named_in : {X : Type 0} (name_of : X → List ℕ) (xs : List X) (n : List ℕ) → IsIn (map name_of xs) n → (x : X) × IsIn xs x × (name_of x ≡ n)
named_in name_of [] n h = absurd h
named_in name_of (y ∷ xs) n h = ⊎_elim (λ (e : name_of y ≡ n). (y, inl refl, e)) (λ (j : IsIn (map name_of xs) n). let r = named_in name_of xs n j in (r.0, inr r.1, r.2)) h

-- ---- entities

module _ (s : Schema) where
  pub entity_there : (n : List ℕ) → IsEntity s n → (i : ℕ) × IsEntityAt s i n
  entity_there n h =
      let x = named_in (λ (e : Entity). e.name) s.entities n h in
      let p = at_is_in s.entities x.0 x.1 in
      (p.0, record { entity = x.0; there = p.1; name_is = x.2 })

  pub one_entity_name : (i : ℕ) (m n : List ℕ) → IsEntityAt s i m → IsEntityAt s i n → m ≡ n
  one_entity_name i m n h k =
      let e : Some h.entity ≡ Some k.entity = sym h.there ∙ k.there in
      let f : h.entity ≡ k.entity = cc in
      sym h.name_is ∙ ap (λ (x : Entity). x.name) f ∙ k.name_is

  pub one_entity_place : AreDistinct (declared_names s) → (n : List ℕ) (i j : ℕ) → IsEntityAt s i n → IsEntityAt s j n → i ≡ j
  one_entity_place d n i j h k = let e : Some (declared.Entity i) ≡ Some (declared.Entity j) = entity_answer s j n (Some (declared.Entity i)) d k h in cc

  module _ (g : List (List ℕ)) (zips : AreSupertypes s g) where
    abbrev Listed : Entity → List ℕ → Type 0
    Listed e edges = ArePositions (IsEntityAt s) e.supertypes edges

    pub edge_supertype : (i j : ℕ) → HasEdge g i j → (m : List ℕ) × (n : List ℕ) × IsEntityAt s i m × IsEntityAt s j n × IsSupertype s m n
    edge_supertype i j edge =
        let f = zip_from Listed s.entities g i j zips edge.listed in
        let x = (f.2 j).0 edge.listed in
        (f.0.name, x.0, record { entity = f.0; there = f.1; name_is = refl }, x.2, record { entity = f.0; declared = is_in_at s.entities i f.0 f.1; name_is = refl; named = x.1 })

    pub supertype_edge : HasNoUnknown s → (m n : List ℕ) → IsSupertype s m n → (i : ℕ) × (j : ℕ) × IsEntityAt s i m × IsEntityAt s j n × HasEdge g i j
    supertype_edge unknown m n h =
        let p = at_is_in s.entities h.entity h.declared in
        let known : IsEntity s n = all_in (IsEntity s) h.entity.supertypes n (all_in (λ (e : Entity). AllByRecursion (IsEntity s) e.supertypes) s.entities h.entity unknown.supertypes h.declared) h.named in
        let t = entity_there n known in
        let within : t.0 < length g = subst (λ (k : ℕ). t.0 < k) (zip_length Listed s.entities g zips) (slice_get_within s.entities t.0 t.1.entity t.1.there) in
        (p.0, t.0, record { entity = h.entity; there = p.1; name_is = h.name_is }, t.1, record { is_vertex = within; listed = (zip_at Listed s.entities g p.0 h.entity zips p.1 t.0).1 (n, h.named, t.1) })

    pub entities_to_graph : HasNoCycle (IsSupertype s) → HasNoCycle (HasEdge g)
    entities_to_graph h = no_cycle (IsEntityAt s) (HasEdge g) (IsSupertype s) one_entity_name edge_supertype h

    pub graph_to_entities : AreDistinct (declared_names s) → HasNoUnknown s → HasNoCycle (HasEdge g) → HasNoCycle (IsSupertype s)
    graph_to_entities d unknown h = no_cycle (λ (n : List ℕ) (i : ℕ). IsEntityAt s i n) (IsSupertype s) (HasEdge g) (one_entity_place d) (supertype_edge unknown) h

-- ---- types

in_lone : (e : Expr) (o : Option (List ℕ)) (n : List ℕ) → lone_name e ≡ o → IsIn (option_to_list o) n → e ≡ named n
in_lone e None n h i = absurd i
in_lone e (Some m) n h i = ⊎_elim (λ (k : m ≡ n). lone_named e n (h ∙ ap (λ (x : List ℕ). Some x) k)) (λ (k : ⊥). absurd k) i

module _ (s : Schema) where
  type_there : (n : List ℕ) → IsType s n → (i : ℕ) × IsDefinedAt s i n
  type_there n h =
      let x = named_in (λ (t : Defined). t.name) s.types n h in
      let p = at_is_in s.types x.0 x.1 in
      (p.0, record { type = x.0; there = p.1; name_is = x.2 })

  one_type_name : (i : ℕ) (m n : List ℕ) → IsDefinedAt s i m → IsDefinedAt s i n → m ≡ n
  one_type_name i m n h k =
      let e : Some h.type ≡ Some k.type = sym h.there ∙ k.there in
      let f : h.type ≡ k.type = cc in
      sym h.name_is ∙ ap (λ (x : Defined). x.name) f ∙ k.name_is

  type_name_at : (i : ℕ) (n : List ℕ) → IsDefinedAt s i n → slice_get (map (λ t. t.name) s.types) i ≡ Some n
  type_name_at i n h = slice_get-map (λ (t : Defined). t.name) s.types i ∙ (ap (option_map (λ (t : Defined). t.name)) h.there ∙ ap (λ (k : List ℕ). Some k) h.name_is)

  one_type_place : AreDistinct (declared_names s) → (n : List ℕ) (i j : ℕ) → IsDefinedAt s i n → IsDefinedAt s j n → i ≡ j
  one_type_place d n i j h k = one_place (map (λ (x : Defined). x.name) s.types) i j n (distinct_right (map (λ (x : Entity). x.name) s.entities) (map (λ (x : Defined). x.name) s.types) d) (type_name_at i n h) (type_name_at j n k)

  -- a name is one type's
  one_type : AreDistinct (declared_names s) → (t u : Defined) → IsIn s.types t → IsIn s.types u → t.name ≡ u.name → t ≡ u
  one_type d t u h k e =
      let p = at_is_in s.types t h in
      let q = at_is_in s.types u k in
      let same : p.0 ≡ q.0 = one_type_place d u.name p.0 q.0 (record { type = t; there = p.1; name_is = e }) (record { type = u; there = q.1; name_is = refl }) in
      let f : Some t ≡ Some u = sym p.1 ∙ ap (slice_get s.types) same ∙ q.1 in
      cc

  module _ (g : List (List ℕ)) (zips : AreTypes s g) where
    abbrev Under : Defined → List ℕ → Type 0
    Under t edges = AreTypesUnder s t.under edges

    under_edge : (t : Defined) (u : Underlying) (edges : List ℕ) (j : ℕ) → IsIn s.types t → t.under ≡ u → AreTypesUnder s u edges → IsIn edges j → (n : List ℕ) × IsDefinedAt s j n × LeadsToType s t.name n
    under_edge t (items ns) edges j there e h k = absurd ((h j).0 k).1
    under_edge t (select ns) edges j there e h k =
        let x = (h j).0 k in
        (x.0, record { type = x.2.type; there = x.2.there; name_is = x.2.name_is }, inr (record { type = t; items = ns; declared = there; name_is = refl; under = e; item = x.1; selects = is_select s j x.0 x.2 }))
    under_edge t (plain texpr) edges j there e h k =
        let x = (h j).0 k in
        (x.0, record { type = x.2.type; there = x.2.there; name_is = x.2.name_is }, inl (record { type = t; declared = there; name_is = refl; under = e ∙ ap plain (in_lone texpr (lone_name texpr) x.0 refl x.1) }))

    edge_type : (i j : ℕ) → HasEdge g i j → (m : List ℕ) × (n : List ℕ) × IsDefinedAt s i m × IsDefinedAt s j n × LeadsToType s m n
    edge_type i j edge =
        let f = zip_from Under s.types g i j zips edge.listed in
        let x = under_edge f.0 f.0.under (neighbors g i) j (is_in_at s.types i f.0 f.1) refl f.2 edge.listed in
        (f.0.name, x.0, record { type = f.0; there = f.1; name_is = refl }, x.1, x.2)

    within : (j : ℕ) (t : Defined) → slice_get s.types j ≡ Some t → j < length g
    within j t there = subst (λ (k : ℕ). j < k) (zip_length Under s.types g zips) (slice_get_within s.types j t there)

    other_edge : HasNoUnknown s → (m n : List ℕ) → IsOther s m n → (i : ℕ) × (j : ℕ) × IsDefinedAt s i m × IsDefinedAt s j n × HasEdge g i j
    other_edge unknown m n h =
        let p = at_is_in s.types h.type h.declared in
        let known : IsKnownUnder s (plain (named n)) = subst (IsKnownUnder s) h.under (all_in (λ (t : Defined). IsKnownUnder s t.under) s.types h.type unknown.types h.declared) in
        let is_type : IsType s n = ⊎_elim (λ (e : IsEntity s n). absurd (known.1.0 e)) (λ (t : IsType s n). t) known.0 in
        let t = type_there n is_type in
        let at : IsTypeAt s t.0 n = record { type = t.1.type; there = t.1.there; name_is = t.1.name_is; selects_not = λ k. known.1.1 (record { type = t.1.type; declared = is_in_at s.types t.0 t.1.type t.1.there; name_is = t.1.name_is; selects = k }) } in
        let listed : AreTypesUnder s (plain (named n)) (neighbors g p.0) = subst (λ (u : Underlying). AreTypesUnder s u (neighbors g p.0)) h.under (zip_at Under s.types g p.0 h.type zips p.1) in
        (p.0, t.0, record { type = h.type; there = p.1; name_is = h.name_is }, t.1, record { is_vertex = within t.0 t.1.type t.1.there; listed = (listed t.0).1 (n, inl refl, at) })

    inner_edge : (m n : List ℕ) → IsInnerSelect s m n → (i : ℕ) × (j : ℕ) × IsDefinedAt s i m × IsDefinedAt s j n × HasEdge g i j
    inner_edge m n h =
        let p = at_is_in s.types h.type h.declared in
        let t = select_at s n h.selects in
        let listed : AreTypesUnder s (select h.items) (neighbors g p.0) = subst (λ (u : Underlying). AreTypesUnder s u (neighbors g p.0)) h.under (zip_at Under s.types g p.0 h.type zips p.1) in
        (p.0, t.0, record { type = h.type; there = p.1; name_is = h.name_is }, record { type = t.1.type; there = t.1.there; name_is = t.1.name_is }, record { is_vertex = within t.0 t.1.type t.1.there; listed = (listed t.0).1 (n, h.item, t.1) })

    type_edge : HasNoUnknown s → (m n : List ℕ) → LeadsToType s m n → (i : ℕ) × (j : ℕ) × IsDefinedAt s i m × IsDefinedAt s j n × HasEdge g i j
    type_edge unknown m n h = ⊎_elim (λ (o : IsOther s m n). other_edge unknown m n o) (λ (i : IsInnerSelect s m n). inner_edge m n i) h

    types_to_graph : HasNoCycle (LeadsToType s) → HasNoCycle (HasEdge g)
    types_to_graph h = no_cycle (IsDefinedAt s) (HasEdge g) (LeadsToType s) one_type_name edge_type h

    graph_to_types : AreDistinct (declared_names s) → HasNoUnknown s → HasNoCycle (HasEdge g) → HasNoCycle (LeadsToType s)
    graph_to_types d unknown h = no_cycle (λ (n : List ℕ) (i : ℕ). IsDefinedAt s i n) (LeadsToType s) (HasEdge g) (one_type_place d) (type_edge unknown) h

-- ---- a cycle of types is one of plain types or one of selects

leads_by : {X : Type 0} (Step Other : X → X → Type 0) → ((a b : X) → Step a b → Other a b) → {a b : X} → Leads Step a b → Leads Other a b
leads_by Step Other to (Leads.one h) = Leads.one (to _ _ h)
leads_by Step Other to (Leads.more h l) = Leads.more (to _ _ h) (leads_by Step Other to l)

first_of_all : {X : Type 0} (Step : X → X → Type 0) {a b : X} → Leads Step a b → (c : X) × Step a c
first_of_all Step {a} {b} (Leads.one h) = (b, h)
first_of_all Step (Leads.more h l) = (_, h)

module _ (s : Schema) (d : AreDistinct (declared_names s)) (unknown : HasNoUnknown s) where
  other_no_select : (m n : List ℕ) → IsOther s m n → ¬ (IsSelect s m)
  other_no_select m n h k =
      let e : h.type ≡ k.type = one_type s d h.type k.type h.declared k.declared (h.name_is ∙ sym k.name_is) in
      let u : k.type.under ≡ plain (named n) = ap (λ (t : Defined). t.under) (sym e) ∙ h.under in
      rw u at k.selects

  to_no_select : (m n : List ℕ) → IsOther s m n → ¬ (IsSelect s n)
  to_no_select m n h =
      let known : IsKnownUnder s (plain (named n)) = subst (IsKnownUnder s) h.under (all_in (λ (t : Defined). IsKnownUnder s t.under) s.types h.type unknown.types h.declared) in
      known.1.1

  inner_select : (m n : List ℕ) → IsInnerSelect s m n → IsSelect s m
  inner_select m n h = record { type = h.type; declared = h.declared; name_is = h.name_is; selects = rw h.under tt }

  of_one_kind : {a c : List ℕ} → Leads (LeadsToType s) a c → Leads (IsOther s) a c ⊎ Leads (IsInnerSelect s) a c
  of_one_kind {a} {c} (Leads.one h) = ⊎_elim (λ (o : IsOther s a c). inl (Leads.one o)) (λ (i : IsInnerSelect s a c). inr (Leads.one i)) h
  of_one_kind {a} {c} (Leads.more {b} h l) = ⊎_elim
      (λ (o : IsOther s a b). ⊎_elim (λ (k : Leads (IsOther s) b c). inl (Leads.more o k)) (λ (k : Leads (IsInnerSelect s) b c). let f = first_of_all (IsInnerSelect s) k in absurd (to_no_select a b o (inner_select b f.0 f.1))) (of_one_kind l))
      (λ (i : IsInnerSelect s a b). ⊎_elim (λ (k : Leads (IsOther s) b c). let f = first_of_all (IsOther s) k in absurd (other_no_select b f.0 f.1 i.selects)) (λ (k : Leads (IsInnerSelect s) b c). inr (Leads.more i k)) (of_one_kind l))
      h

  no_type_cycle : HasNoCycles s → HasNoCycle (LeadsToType s)
  no_type_cycle h x l = ⊎_elim (λ (o : Leads (IsOther s) x x). h.types x o) (λ (i : Leads (IsInnerSelect s) x x). h.selects x i) (of_one_kind l)

  pub graphs_to_schema : (g t : List (List ℕ)) → AreSupertypes s g → AreTypes s t → HasNoCycle (HasEdge g) → HasNoCycle (HasEdge t) → HasNoCycles s
  graphs_to_schema g t gz tz ge te =
      let u : HasNoCycle (LeadsToType s) = graph_to_types s t tz d unknown te in
      record {
        entities = graph_to_entities s g gz d unknown ge;
        types = λ x l. u x (leads_by (IsOther s) (LeadsToType s) (λ a b h. inl h) l);
        selects = λ x l. u x (leads_by (IsInnerSelect s) (LeadsToType s) (λ a b h. inr h) l);
      }

  pub schema_to_types : (t : List (List ℕ)) → AreTypes s t → HasNoCycles s → HasNoCycle (HasEdge t)
  schema_to_types t tz h = types_to_graph s t tz (no_type_cycle h)
