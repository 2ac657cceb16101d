-- What SELECTs reach an entity or an ancestor of it.
use Rattle.std.proofs.Common.{◌≡◌, ℕ, ◌<◌, ◌↔◌, List, [], length, refl, sym, subst, ◌∙◌, inl, inr, ⊎_elim}
use Rattle.p21_express.specs.Schema.{Schema}
use Rattle.p21_express.specs.WellFormed.{IsEntity, IsWellFormed, IsAncestor, HasNoUnknown}
use Rattle.p21_graph.specs.declared.bits.Bits.{Bits}
use Rattle.p21_graph.specs.Bits.{Holds}
use Rattle.p21_graph.specs.Graph.{one, more}
use Rattle.p21_graph.specs.MemberLaws.{place_of}
use Rattle.p21_schema.specs.Ancestry.{IsAncestryTable}
use Rattle.p21_schema.specs.Select.{SelectReaches, ReachesA, itself, above}
use Rattle.p21_schema.specs.SelectTable.{IsSelectTable, entity_named, type_named}
use Rattle.p21_schema.proofs.AncestryLemmas.{all_names, name_count, name_at, supertypes_known}
use Rattle.p21_schema.proofs.SelectLemmas.{entity_reached}

-- an ancestor is an entity
known : (s : Schema) → HasNoUnknown s → {x y : List ℕ} → IsAncestor s x y → IsEntity s y
known s h {y = y} (one step) = supertypes_known s h step.entity y step.declared step.named
known s h (more step up) = known s h up

module _ (s : Schema) (formed : IsWellFormed s) (table : Bits) (t : IsSelectTable s (IsEntity s) (length s.entities) (entity_named s) table) (ancestry : Bits) (a : IsAncestryTable s ancestry) (i e : ℕ) (li : i < length s.types) (le : e < length s.entities) where
  admitted : (c : ℕ) → Holds table i c → Holds ancestry e c → ReachesA s (type_named s i) (entity_named s e)
  admitted c h up =
      let p = (t.holds i c li).0 h in
      ⊎_elim
      (λ (same : entity_named s e ≡ entity_named s c). itself (subst (λ (u : List ℕ). SelectReaches s (type_named s i) u) (sym same) p.1.1))
      (λ (n : IsAncestor s (entity_named s e) (entity_named s c)). above n p.1.1)
      ((a.holds e c le p.0).0 up)

  met : ReachesA s (type_named s i) (entity_named s e) → (c : ℕ) × (Holds table i c × Holds ancestry e c)
  met (itself h) = (e, ((entity_reached s table i e t li le).1 h, (a.holds e e le le).1 (inl refl)))
  met (above {a = n} up h) =
      let p = place_of (all_names s) n (known s formed.unknown up) in
      let lc : p.0 < length s.entities = subst (λ u. p.0 < u) (name_count s) p.1.0 in
      let is : entity_named s p.0 ≡ n = sym (name_at s p.0) ∙ p.1.1 [] in
      (p.0, ((entity_reached s table i p.0 t li lc).1 (subst (λ (u : List ℕ). SelectReaches s (type_named s i) u) (sym is) h), (a.holds e p.0 le lc).1 (inr (subst (λ (u : List ℕ). IsAncestor s (entity_named s e) u) (sym is) up))))

  pub admits : ((c : ℕ) × (Holds table i c × Holds ancestry e c)) ↔ ReachesA s (type_named s i) (entity_named s e)
  admits = (λ m. admitted m.0 m.1.0 m.1.1, met)
