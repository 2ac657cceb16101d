-- What names and types ask of the references in a parameter.
use Rattle.std.proofs.Common.{◌≡◌, ◌↔◌, ℕ, zero, suc, ◌<◌, inl, inr, List, [], ◌∷◌, Some, length, get_or, map, sym, ap, subst, ◌∙◌, arith}
use Rattle.std.specs.Prelude.{slice_get}
use Rattle.p21_express.specs.Schema.{Schema, Expr, Entity, Defined, Underlying, items, select, plain, named}
use Rattle.p21_express.specs.WellFormed.{IsIn, IsEntity, IsWellFormed}
use Rattle.p21_tree.specs.Tree.{Tree}
use Rattle.p21_schema.specs.declared.ids.EntityId.{EntityId}
use Rattle.p21_schema.specs.declared.ids.TypeId.{TypeId}
use Rattle.p21_schema.specs.declared.resolved.Resolved.{Resolved}
use Rattle.p21_schema.specs.declared.resolved.Resolved.TheVariants as resolved
use Rattle.p21_schema.specs.declared.resolved.ResolvedExpr.{ResolvedExpr}
use Rattle.p21_schema.specs.declared.resolved.ResolvedExpr.TheVariants.{Named}
use Rattle.p21_schema.specs.declared.resolved.Target.{Target}
use Rattle.p21_schema.specs.declared.resolved.Target.TheVariants as target
use Rattle.p21_schema.specs.Place.{no_entity, no_type, entity_name, type_name, IsTypeOf}
use Rattle.p21_schema.specs.Under.{StandsUnder, IsResolvedIn}
use Rattle.p21_check.specs.declared.wanted.Wanted.{Wanted}
use Rattle.p21_check.specs.declared.wanted.Wanted.TheVariants as asked
use Rattle.p21_check.specs.References.{Reference, Refers}
use Rattle.p21_check.specs.Wanted.{by_names, IsAskedBy}
use Rattle.p21_check.proofs.RefersLemmas.{by_entity, by_select, select_end, plain_end, items_end, end_of}
use Rattle.p21_check.proofs.ExprLemmas.{target_names, mapped, asked_nothing}

pub same_asked : (s : Schema) (x y : Expr) (w : Wanted) → ((p : Tree) (place : ℕ) (r : Reference) → Refers s y p place r ↔ Refers s x p place r) → IsAskedBy s x w → IsAskedBy s y w
same_asked s x y w h a = record {
  asked_ = a.asked_;
  same = λ p place r. ((λ f. (a.same p place r).0 ((h p place r).0 f)), (λ f. (h p place r).1 ((a.same p place r).1 f)));
}

pub items_under : (s : Schema) → IsWellFormed s → (n : List ℕ) (d : Resolved) (v : _) → d ≡ resolved.Items v → (u : Underlying) → StandsUnder s n u → IsResolvedIn s d u → IsAskedBy s (named n) asked.Nothing
items_under s w n d v e (items ns) h r = asked_nothing s (named n) (items_end s w n ns h)
items_under s w n d v e (select ns) h r = absurd (subst (λ (x : Resolved). IsResolvedIn s x (select ns)) e r)
items_under s w n d v e (plain x) h r = absurd (subst (λ (x' : Resolved). IsResolvedIn s x' (plain x)) e r)

pub select_under : (s : Schema) → IsWellFormed s → (t : TypeId) → IsTypeOf s t → (d : Resolved) (v : _) → d ≡ resolved.Select v → (u : Underlying) → StandsUnder s (type_name s t) u → IsResolvedIn s d u → IsAskedBy s (named (type_name s t)) (asked.Select t)
select_under s w t known d v e (items ns) h r = absurd (subst (λ (x : Resolved). IsResolvedIn s x (items ns)) e r)
select_under s w t known d v e (select ns) h r =
    let is = select_end s w (type_name s t) (select ns) h tt in
    record { asked_ = (known, is); same = by_select s w (type_name s t) is }
select_under s w t known d v e (plain x) h r = absurd (subst (λ (x' : Resolved). IsResolvedIn s x' (plain x)) e r)

pub plain_under : (s : Schema) → IsWellFormed s → (n : List ℕ) (d : Resolved) (v : ResolvedExpr) (result : Wanted) → d ≡ resolved.Plain v →
    ((x : Expr) → by_names s v ≡ Some x → ((m : List ℕ) → ¬ (x ≡ named m)) → IsAskedBy s x result) →
    (u : Underlying) → StandsUnder s n u → IsResolvedIn s d u → IsAskedBy s (named n) result
plain_under s w n d v result e found (items ns) h r = absurd (subst (λ (x : Resolved). IsResolvedIn s x (items ns)) e r)
plain_under s w n d v result e found (select ns) h r = absurd (subst (λ (x : Resolved). IsResolvedIn s x (select ns)) e r)
plain_under s w n d v result e found (plain x) h r =
    let is : by_names s v ≡ Some x = subst (λ (x' : Resolved). IsResolvedIn s x' (plain x)) e r in
    same_asked s x (named n) result (plain_end s w n x h) (found x is (λ m f. (end_of s w h).no_name m (ap plain f)))

module _ {X : Type 0} where
  -- the name at a place
  pub named_at : (name : X → List ℕ) (xs : List X) (i : ℕ) (n : List ℕ) (d : X) → slice_get (map name xs) i ≡ Some n → (i < length xs) × (name (get_or xs i d) ≡ n) × IsIn (map name xs) n
  named_at name [] i n d e = absurd cc
  named_at name (x ∷ xs) zero n d e = let same : name x ≡ n = cc in (omega arith, same, inl same)
  named_at name (x ∷ xs) (suc i) n d e =
      let h = named_at name xs i n d e in
      let less = h.0 in
      (omega arith, h.1, inr h.2)

pub entity_asked : (s : Schema) → IsWellFormed s → (v : ResolvedExpr) (t : Target) (e : EntityId) (x : Expr) → v ≡ Named t → t ≡ target.Entity e → by_names s v ≡ Some x → IsAskedBy s x (asked.Entity e)
entity_asked s w v t e x f g is =
    let found = mapped named (slice_get (map (λ (z : Entity). z.name) s.entities) e.index) x (sym (target_names s (target.Entity e)) ∙ ap (λ z. by_names s (Named z)) (sym g) ∙ ap (by_names s) (sym f) ∙ is) in
    let at = named_at (λ (z : Entity). z.name) s.entities e.index found.0 no_entity found.1 in
    let entity_is : IsEntity s (entity_name s e) = subst (IsEntity s) (sym at.1) at.2 in
    subst (λ z. IsAskedBy s z (asked.Entity e)) (ap named at.1 ∙ found.2)
    (record { asked_ = at.0; same = by_entity s w (entity_name s e) entity_is })

-- the type that is named
pub type_asked : (s : Schema) (v : ResolvedExpr) (t : Target) (d : TypeId) (x : Expr) → v ≡ Named t → t ≡ target.Defined d → by_names s v ≡ Some x → IsTypeOf s d × (named (type_name s d) ≡ x)
type_asked s v t d x f g is =
    let found = mapped named (slice_get (map (λ (z : Defined). z.name) s.types) d.index) x (sym (target_names s (target.Defined d)) ∙ ap (λ z. by_names s (Named z)) (sym g) ∙ ap (by_names s) (sym f) ∙ is) in
    let at = named_at (λ (z : Defined). z.name) s.types d.index found.0 no_type found.1 in
    (at.0, ap named at.1 ∙ found.2)
