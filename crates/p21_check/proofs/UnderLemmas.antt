-- What stands under a type, as the code has it.
use Rattle.std.proofs.Common.{◌≡◌, ◌↔◌, ◌≤◌, ℕ, List, Some, Vec, Global, map, refl, sym, ap, subst, ◌∙◌}
use Rattle.p21_tree.specs.Tree.{Tree}
use Rattle.p21_tree.specs.Tree as tree
use Rattle.p21_express.specs.Schema.{Schema, Expr, Underlying}
use Rattle.p21_express.specs.Schema as type
use Rattle.p21_express.specs.WellFormed.{IsWellFormed, IsSelect}
use Rattle.p21_schema.specs.declared.resolved.Target.{Target}
use Rattle.p21_schema.specs.declared.resolved.ResolvedExpr.{ResolvedExpr}
use Rattle.p21_schema.specs.declared.resolved.ResolvedExpr.TheVariants.{Named}
use Rattle.p21_schema.specs.declared.resolved.Resolved.{Resolved}
use Rattle.p21_schema.specs.declared.resolved.Resolved.TheVariants as resolved
use Rattle.p21_schema.specs.Resolved.{resolved_expr}
use Rattle.p21_schema.specs.Under.{StandsUnder, IsNoName, IsResolvedIn}
use Rattle.p21_schema.specs.Under as under
use Rattle.p21_schema.specs.Items.{IsItemOf, HasItem}
use Rattle.p21_check.specs.Conforms.{Conforms}
use Rattle.p21_check.specs.Known.{IsExpr}
use Rattle.p21_check.proofs.Sizes.{rank, low, low_rank}
use Rattle.p21_check.proofs.ResolvedLemmas.{names_target}
use Rattle.p21_check.proofs.TypeLemmas.{FitsUnder, under_by, under_select}

pub rank_least : (s : Schema) (x : ResolvedExpr) → 1 ≤ rank (resolved_expr (map (λ e. e.name) s.entities) (map (λ t. t.name) s.types) x)
rank_least s x = low (resolved_expr (map (λ e. e.name) s.entities) (map (λ t. t.name) s.types) x)

-- a name of a type has the high rank
pub rank_named : (s : Schema) (x : ResolvedExpr) (t : Target) (e : Expr) → IsExpr s x e → x ≡ Named t → rank (resolved_expr (map (λ e. e.name) s.entities) (map (λ t. t.name) s.types) x) ≡ 4
rank_named s x t e h is = ap rank (h ∙ ap Some (names_target s x t e h is).2)

no_name : {s : Schema} {n : List ℕ} {u : Underlying} → StandsUnder s n u → IsNoName u
no_name (under.itself d a b c h) = h
no_name (under.followed d a b c h) = no_name h

items_there : (s : Schema) (v : Vec (Vec ℕ Global) Global) (u : Underlying) → IsResolvedIn s (resolved.Items v) u → type.items (map (λ (x : Vec ℕ Global). x.items) v.items) ≡ u
items_there s v (type.items ns) h = ap type.items h
items_there s v (type.select ns) h = absurd h
items_there s v (type.plain e) h = absurd h

select_there : (s : Schema) (v : Vec Target Global) (u : Underlying) → IsResolvedIn s (resolved.Select v) u → (ns : List (List ℕ)) × (u ≡ type.select ns)
select_there s v (type.items ns) h = absurd h
select_there s v (type.select ns) h = (ns, refl)
select_there s v (type.plain e) h = absurd h

plain_there : (s : Schema) (x : ResolvedExpr) (u : Underlying) → IsResolvedIn s (resolved.Plain x) u → (e : Expr) × (u ≡ type.plain e) × IsExpr s x e
plain_there s x (type.items ns) h = absurd h
plain_there s x (type.select ns) h = absurd h
plain_there s x (type.plain e) h = (e, refl, h)

item_conforms : (s : Schema) → IsWellFormed s → (n x : List ℕ) (t : Tree) (u : Underlying) → t ≡ tree.enumeration x → StandsUnder s n u → IsItemOf u x → Conforms s (type.named n) t
item_conforms s w n x t (type.items ns) e stands i = (under_by s w t stands).0 (x, e, i)
item_conforms s w n x t (type.select ns) e stands i = absurd i
item_conforms s w n x t (type.plain y) e stands i = absurd i

module _ (s : Schema) (w : IsWellFormed s) (n : List ℕ) (r : Resolved) (u : Underlying) (stands : StandsUnder s n u) (is : IsResolvedIn s r u) where
  pub by_items : (v : Vec (Vec ℕ Global) Global) (t : Tree) → r ≡ resolved.Items v → ((x : List ℕ) × (t ≡ tree.enumeration x) × HasItem s n x) ↔ Conforms s (type.named n) t
  by_items v t e =
      let found : type.items (map (λ (y : Vec ℕ Global). y.items) v.items) ≡ u = items_there s v u (subst (λ x. IsResolvedIn s x u) e is) in
      let there : FitsUnder s n (type.items (map (λ (y : Vec ℕ Global). y.items) v.items)) t ↔ Conforms s (type.named n) t = subst (λ x. FitsUnder s n x t ↔ Conforms s (type.named n) t) (sym found) (under_by s w t stands) in (
        λ h. item_conforms s w n h.0 t h.2.under h.1 h.2.stands h.2.item,
        λ c. let h = there.1 c in (h.0, h.1, record { under = type.items (map (λ (y : Vec ℕ Global). y.items) v.items); stands = subst (StandsUnder s n) (sym found) stands; item = h.2 }),
      )

  pub is_select : (v : Vec Target Global) → r ≡ resolved.Select v → IsSelect s n
  is_select v e =
      let found = select_there s v u (subst (λ x. IsResolvedIn s x u) e is) in
      under_select s w (subst (StandsUnder s n) found.1 stands)

  pub by_plain : (x : ResolvedExpr) (t : Tree) → r ≡ resolved.Plain x → (e : Expr) × IsExpr s x e × (rank (resolved_expr (map (λ e. e.name) s.entities) (map (λ t. t.name) s.types) x) ≡ 1) × (Conforms s e t ↔ Conforms s (type.named n) t)
  by_plain x t f =
      let found = plain_there s x u (subst (λ x. IsResolvedIn s x u) f is) in
      let none : (m : List ℕ) → ¬ (found.0 ≡ type.named m) = λ m g. no_name stands m (found.1 ∙ ap type.plain g) in
      (found.0, found.2, ap rank found.2 ∙ low_rank found.0 none, subst (λ y. FitsUnder s n y t ↔ Conforms s (type.named n) t) found.1 (under_by s w t stands))
