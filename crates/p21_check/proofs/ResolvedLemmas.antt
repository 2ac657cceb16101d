-- A type of the code as a plain one, variant by variant.
use Rattle.std.proofs.Common.{◌≡◌, ℕ, List, [], ◌∷◌, zero, suc, Option, Some, None, Bool, Box, Global, inl, inr, map, length, get_or, ◌<◌, refl, sym, ap, ◌∙◌, arith}
use Rattle.std.specs.Prelude.{option_map, slice_get}
use Rattle.p21_express.specs.declared.declarations.Bounds.{Bounds}
use Rattle.p21_express.specs.Schema.{Schema, Expr, Entity, Defined, aggregate, named, array, list, set, bag}
use Rattle.p21_express.specs.WellFormed.{IsIn, IsEntity}
use Rattle.p21_schema.specs.declared.ids.EntityId.{EntityId}
use Rattle.p21_schema.specs.declared.ids.TypeId.{TypeId}
use Rattle.p21_schema.specs.declared.resolved.Target.TheVariants as target
use Rattle.p21_schema.specs.declared.resolved.Target.{Target}
use Rattle.p21_schema.specs.declared.resolved.ResolvedExpr.{ResolvedExpr, fold-roll-ResolvedExpr}
use Rattle.p21_schema.specs.declared.resolved.ResolvedExpr.TheOpen as level
use Rattle.p21_schema.specs.declared.resolved.ResolvedExpr.TheVariants.{Named, rolls-Named}
use Rattle.p21_schema.specs.declared.resolved.ResolvedExpr.TheViews as view
use Rattle.p21_schema.specs.Place.{no_entity, no_type, type_name, IsTypeOf}
use Rattle.p21_schema.specs.Resolved.{resolved_expr, resolved_level, target_name}
use Rattle.p21_check.specs.Known.{IsExpr, IsKnownExpr, IsTarget}

part : (f : Expr → Expr) (o : Option Expr) (x : Expr) → option_map f o ≡ Some x → (e : Expr) × (o ≡ Some e)
part f None x h = cc
part f (Some e) x h = (e, refl)

module _ (es ts : List (List ℕ)) where
  expr_array : (x : ResolvedExpr) (b : Bounds) (o : Bool) (i : Box ResolvedExpr Global) → x ≡ view.Array b o i → resolved_expr es ts x ≡ option_map (aggregate (array b o)) (resolved_expr es ts i.value)
  expr_array x b o i e = ap (resolved_expr es ts) (e ∙ sym (view.rolls-Array b o i)) ∙ fold-roll-ResolvedExpr (Option Expr) (resolved_level es ts) (level.Array b o i)

  expr_list : (x : ResolvedExpr) (b : Bounds) (u : Bool) (i : Box ResolvedExpr Global) → x ≡ view.List b u i → resolved_expr es ts x ≡ option_map (aggregate (list b u)) (resolved_expr es ts i.value)
  expr_list x b u i e = ap (resolved_expr es ts) (e ∙ sym (view.rolls-List b u i)) ∙ fold-roll-ResolvedExpr (Option Expr) (resolved_level es ts) (level.List b u i)

  expr_set : (x : ResolvedExpr) (b : Bounds) (i : Box ResolvedExpr Global) → x ≡ view.Set b i → resolved_expr es ts x ≡ option_map (aggregate (set b)) (resolved_expr es ts i.value)
  expr_set x b i e = ap (resolved_expr es ts) (e ∙ sym (view.rolls-Set b i)) ∙ fold-roll-ResolvedExpr (Option Expr) (resolved_level es ts) (level.Set b i)

  expr_bag : (x : ResolvedExpr) (b : Bounds) (i : Box ResolvedExpr Global) → x ≡ view.Bag b i → resolved_expr es ts x ≡ option_map (aggregate (bag b)) (resolved_expr es ts i.value)
  expr_bag x b i e = ap (resolved_expr es ts) (e ∙ sym (view.rolls-Bag b i)) ∙ fold-roll-ResolvedExpr (Option Expr) (resolved_level es ts) (level.Bag b i)

  pub expr_named : (x : ResolvedExpr) (t : Target) → x ≡ Named t → resolved_expr es ts x ≡ option_map named (target_name es ts t)
  expr_named x t e = ap (resolved_expr es ts) (e ∙ sym (rolls-Named t)) ∙ fold-roll-ResolvedExpr (Option Expr) (resolved_level es ts) (level.Named t)

-- the element of a known aggregate is known

pub known_array : (s : Schema) (x : ResolvedExpr) (b : Bounds) (o : Bool) (i : Box ResolvedExpr Global) → IsKnownExpr s x → x ≡ view.Array b o i → IsKnownExpr s i.value
known_array s x b o i k e = part (aggregate (array b o)) _ k.0 (sym (expr_array _ _ x b o i e) ∙ k.1)

pub known_list : (s : Schema) (x : ResolvedExpr) (b : Bounds) (u : Bool) (i : Box ResolvedExpr Global) → IsKnownExpr s x → x ≡ view.List b u i → IsKnownExpr s i.value
known_list s x b u i k e = part (aggregate (list b u)) _ k.0 (sym (expr_list _ _ x b u i e) ∙ k.1)

pub known_set : (s : Schema) (x : ResolvedExpr) (b : Bounds) (i : Box ResolvedExpr Global) → IsKnownExpr s x → x ≡ view.Set b i → IsKnownExpr s i.value
known_set s x b i k e = part (aggregate (set b)) _ k.0 (sym (expr_set _ _ x b i e) ∙ k.1)

pub known_bag : (s : Schema) (x : ResolvedExpr) (b : Bounds) (i : Box ResolvedExpr Global) → IsKnownExpr s x → x ≡ view.Bag b i → IsKnownExpr s i.value
known_bag s x b i k e = part (aggregate (bag b)) _ k.0 (sym (expr_bag _ _ x b i e) ∙ k.1)

-- a name that is there stands for what has it

pub entity_there : (es : List Entity) (i : ℕ) (n : List ℕ) → slice_get (map (λ (e : Entity). e.name) es) i ≡ Some n → IsIn (map (λ (e : Entity). e.name) es) n × (i < length es) × ((get_or es i no_entity).name ≡ n)
entity_there [] i n h = cc
entity_there (e ∷ es) zero n h = let same : e.name ≡ n = cc in (inl same, omega arith, same)
entity_there (e ∷ es) (suc i) n h = let more = entity_there es i n h in (inr more.0, (let l = more.1 in omega arith), more.2)

pub type_there : (ts : List Defined) (i : ℕ) (n : List ℕ) → slice_get (map (λ (t : Defined). t.name) ts) i ≡ Some n → (i < length ts) × ((get_or ts i no_type).name ≡ n)
type_there [] i n h = cc
type_there (t ∷ ts) zero n h = let same : t.name ≡ n = cc in (omega arith, same)
type_there (t ∷ ts) (suc i) n h = let more = type_there ts i n h in ((let l = more.0 in omega arith), more.1)

named_part : (o : Option (List ℕ)) (e : Expr) → option_map named o ≡ Some e → (n : List ℕ) × (o ≡ Some n) × (e ≡ named n)
named_part None e h = cc
named_part (Some n) e h = (n, refl, sym (cc))

-- a known name is that of a target
pub names_target : (s : Schema) (x : ResolvedExpr) (t : Target) (e : Expr) → IsExpr s x e → x ≡ Named t → (n : List ℕ) × IsTarget s t n × (e ≡ named n)
names_target s x t e h is = named_part _ e (sym (expr_named _ _ x t is) ∙ h)

-- an entity stands there
pub names_entity : (s : Schema) (t : Target) (i : EntityId) (n : List ℕ) → IsTarget s t n → t ≡ target.Entity i → IsEntity s n
names_entity s t i n h is = (entity_there s.entities i.index n (ap (target_name (map (λ e. e.name) s.entities) (map (λ t. t.name) s.types)) (sym is) ∙ h)).0

-- a type stands there
pub names_type : (s : Schema) (t : Target) (i : TypeId) (n : List ℕ) → IsTarget s t n → t ≡ target.Defined i → (type_name s i ≡ n) × IsTypeOf s i
names_type s t i n h is =
    let at = type_there s.types i.index n (ap (target_name (map (λ e. e.name) s.entities) (map (λ t. t.name) s.types)) (sym is) ∙ h) in
    (at.1, at.0)
