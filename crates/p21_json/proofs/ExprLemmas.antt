-- Types of the code whose values are of BOOLEAN or LOGICAL.
use Rattle.std.proofs.Common.{◌≡◌, ◌↔◌, ◌<◌, ◌++◌, ℕ, zero, suc, List, [], ◌∷◌, Option, Some, None, Bool, false, IsTrue, Box, Global, inl, inr, map, length, get_or, refl, sym, ap, subst, ◌∙◌, arith}
use Rattle.std.specs.Prelude.{option_map, slice_get}
use Rattle.std.proofs.lemmas.Bool.{false≢true}
use Rattle.p21_express.specs.declared.declarations.Bounds.{Bounds}
use Rattle.p21_express.specs.declared.declarations.Width.{Width}
use Rattle.p21_express.specs.Schema.{Schema, Expr, Aggregate, Entity, Defined, aggregate, named, array, list, set, bag, integer, number, boolean, logical, real, text, binary}
use Rattle.p21_express.specs.WellFormed.{IsIn, AreDistinct, IsWellFormed}
use Rattle.p21_schema.specs.declared.ids.EntityId.{EntityId}
use Rattle.p21_schema.specs.declared.ids.TypeId.{TypeId}
use Rattle.p21_schema.specs.declared.resolved.Target.TheVariants as target
use Rattle.p21_schema.specs.declared.resolved.Target.{Target}
use Rattle.p21_schema.specs.declared.resolved.ResolvedExpr.{ResolvedExpr, fold-roll-ResolvedExpr}
use Rattle.p21_schema.specs.declared.resolved.ResolvedExpr.TheOpen as level
use Rattle.p21_schema.specs.declared.resolved.ResolvedExpr.TheVariants as variant
use Rattle.p21_schema.specs.declared.resolved.ResolvedExpr.TheViews as view
use Rattle.p21_schema.specs.Place.{no_type, type_name, IsTypeOf}
use Rattle.p21_schema.specs.Resolved.{resolved_expr, resolved_level, target_name}
use Rattle.p21_json.specs.Logical.{TakesLogical}
use Rattle.p21_json.specs.Logical as takes
use Rattle.p21_json.specs.Terms.{IsExpr, IsTarget}
use Rattle.p21_json.proofs.FlagLemmas.{element_takes, takes_type}

part : (f : Expr → Expr) (o : Option Expr) (x : Expr) → option_map f o ≡ Some x → (e : Expr) × (o ≡ Some e) × (x ≡ f e)
part f None x h = cc
part f (Some e) x h = (e, refl, let same : x ≡ f e = cc in same)

named_part : (o : Option (List ℕ)) (e : Expr) → option_map named o ≡ Some e → (n : List ℕ) × (o ≡ Some n) × (e ≡ named n)
named_part None e h = cc
named_part (Some n) e h = (n, refl, sym (cc))

abbrev depth : Expr → ℕ
depth (aggregate a e) = suc (depth e)
depth integer = 0
depth number = 0
depth boolean = 0
depth logical = 0
depth real = 0
depth (text w) = 0
depth (binary w) = 0
depth (named n) = 0

abbrev depth_of : Option Expr → ℕ
depth_of None = 0
depth_of (Some e) = depth e

-- how many aggregates are around the elements of a type
abbrev pub depth_in : Schema → ResolvedExpr → ℕ
depth_in s x = depth_of (resolved_expr (map (λ (e : Entity). e.name) s.entities) (map (λ (t : Defined). t.name) s.types) x)

pub deeper : (s : Schema) (x y : ResolvedExpr) (a : Aggregate) (e f : Expr) → IsExpr s x e → IsExpr s y f → e ≡ aggregate a f → depth_in s y < depth_in s x
deeper s x y a e f h k q =
    let one : depth_in s x ≡ suc (depth f) = ap depth_of h ∙ ap depth q in
    let other : depth_in s y ≡ depth f = ap depth_of k in
    omega arith

-- the elements of an aggregate
pub array_part : (s : Schema) (x : ResolvedExpr) (b : Bounds) (o : Bool) (i : Box ResolvedExpr Global) (e : Expr) → IsExpr s x e → x ≡ view.Array b o i → (f : Expr) × IsExpr s i.value f × (e ≡ aggregate (array b o) f)
array_part s x b o i e k q =
    let es = map (λ (e : Entity). e.name) s.entities in
    let ts = map (λ (t : Defined). t.name) s.types in
    part (aggregate (array b o)) _ e (sym (ap (resolved_expr es ts) (q ∙ sym (view.rolls-Array b o i)) ∙ fold-roll-ResolvedExpr (Option Expr) (resolved_level es ts) (level.Array b o i)) ∙ k)

pub list_part : (s : Schema) (x : ResolvedExpr) (b : Bounds) (u : Bool) (i : Box ResolvedExpr Global) (e : Expr) → IsExpr s x e → x ≡ view.List b u i → (f : Expr) × IsExpr s i.value f × (e ≡ aggregate (list b u) f)
list_part s x b u i e k q =
    let es = map (λ (e : Entity). e.name) s.entities in
    let ts = map (λ (t : Defined). t.name) s.types in
    part (aggregate (list b u)) _ e (sym (ap (resolved_expr es ts) (q ∙ sym (view.rolls-List b u i)) ∙ fold-roll-ResolvedExpr (Option Expr) (resolved_level es ts) (level.List b u i)) ∙ k)

pub set_part : (s : Schema) (x : ResolvedExpr) (b : Bounds) (i : Box ResolvedExpr Global) (e : Expr) → IsExpr s x e → x ≡ view.Set b i → (f : Expr) × IsExpr s i.value f × (e ≡ aggregate (set b) f)
set_part s x b i e k q =
    let es = map (λ (e : Entity). e.name) s.entities in
    let ts = map (λ (t : Defined). t.name) s.types in
    part (aggregate (set b)) _ e (sym (ap (resolved_expr es ts) (q ∙ sym (view.rolls-Set b i)) ∙ fold-roll-ResolvedExpr (Option Expr) (resolved_level es ts) (level.Set b i)) ∙ k)

pub bag_part : (s : Schema) (x : ResolvedExpr) (b : Bounds) (i : Box ResolvedExpr Global) (e : Expr) → IsExpr s x e → x ≡ view.Bag b i → (f : Expr) × IsExpr s i.value f × (e ≡ aggregate (bag b) f)
bag_part s x b i e k q =
    let es = map (λ (e : Entity). e.name) s.entities in
    let ts = map (λ (t : Defined). t.name) s.types in
    part (aggregate (bag b)) _ e (sym (ap (resolved_expr es ts) (q ∙ sym (view.rolls-Bag b i)) ∙ fold-roll-ResolvedExpr (Option Expr) (resolved_level es ts) (level.Bag b i)) ∙ k)

pub target_part : (s : Schema) (x : ResolvedExpr) (t : Target) (e : Expr) → IsExpr s x e → x ≡ variant.Named t → (n : List ℕ) × IsTarget s t n × (e ≡ named n)
target_part s x t e k q =
    let es = map (λ (e : Entity). e.name) s.entities in
    let ts = map (λ (t : Defined). t.name) s.types in
    named_part _ e (sym (ap (resolved_expr es ts) (q ∙ sym (variant.rolls-Named t)) ∙ fold-roll-ResolvedExpr (Option Expr) (resolved_level es ts) (level.Named t)) ∙ k)

-- an aggregate is of such values where its elements are
pub aggregate_by : (s : Schema) (a : Aggregate) (e f : Expr) (r : Bool) → e ≡ aggregate a f → (IsTrue r ↔ TakesLogical s f) → (IsTrue r ↔ TakesLogical s e)
aggregate_by s a e f r q h = (λ t. subst (TakesLogical s) (sym q) (takes.element (h.0 t)), λ t. h.1 (element_takes s a f (subst (TakesLogical s) q t)))

pub named_by : (s : Schema) (e : Expr) (n : List ℕ) (r : Bool) → e ≡ named n → (IsTrue r ↔ TakesLogical s (named n)) → (IsTrue r ↔ TakesLogical s e)
named_by s e n r q h = (λ t. subst (TakesLogical s) (sym q) (h.0 t), λ t. h.1 (subst (TakesLogical s) q t))

is_some : (e f : Expr) → Some e ≡ Some f → f ≡ e
is_some e f h = cc

pub boolean_is : (s : Schema) (x : ResolvedExpr) (e : Expr) → IsExpr s x e → x ≡ variant.Boolean → TakesLogical s e
boolean_is s x e k q =
    let es = map (λ (e : Entity). e.name) s.entities in
    let ts = map (λ (t : Defined). t.name) s.types in
    subst (TakesLogical s) (sym (is_some boolean e (sym (ap (resolved_expr es ts) (q ∙ sym variant.rolls-Boolean) ∙ fold-roll-ResolvedExpr (Option Expr) (resolved_level es ts) level.Boolean) ∙ k))) takes.boolean

pub logical_is : (s : Schema) (x : ResolvedExpr) (e : Expr) → IsExpr s x e → x ≡ variant.Logical → TakesLogical s e
logical_is s x e k q =
    let es = map (λ (e : Entity). e.name) s.entities in
    let ts = map (λ (t : Defined). t.name) s.types in
    subst (TakesLogical s) (sym (is_some logical e (sym (ap (resolved_expr es ts) (q ∙ sym variant.rolls-Logical) ∙ fold-roll-ResolvedExpr (Option Expr) (resolved_level es ts) level.Logical) ∙ k))) takes.logical

-- a type of other values
abbrev pub IsOther : Expr → Type 0
IsOther integer = Unit {0}
IsOther number = Unit {0}
IsOther real = Unit {0}
IsOther (text w) = Unit {0}
IsOther (binary w) = Unit {0}
IsOther boolean = ⊥
IsOther logical = ⊥
IsOther (aggregate a e) = ⊥
IsOther (named n) = ⊥

takes_no_other : (s : Schema) {e : Expr} → TakesLogical s e → IsOther e → ⊥
takes_no_other s takes.boolean h = h
takes_no_other s takes.logical h = h
takes_no_other s (takes.element t) h = h
takes_no_other s (takes.defined t m q u inner) h = h

other_by : (s : Schema) (e f : Expr) → Some f ≡ Some e → IsOther f → (IsTrue false ↔ TakesLogical s e)
other_by s e f k o = (λ t. absurd (false≢true t), λ t. absurd (takes_no_other s t (subst IsOther (sym (is_some f e k)) o)))

pub integer_is_not : (s : Schema) (x : ResolvedExpr) (e : Expr) → IsExpr s x e → x ≡ variant.Integer → (IsTrue false ↔ TakesLogical s e)
integer_is_not s x e k q =
    let es = map (λ (e : Entity). e.name) s.entities in
    let ts = map (λ (t : Defined). t.name) s.types in
    other_by s e integer (sym (ap (resolved_expr es ts) (q ∙ sym variant.rolls-Integer) ∙ fold-roll-ResolvedExpr (Option Expr) (resolved_level es ts) level.Integer) ∙ k) tt

pub number_is_not : (s : Schema) (x : ResolvedExpr) (e : Expr) → IsExpr s x e → x ≡ variant.Number → (IsTrue false ↔ TakesLogical s e)
number_is_not s x e k q =
    let es = map (λ (e : Entity). e.name) s.entities in
    let ts = map (λ (t : Defined). t.name) s.types in
    other_by s e number (sym (ap (resolved_expr es ts) (q ∙ sym variant.rolls-Number) ∙ fold-roll-ResolvedExpr (Option Expr) (resolved_level es ts) level.Number) ∙ k) tt

pub real_is_not : (s : Schema) (x : ResolvedExpr) (e : Expr) → IsExpr s x e → x ≡ variant.Real → (IsTrue false ↔ TakesLogical s e)
real_is_not s x e k q =
    let es = map (λ (e : Entity). e.name) s.entities in
    let ts = map (λ (t : Defined). t.name) s.types in
    other_by s e real (sym (ap (resolved_expr es ts) (q ∙ sym variant.rolls-Real) ∙ fold-roll-ResolvedExpr (Option Expr) (resolved_level es ts) level.Real) ∙ k) tt

pub text_is_not : (s : Schema) (x : ResolvedExpr) (w : Width) (e : Expr) → IsExpr s x e → x ≡ variant.Text w → (IsTrue false ↔ TakesLogical s e)
text_is_not s x w e k q =
    let es = map (λ (e : Entity). e.name) s.entities in
    let ts = map (λ (t : Defined). t.name) s.types in
    other_by s e (text w) (sym (ap (resolved_expr es ts) (q ∙ sym (variant.rolls-Text w)) ∙ fold-roll-ResolvedExpr (Option Expr) (resolved_level es ts) (level.Text w)) ∙ k) tt

pub binary_is_not : (s : Schema) (x : ResolvedExpr) (w : Width) (e : Expr) → IsExpr s x e → x ≡ variant.Binary w → (IsTrue false ↔ TakesLogical s e)
binary_is_not s x w e k q =
    let es = map (λ (e : Entity). e.name) s.entities in
    let ts = map (λ (t : Defined). t.name) s.types in
    other_by s e (binary w) (sym (ap (resolved_expr es ts) (q ∙ sym (variant.rolls-Binary w)) ∙ fold-roll-ResolvedExpr (Option Expr) (resolved_level es ts) (level.Binary w)) ∙ k) tt

in_back : {X : Type 0} (xs ys : List X) (x : X) → IsIn ys x → IsIn (xs ++ ys) x
in_back [] ys x h = h
in_back (y ∷ xs) ys x h = inr (in_back xs ys x h)

apart : {X : Type 0} (xs ys : List X) (x : X) → AreDistinct (xs ++ ys) → IsIn xs x → IsIn ys x → ⊥
apart [] ys x h a b = a
apart (y ∷ xs) ys x h (inl e) b = h.0 (in_back xs ys y (subst (IsIn ys) (sym e) b))
apart (y ∷ xs) ys x h (inr a) b = apart xs ys x h.1 a b

entity_in : (es : List Entity) (i : ℕ) (n : List ℕ) → slice_get (map (λ (e : Entity). e.name) es) i ≡ Some n → IsIn (map (λ (e : Entity). e.name) es) n
entity_in [] i n h = cc
entity_in (e ∷ es) zero n h = inl (let same : e.name ≡ n = cc in same)
entity_in (e ∷ es) (suc i) n h = inr (entity_in es i n h)

-- an entity is no type
pub entity_is_not : (s : Schema) (t : Target) (i : EntityId) (n : List ℕ) → IsWellFormed s → IsTarget s t n → t ≡ target.Entity i → (IsTrue false ↔ TakesLogical s (named n))
entity_is_not s t i n w h q =
    let there = entity_in s.entities i.index n (ap (target_name (map (λ (e : Entity). e.name) s.entities) (map (λ (t : Defined). t.name) s.types)) (sym q) ∙ h) in
    (λ f. absurd (false≢true f), λ f. absurd (apart (map (λ (e : Entity). e.name) s.entities) (map (λ (t : Defined). t.name) s.types) n w.repeated.declarations there (takes_type s f n refl)))

type_there : (ts : List Defined) (i : ℕ) (n : List ℕ) → slice_get (map (λ (t : Defined). t.name) ts) i ≡ Some n → (i < length ts) × ((get_or ts i no_type).name ≡ n)
type_there [] i n h = cc
type_there (t ∷ ts) zero n h = let same : t.name ≡ n = cc in (omega arith, same)
type_there (t ∷ ts) (suc i) n h = let more = type_there ts i n h in ((let l = more.0 in omega arith), more.1)

-- a type stands there
pub type_at : (s : Schema) (t : Target) (i : TypeId) (n : List ℕ) → IsTarget s t n → t ≡ target.Defined i → IsTypeOf s i × (type_name s i ≡ n)
type_at s t i n h q = type_there s.types i.index n (ap (target_name (map (λ (e : Entity). e.name) s.entities) (map (λ (t : Defined). t.name) s.types)) (sym q) ∙ h)
