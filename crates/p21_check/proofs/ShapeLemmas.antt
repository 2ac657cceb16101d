-- What a type takes that is more than one token.
use Rattle.std.proofs.Common.{◌≡◌, ◌↔◌, ℕ, Bool, true, false, List, Option, Some, None, length, refl, sym, ap, subst, ◌∙◌, Vec, Global}
use Rattle.std.specs.Prelude.{option_map, IfSome, MatchOption}
use Rattle.p21_express.specs.Schema.{Schema, Expr, Aggregate, Underlying, aggregate, named}
use Rattle.p21_express.specs.WellFormed.{IsWellFormed}
use Rattle.p21_tree.specs.Plain.{plain_all}
use Rattle.p21_tree.specs.Tree.{Tree, items, nil, typed}
use Rattle.p21_tree.specs.declared.params.Param.{Param}
use Rattle.p21_schema.specs.declared.ids.TypeId.{TypeId}
use Rattle.p21_schema.specs.declared.resolved.Resolved.{Resolved}
use Rattle.p21_schema.specs.declared.resolved.Resolved.TheVariants as resolved
use Rattle.p21_schema.specs.declared.resolved.ResolvedExpr.{ResolvedExpr}
use Rattle.p21_schema.specs.declared.resolved.ResolvedExpr.TheVariants.{Named}
use Rattle.p21_schema.specs.declared.resolved.Target.{Target}
use Rattle.p21_schema.specs.declared.resolved.Target.TheVariants as target
use Rattle.p21_schema.specs.Place.{IsTypeOf, type_name}
use Rattle.p21_schema.specs.Select.{ReachesType}
use Rattle.p21_schema.specs.Under.{StandsUnder, IsResolvedIn}
use Rattle.p21_check.specs.declared.shape.Elements.{Elements}
use Rattle.p21_check.specs.Conforms.{Conforms, AreCounted, AreElements, may_be_absent}
use Rattle.p21_check.specs.Conforms as conforms
use Rattle.p21_check.specs.Known.{IsExpr}
use Rattle.p21_check.specs.Shape.{IsCountBy, TakesElements, TakesTyped}
use Rattle.p21_check.specs.Wanted.{by_names}
use Rattle.p21_check.proofs.ElementLemmas.{count_all}
use Rattle.p21_check.proofs.ExprLemmas.{mapped}
use Rattle.p21_check.proofs.ResolvedLemmas.{names_target, names_type}
use Rattle.p21_check.proofs.UnderLemmas.{by_plain, is_select}

-- an aggregate takes lists of its elements
pub takes_aggregate : (s : Schema) (e : Expr) (a : Aggregate) (v : ResolvedExpr) (r : Elements) → option_map (aggregate a) (by_names s v) ≡ Some e → r.item.now ≡ v → ((n : ℕ) → IsCountBy r.array r.bounds n → AreCounted a n) → r.optional ≡ may_be_absent a → TakesElements s e r
takes_aggregate s e a v r known same count optional =
    let found = mapped (aggregate a) (by_names s v) e known in
    record {
      item = found.0;
      is = ap (by_names s) same ∙ found.1;
      takes = λ ps n fit. subst (λ x. Conforms s x (items (plain_all ps))) found.2 (conforms.aggregate (subst (AreCounted a) (sym (count_all ps)) (count (length ps) n)) (subst (λ o. AreElements s o found.0 (plain_all ps)) optional fit));
    }

-- the same element type, in other words
same_item : (s : Schema) (e f : Expr) (r : Elements) (t : TakesElements s e r) (u : TakesElements s f r) → t.item ≡ u.item
same_item s e f r t u = let a = t.is in let b = u.is in cc

-- so does a type under whose name one stands
pub takes_under : (s : Schema) → IsWellFormed s → (n : List ℕ) (x : Resolved) (u : Underlying) (v : ResolvedExpr) (r : Elements) → StandsUnder s n u → IsResolvedIn s x u → x ≡ resolved.Plain v → ((e : Expr) → IsExpr s v e → TakesElements s e r) → TakesElements s (named n) r
takes_under s w n x u v r stands is plain takes =
    let e = by_plain s w n x u stands is v (items nil) plain in
    let t = takes e.0 e.1 in
    record {
      item = t.item;
      is = t.is;
      takes = λ ps count fit.
          (let f = by_plain s w n x u stands is v (items (plain_all ps)) plain in
          let g = takes f.0 f.1 in
          f.3.0 (g.takes ps count (subst (λ i. AreElements s r.optional i (plain_all ps)) (same_item s e.0 f.0 r t g) fit)));
    }

-- a SELECT takes what conforms to a type that it reaches, with the type's name
pub takes_typed : (s : Schema) → IsWellFormed s → (n : List ℕ) (x : Resolved) (u : Underlying) (v : Vec Target Global) (keyword : List ℕ) (id : TypeId) → StandsUnder s n u → IsResolvedIn s x u → x ≡ resolved.Select v → type_name s id ≡ keyword → ReachesType s n keyword → TakesTyped s (named n) keyword id
takes_typed s w n x u v keyword id stands is select same reached p h = conforms.select_type (is_select s w n x u stands is v select) reached (subst (λ k. Conforms s (named k) p) same h)

-- the type that a name is
pub named_type : (s : Schema) (x : ResolvedExpr) (t : Target) (id : TypeId) (e : Expr) → IsExpr s x e → x ≡ Named t → t ≡ target.Defined id → (e ≡ named (type_name s id)) × IsTypeOf s id
named_type s x t id e h is of =
    let n = names_target s x t e h is in
    let m = names_type s t id n.0 n.1 of in
    (n.2 ∙ ap named (sym m.0), m.1)

pub elements_under : (s : Schema) → IsWellFormed s → (n : List ℕ) (x : Resolved) (u : Underlying) (v : ResolvedExpr) (o : Option Elements) → StandsUnder s n u → IsResolvedIn s x u → x ≡ resolved.Plain v → ((e : Expr) → IsExpr s v e → IfSome o (TakesElements s e)) → IfSome o (TakesElements s (named n))
elements_under s w n x u v None stands is plain takes = tt
elements_under s w n x u v (Some r) stands is plain takes = takes_under s w n x u v r stands is plain takes

pub typed_under : (s : Schema) → IsWellFormed s → (n : List ℕ) (x : Resolved) (u : Underlying) (v : Vec Target Global) (keyword : List ℕ) (o : Option TypeId) → StandsUnder s n u → IsResolvedIn s x u → x ≡ resolved.Select v → MatchOption o (¬ (ReachesType s n keyword)) (λ t. IsTypeOf s t × ((type_name s t ≡ keyword) × ReachesType s n keyword)) → IfSome o (TakesTyped s (named n) keyword)
typed_under s w n x u v keyword None stands is select h = tt
typed_under s w n x u v keyword (Some id) stands is select h = takes_typed s w n x u v keyword id stands is select h.1.0 h.1.1
