-- The lists that stand for a type, as the code keeps them.
use Rattle.std.proofs.Common.{◌≡◌, ℕ, zero, suc, ◌<◌, inl, inr, List, [], ◌∷◌, Option, Some, None, length, get_or, map, refl, sym, ap, subst, ◌∙◌, arith}
use Rattle.std.specs.Prelude.{option_map, slice_get}
use Rattle.p21_express.specs.Schema.{Schema, Expr, Entity, Defined, Underlying, Aggregate, items, select, plain, named, aggregate}
use Rattle.p21_express.specs.WellFormed.{IsIn, IsType, IsWellFormed}
use Rattle.p21_schema.specs.declared.ids.EntityId.{EntityId}
use Rattle.p21_schema.specs.declared.ids.TypeId.{TypeId}
use Rattle.p21_schema.specs.declared.resolved.Resolved.{Resolved}
use Rattle.p21_schema.specs.declared.resolved.Resolved.TheVariants as resolved
use Rattle.p21_schema.specs.declared.resolved.ResolvedExpr.{ResolvedExpr}
use Rattle.p21_schema.specs.declared.resolved.ResolvedExpr.TheVariants.{Named}
use Rattle.p21_schema.specs.declared.resolved.Target.{Target}
use Rattle.p21_schema.specs.declared.resolved.Target.TheVariants as target
use Rattle.p21_schema.specs.Place.{no_entity, no_type, type_name, IsTypeOf}
use Rattle.p21_schema.specs.Under.{StandsUnder, IsResolvedIn}
use Rattle.p21_check.specs.Wanted.{by_names}
use Rattle.p21_rules.specs.declared.elements.Elements.{Elements}
use Rattle.p21_rules.specs.Elements.{AreElements, IsElementsOf, IsListOf, is_ordered}
use Rattle.p21_rules.specs.Elements as elements
use Rattle.p21_rules.proofs.ExprLemmas.{IsWord, mapped, target_names}
use Rattle.p21_rules.proofs.NamedTypes.{stands_once, stands_type, ends_no_name, apart_names}

-- neither a name nor an aggregate has any
list_of_word : (s : Schema) (x : Expr) (a : Aggregate) (e : Expr) → IsWord x → ¬ (IsListOf s x a e)
list_of_word s _ a e h elements.itself = h
list_of_word s _ a e h (elements.under u) = h

pub word_elements : (s : Schema) (x : Expr) → IsWord x → AreElements s x None
word_elements s x h a e l = list_of_word s x a e h l

pub aggregate_elements : (s : Schema) (x : Expr) (a : Aggregate) (found : Elements) (v : ResolvedExpr) → found.item.now ≡ v → found.ordered ≡ is_ordered a → option_map (aggregate a) (by_names s v) ≡ Some x → AreElements s x (Some found)
aggregate_elements s x a found v same order f =
    let r = mapped (aggregate a) (by_names s v) x f in
    record { aggregate_ = a; element = r.0; listed = subst (λ (y : Expr). IsListOf s y a r.0) r.2 elements.itself; ordered = order; item = ap (by_names s) same ∙ r.1 }

-- ---- names

under_of : (s : Schema) (x : Expr) (n : List ℕ) (a : Aggregate) (e : Expr) → x ≡ named n → IsListOf s x a e → StandsUnder s n (plain (aggregate a e))
under_of s _ n a e f elements.itself = cc
under_of s _ n a e f (elements.under {n = m} u) = let same : m ≡ n = cc in subst (λ (k : List ℕ). StandsUnder s k (plain (aggregate a e))) same u

module _ {X : Type 0} where
  -- the name at a place
  named_at : (name : X → List ℕ) (xs : List X) (i : ℕ) (n : List ℕ) (d : X) → slice_get (map name xs) i ≡ Some n → (i < length xs) × (name (get_or xs i d) ≡ n) × IsIn (map name xs) n
  named_at name [] i n d e = absurd cc
  named_at name (x ∷ xs) zero n d e = let same : name x ≡ n = cc in (omega arith, same, inl same)
  named_at name (x ∷ xs) (suc i) n d e =
      let h = named_at name xs i n d e in
      let less = h.0 in
      (omega arith, h.1, inr h.2)

-- the type that is named
pub type_named : (s : Schema) (v : ResolvedExpr) (t : Target) (d : TypeId) (x : Expr) → v ≡ Named t → t ≡ target.Defined d → by_names s v ≡ Some x → IsTypeOf s d × (named (type_name s d) ≡ x)
type_named s v t d x f g is =
    let found = mapped named (slice_get (map (λ (z : Defined). z.name) s.types) d.index) x (sym (target_names s (target.Defined d)) ∙ ap (λ z. by_names s (Named z)) (sym g) ∙ ap (by_names s) (sym f) ∙ is) in
    let at = named_at (λ (z : Defined). z.name) s.types d.index found.0 no_type found.1 in
    (at.0, ap named at.1 ∙ found.2)

-- an entity has no lists
pub entity_elements : (s : Schema) → IsWellFormed s → (v : ResolvedExpr) (t : Target) (d : EntityId) (x : Expr) → v ≡ Named t → t ≡ target.Entity d → by_names s v ≡ Some x → AreElements s x None
entity_elements s w v t d x f g is a e l =
    let found = mapped named (slice_get (map (λ (z : Entity). z.name) s.entities) d.index) x (sym (target_names s (target.Entity d)) ∙ ap (λ z. by_names s (Named z)) (sym g) ∙ ap (by_names s) (sym f) ∙ is) in
    let at = named_at (λ (z : Entity). z.name) s.entities d.index found.0 no_entity found.1 in
    let stands = under_of s x found.0 a e (sym found.2) l in
    apart_names s w found.0 at.2 (stands_type s found.0 (plain (aggregate a e)) stands)

-- what is no type's name has none
pub untyped_elements : (s : Schema) (n : List ℕ) → ¬ (IsType s n) → AreElements s (named n) None
untyped_elements s n none a e l = none (stands_type s n (plain (aggregate a e)) (under_of s (named n) n a e refl l))

-- ---- what stands under a type

other_elements : (s : Schema) → IsWellFormed s → (n : List ℕ) (u : Underlying) → StandsUnder s n u → ((x : Expr) → ¬ (u ≡ plain x)) → AreElements s (named n) None
other_elements s w n u h other a e l = other (aggregate a e) (stands_once s w n u (plain (aggregate a e)) h (under_of s (named n) n a e refl l))

pub items_under : (s : Schema) → IsWellFormed s → (n : List ℕ) (d : Resolved) (v : _) → d ≡ resolved.Items v → (u : Underlying) → StandsUnder s n u → IsResolvedIn s d u → AreElements s (named n) None
items_under s w n d v e (items ns) h r = other_elements s w n (items ns) h (λ x f. cc)
items_under s w n d v e (select ns) h r = absurd (subst (λ (x : Resolved). IsResolvedIn s x (select ns)) e r)
items_under s w n d v e (plain x) h r = absurd (subst (λ (x' : Resolved). IsResolvedIn s x' (plain x)) e r)

pub select_under : (s : Schema) → IsWellFormed s → (n : List ℕ) (d : Resolved) (v : _) → d ≡ resolved.Select v → (u : Underlying) → StandsUnder s n u → IsResolvedIn s d u → AreElements s (named n) None
select_under s w n d v e (items ns) h r = absurd (subst (λ (x : Resolved). IsResolvedIn s x (items ns)) e r)
select_under s w n d v e (select ns) h r = other_elements s w n (select ns) h (λ x f. cc)
select_under s w n d v e (plain x) h r = absurd (subst (λ (x' : Resolved). IsResolvedIn s x' (plain x)) e r)

whole : (x : Expr) (a : Aggregate) (e : Expr) → plain x ≡ plain (aggregate a e) → x ≡ aggregate a e
whole x a e f = cc

list_below : (s : Schema) (x : Expr) (n : List ℕ) (a : Aggregate) (e : Expr) → StandsUnder s n (plain x) → ((m : List ℕ) → ¬ (x ≡ named m)) → IsListOf s x a e → IsListOf s (named n) a e
list_below s _ n a e h none elements.itself = elements.under h
list_below s _ n a e h none (elements.under {n = m} u) = absurd (none m refl)

pub same_elements : (s : Schema) → IsWellFormed s → (n : List ℕ) (x : Expr) (result : Option Elements) → StandsUnder s n (plain x) → ((m : List ℕ) → ¬ (x ≡ named m)) → AreElements s x result → AreElements s (named n) result
same_elements s w n x None h none f = λ a e l.
    let same = whole x a e (stands_once s w n (plain x) (plain (aggregate a e)) h (under_of s (named n) n a e refl l)) in
    f a e (subst (λ (y : Expr). IsListOf s y a e) (sym same) elements.itself)
same_elements s w n x (Some found) h none f = record { aggregate_ = f.aggregate_; element = f.element; listed = list_below s x n f.aggregate_ f.element h none f.listed; ordered = f.ordered; item = f.item }

pub plain_under : (s : Schema) → IsWellFormed s → (n : List ℕ) (d : Resolved) (v : ResolvedExpr) (result : Option Elements) → d ≡ resolved.Plain v →
    ((x : Expr) → by_names s v ≡ Some x → ((m : List ℕ) → ¬ (x ≡ named m)) → AreElements s x result) →
    (u : Underlying) → StandsUnder s n u → IsResolvedIn s d u → AreElements s (named n) result
plain_under s w n d v result e found (items ns) h r = absurd (subst (λ (x : Resolved). IsResolvedIn s x (items ns)) e r)
plain_under s w n d v result e found (select ns) h r = absurd (subst (λ (x : Resolved). IsResolvedIn s x (select ns)) e r)
plain_under s w n d v result e found (plain x) h r =
    let is : by_names s v ≡ Some x = subst (λ (x' : Resolved). IsResolvedIn s x' (plain x)) e r in
    let none : (m : List ℕ) → ¬ (x ≡ named m) = λ m f. ends_no_name s n (plain x) h m (ap plain f) in
    same_elements s w n x result h none (found x is none)

-- a type is one aggregate at most
pub list_once : (s : Schema) → IsWellFormed s → (x : Expr) (a b : Aggregate) (e f : Expr) → IsListOf s x a e → IsListOf s x b f → (a ≡ b) × (e ≡ f)
list_once s w _ a b e f elements.itself l = direct a e b f refl l
  where
    direct : (a : Aggregate) (e : Expr) (b : Aggregate) (f : Expr) {y : Expr} → y ≡ aggregate a e → IsListOf s y b f → (a ≡ b) × (e ≡ f)
    direct a e b f q elements.itself = let one : a ≡ b = cc in let two : e ≡ f = cc in (one, two)
    direct a e b f q (elements.under h) = absurd cc
list_once s w _ a b e f (elements.under {n = n} h) l =
    let same : plain (aggregate a e) ≡ plain (aggregate b f) = stands_once s w n (plain (aggregate a e)) (plain (aggregate b f)) h (under_of s (named n) n b f refl l) in
    let one : a ≡ b = cc in
    let two : e ≡ f = cc in
    (one, two)
