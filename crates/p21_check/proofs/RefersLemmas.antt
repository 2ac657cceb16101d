-- What a type asks of the references in a parameter.
use Rattle.std.proofs.Common.{◌≡◌, ◌↔◌, ℕ, ◌⊎◌, inl, inr, List, [], ◌∷◌, refl, sym, ap, subst, ◌∙◌}
use Rattle.p21_express.specs.Schema.{Schema, Defined, Underlying, Expr, Aggregate, items, plain, named, aggregate}
use Rattle.p21_express.specs.WellFormed.{IsIn, IsEntity, IsSelect, IsSelectType, IsKnownUnder, IsWellFormed}
use Rattle.p21_tree.specs.Tree.{Tree, Trees, reference, typed}
use Rattle.p21_tree.specs.Tree as tree
use Rattle.std.specs.List.{AllByRecursion}
use Rattle.p21_schema.specs.Under.{StandsUnder, IsNoName}
use Rattle.p21_schema.specs.Under as stands
use Rattle.p21_schema.specs.Select.{ReachesType}
use Rattle.p21_check.specs.References.{Reference, Refers, RefersAmong}
use Rattle.p21_check.specs.References as refers
use Rattle.p21_check.specs.Wanted.{IsName, IsTyped}
use Rattle.p21_check.proofs.NamedTypes.{one_type, no_type, no_select, select_is, plain_injective, no_plain_select}

-- a reference against a name, by what the name declares
pub record NamedBy (s : Schema) (n : List ℕ) (p : Tree) (place : ℕ) (r : Reference) : Type 0 where
  pub type : Defined
  pub expr : Expr
  pub declared : IsIn s.types type
  pub name_is : type.name ≡ n
  pub under : type.under ≡ plain expr
  pub refers : Refers s expr p place r

pub data NamedCases (s : Schema) (n : List ℕ) (p : Tree) (place : ℕ) (r : Reference) : Type 0 where
  entity : IsEntity s n → IsName p place r n → NamedCases s n p place r
  select : IsSelect s n → IsName p place r n → NamedCases s n p place r
  typed_as : IsSelect s n → IsTyped s n p place r → NamedCases s n p place r
  defined : NamedBy s n p place r → NamedCases s n p place r

pub named_cases : {s : Schema} {x : Expr} {p : Tree} {place : ℕ} {r : Reference} (n : List ℕ) → Refers s x p place r → x ≡ named n → NamedCases s n p place r
named_cases {s} n (refers.entity {n = n'} {name = name} h) e =
    let f : n' ≡ n = cc in
    entity (subst (IsEntity s) f h) (record { name = refl; first = refl; for_ = f })
named_cases {s} n (refers.select {n = n'} {name = name} h) e =
    let f : n' ≡ n = cc in
    select (subst (IsSelect s) f h) (record { name = refl; first = refl; for_ = f })
named_cases {s} n (refers.typed_as {n = n'} {k = k} {p = q} h reach r) e =
    let f : n' ≡ n = cc in
    typed_as (subst (IsSelect s) f h) (record { keyword = k; inner = q; typed_ = refl; reached = subst (λ m. ReachesType s m k) f reach; refers = r })
named_cases {s} n (refers.defined {n = n'} {e = e'} t d m u r) e =
    let f : n' ≡ n = cc in
    defined (record { type = t; expr = e'; declared = d; name_is = m ∙ f; under = u; refers = r })
named_cases n (refers.element r) e = cc

-- an instance name for an entity or a SELECT

of_name : (P : Tree → ℕ → Reference → Type 0) (n : List ℕ) (p : Tree) (place : ℕ) (r : Reference) → IsName p place r n → P (reference r.name) 0 (record { name = r.name; wanted = n }) → P p place r
of_name P n p place r i h =
    let a : P (reference r.name) 0 r = subst (λ (w : List ℕ). P (reference r.name) 0 (record { name = r.name; wanted = w })) (sym i.for_) h in
    let b : P (reference r.name) place r = subst (λ (k : ℕ). P (reference r.name) k r) (sym i.first) a in
    subst (λ (q : Tree). P q place r) (sym i.name) b

entity_refers : (s : Schema) (n : List ℕ) (p : Tree) (place : ℕ) (r : Reference) → IsEntity s n → IsName p place r n → Refers s (named n) p place r
entity_refers s n p place r h i = of_name (Refers s (named n)) n p place r i (refers.entity h)

select_refers : (s : Schema) (n : List ℕ) (p : Tree) (place : ℕ) (r : Reference) → IsSelect s n → IsName p place r n → Refers s (named n) p place r
select_refers s n p place r h i = of_name (Refers s (named n)) n p place r i (refers.select h)

typed_refers : (s : Schema) (n : List ℕ) (p : Tree) (place : ℕ) (r : Reference) → IsSelect s n → IsTyped s n p place r → Refers s (named n) p place r
typed_refers s n p place r h i = subst (λ (q : Tree). Refers s (named n) q place r) (sym i.typed_) (refers.typed_as h i.reached i.refers)

-- an entity asks for an instance name alone
pub by_entity : (s : Schema) → IsWellFormed s → (n : List ℕ) → IsEntity s n → (p : Tree) (place : ℕ) (r : Reference) → Refers s (named n) p place r ↔ IsName p place r n
by_entity s w n h p place r = (there, λ i. entity_refers s n p place r h i) where
  there : Refers s (named n) p place r → IsName p place r n
  there f =
      elim (named_cases n f refl) [
        | entity _ i ↦ i
        | select k i ↦ i
        | typed_as k i ↦ absurd (no_select s w n h k)
        | defined d ↦ absurd (no_type s w n h d.type d.declared d.name_is)
      ]

-- a SELECT asks for an instance name or a typed parameter
pub by_select : (s : Schema) → IsWellFormed s → (n : List ℕ) → IsSelect s n → (p : Tree) (place : ℕ) (r : Reference) → Refers s (named n) p place r ↔ (IsName p place r n ⊎ IsTyped s n p place r)
by_select s w n h p place r = (there, back) where
  there : Refers s (named n) p place r → IsName p place r n ⊎ IsTyped s n p place r
  there f =
      elim (named_cases n f refl) [
        | entity k i ↦ inl i
        | select k i ↦ inl i
        | typed_as k i ↦ inr i
        | defined d ↦ absurd (no_plain_select d.type.under d.expr (select_is s w n h d.type d.declared d.name_is) d.under)
      ]

  back : IsName p place r n ⊎ IsTyped s n p place r → Refers s (named n) p place r
  back (inl i) = select_refers s n p place r h i
  back (inr i) = typed_refers s n p place r h i

-- a defined type asks what stands under it asks
pub by_defined : (s : Schema) → IsWellFormed s → (t : Defined) (e : Expr) → IsIn s.types t → t.under ≡ plain e → (p : Tree) (place : ℕ) (r : Reference) → Refers s (named t.name) p place r ↔ Refers s e p place r
by_defined s w t e d u p place r = (there, λ f. refers.defined t d refl u f) where
  there : Refers s (named t.name) p place r → Refers s e p place r
  there f =
      elim (named_cases t.name f refl) [
        | entity k i ↦ absurd (no_type s w t.name k t d refl)
        | select k i ↦ absurd (no_plain_select t.under e (select_is s w t.name k t d refl) u)
        | typed_as k i ↦ absurd (no_plain_select t.under e (select_is s w t.name k t d refl) u)
        | defined b ↦ (let same : b.type ≡ t = one_type s w b.type t b.declared d b.name_is in
            let equal : b.expr ≡ e = plain_injective b.expr e (sym b.under ∙ ap (λ (x : Defined). x.under) same ∙ u) in
            subst (λ (x : Expr). Refers s x p place r) equal b.refers)
      ]

-- an enumeration asks for nothing
pub by_items : (s : Schema) → IsWellFormed s → (t : Defined) (ns : List (List ℕ)) → IsIn s.types t → t.under ≡ items ns → (p : Tree) (place : ℕ) (r : Reference) → ¬ (Refers s (named t.name) p place r)
by_items s w t ns d u p place r f =
    elim (named_cases t.name f refl) [
      | entity k i ↦ no_type s w t.name k t d refl
      | select k i ↦ subst IsSelectType u (select_is s w t.name k t d refl)
      | typed_as k i ↦ subst IsSelectType u (select_is s w t.name k t d refl)
      | defined b ↦ (let same : b.type ≡ t = one_type s w b.type t b.declared d b.name_is in
          let equal : plain b.expr ≡ items ns = sym b.under ∙ ap (λ (x : Defined). x.under) same ∙ u in cc)
    ]

-- what stands under a type

all_in : {X : Type 0} (P : X → Type 0) (xs : List X) (x : X) → AllByRecursion P xs → IsIn xs x → P x
all_in P [] x h i = elim i [ ]
all_in P (y ∷ ys) x h (inl e) = subst P e h.0
all_in P (y ∷ ys) x h (inr i) = all_in P ys x h.1 i

-- the type at which the way from a name ends
pub record EndOf (s : Schema) (n : List ℕ) (u : Underlying) : Type 0 where
  pub type : Defined
  pub declared : IsIn s.types type
  pub under : type.under ≡ u
  pub no_name : IsNoName u
  pub same : (p : Tree) (place : ℕ) (r : Reference) → Refers s (named n) p place r ↔ Refers s (named type.name) p place r
  pub itself : IsSelectType u → type.name ≡ n

allowed : (s : Schema) → IsWellFormed s → (t : Defined) (m : List ℕ) → IsIn s.types t → t.under ≡ plain (named m) → ¬ (IsSelect s m)
allowed s w t m d u =
    let known = all_in (λ (x : Defined). IsKnownUnder s x.under) s.types t w.unknown.types d in
    (subst (IsKnownUnder s) u known).1.1

pub end_of : (s : Schema) → IsWellFormed s → {n : List ℕ} {u : Underlying} → StandsUnder s n u → EndOf s n u
end_of s w {u = u} (stands.itself t d e f no_name) =
    record {
      type = t;
      declared = d;
      under = f;
      no_name = no_name;
      same = λ p place r. subst (λ (m : List ℕ). Refers s (named m) p place r ↔ Refers s (named t.name) p place r) e ((λ x. x), (λ x. x));
      itself = λ _. e;
    }
end_of s w {u = u} (stands.followed {m = m} t d e f more) =
    let end = end_of s w more in
    record {
      type = end.type;
      declared = end.declared;
      under = end.under;
      no_name = end.no_name;
      same = λ p place r. subst (λ (k : List ℕ). Refers s (named k) p place r ↔ Refers s (named end.type.name) p place r) e
          (let one = by_defined s w t (named m) d f p place r in
          let two = end.same p place r in
          ((λ x. two.0 (one.0 x)), (λ x. one.1 (two.1 x))));
      itself = λ selects. absurd (allowed s w t m d f (record { type = end.type; declared = end.declared; name_is = end.itself selects; selects = subst IsSelectType (sym end.under) selects }));
    }

pub select_end : (s : Schema) → IsWellFormed s → (n : List ℕ) (u : Underlying) → StandsUnder s n u → IsSelectType u → IsSelect s n
select_end s w n u h selects =
    let end = end_of s w h in
    record { type = end.type; declared = end.declared; name_is = end.itself selects; selects = subst IsSelectType (sym end.under) selects }

pub plain_end : (s : Schema) → IsWellFormed s → (n : List ℕ) (x : Expr) → StandsUnder s n (plain x) → (p : Tree) (place : ℕ) (r : Reference) → Refers s (named n) p place r ↔ Refers s x p place r
plain_end s w n x h p place r =
    let end = end_of s w h in
    let one = end.same p place r in
    let two = by_defined s w end.type x end.declared end.under p place r in
    ((λ f. two.0 (one.0 f)), (λ f. one.1 (two.1 f)))

pub items_end : (s : Schema) → IsWellFormed s → (n : List ℕ) (ns : List (List ℕ)) → StandsUnder s n (items ns) → (p : Tree) (place : ℕ) (r : Reference) → ¬ (Refers s (named n) p place r)
items_end s w n ns h p place r f =
    let end = end_of s w h in
    by_items s w end.type ns end.declared end.under p place r ((end.same p place r).0 f)

-- types that are no names

pub by_aggregate : {s : Schema} {y : Expr} {p : Tree} {place : ℕ} {r : Reference} (a : Aggregate) (e : Expr) → Refers s y p place r → y ≡ aggregate a e → (ts : Trees) × (p ≡ tree.items ts) × RefersAmong s e ts place r
by_aggregate a e (refers.entity h) f = cc
by_aggregate a e (refers.select h) f = cc
by_aggregate a e (refers.typed_as h reach r) f = cc
by_aggregate a e (refers.defined t d m u r) f = cc
by_aggregate {s} {place = place} {r = r} a e (refers.element {e = e'} {ts = ts} among) f =
    let same : e' ≡ e = cc in
    (ts, refl, subst (λ (z : Expr). RefersAmong s z ts place r) same among)

-- neither a name nor an aggregate
abbrev pub IsWord : Expr → Type 0
IsWord (named n) = ⊥
IsWord (aggregate a e) = ⊥
IsWord _ = Unit {0}

pub by_word : {s : Schema} {x : Expr} {p : Tree} {place : ℕ} {r : Reference} → IsWord x → ¬ (Refers s x p place r)
by_word h (refers.entity _) = h
by_word h (refers.select _) = h
by_word h (refers.typed_as _ reach r) = h
by_word h (refers.defined t d m u r) = h
by_word h (refers.element r) = h
