-- What a type says of lists that repeat a name.
use Rattle.std.proofs.Common.{◌≡◌, ◌↔◌, ℕ, inl, inr, List, refl, sym, ap, subst, ◌∙◌}
use Rattle.p21_express.specs.Schema.{Schema, Defined, Underlying, Expr, Aggregate, items, plain, named, aggregate}
use Rattle.p21_express.specs.WellFormed.{IsIn, IsEntity, IsSelect, IsSelectType, IsWellFormed}
use Rattle.p21_tree.specs.Tree.{Tree, Trees, typed}
use Rattle.p21_tree.specs.Tree as tree
use Rattle.p21_schema.specs.Under.{StandsUnder, IsNoName}
use Rattle.p21_schema.specs.Under as stands
use Rattle.p21_schema.specs.Select.{ReachesType}
use Rattle.p21_check.specs.Repeats.{Repeats, RepeatsAmong, is_of_unique, HasTwice, names_among}
use Rattle.p21_check.specs.Repeats as repeats
use Rattle.p21_check.specs.Lists.{IsRepeatingTyped, RepeatsHere}
use Rattle.p21_check.proofs.NamedTypes.{one_type, no_type, no_select, select_is, plain_injective, no_plain_select}
use Rattle.p21_check.proofs.RefersLemmas.{IsWord}

-- a list that repeats a name against a name, by what the name declares
record NamedBy (s : Schema) (n : List ℕ) (p : Tree) : Type 0 where
  pub type : Defined
  pub expr : Expr
  pub declared : IsIn s.types type
  pub name_is : type.name ≡ n
  pub under : type.under ≡ plain expr
  pub repeats : Repeats s expr p

data NamedCases (s : Schema) (n : List ℕ) (p : Tree) : Type 0 where
  typed_as : IsSelect s n → IsRepeatingTyped s n p → NamedCases s n p
  defined : NamedBy s n p → NamedCases s n p

named_cases : {s : Schema} {x : Expr} {p : Tree} (n : List ℕ) → Repeats s x p → x ≡ named n → NamedCases s n p
named_cases n (repeats.names u h) e = cc
named_cases n (repeats.element r) e = cc
named_cases {s} n (repeats.defined {n = n'} {e = e'} t d m u r) e =
    let f : n' ≡ n = cc in
    defined (record { type = t; expr = e'; declared = d; name_is = m ∙ f; under = u; repeats = r })
named_cases {s} n (repeats.typed_as {n = n'} {k = k} {p = q} h reach r) e =
    let f : n' ≡ n = cc in
    typed_as (subst (IsSelect s) f h) (record { keyword = k; inner = q; typed_ = refl; reached = subst (λ m. ReachesType s m k) f reach; repeats = r })

typed_repeats : (s : Schema) (n : List ℕ) (p : Tree) → IsSelect s n → IsRepeatingTyped s n p → Repeats s (named n) p
typed_repeats s n p h i = subst (λ (q : Tree). Repeats s (named n) q) (sym i.typed_) (repeats.typed_as h i.reached i.repeats)

-- an entity has no lists
pub by_entity : (s : Schema) → IsWellFormed s → (n : List ℕ) → IsEntity s n → (p : Tree) → ¬ (Repeats s (named n) p)
by_entity s w n h p f =
    elim (named_cases n f refl) [
      | typed_as k i ↦ no_select s w n h k
      | defined d ↦ no_type s w n h d.type d.declared d.name_is
    ]

-- a SELECT has those of its typed parameters
pub by_select : (s : Schema) → IsWellFormed s → (n : List ℕ) → IsSelect s n → (p : Tree) → Repeats s (named n) p ↔ IsRepeatingTyped s n p
by_select s w n h p = (there, λ i. typed_repeats s n p h i) where
  there : Repeats s (named n) p → IsRepeatingTyped s n p
  there f =
      elim (named_cases n f refl) [
        | typed_as k i ↦ i
        | defined d ↦ absurd (no_plain_select d.type.under d.expr (select_is s w n h d.type d.declared d.name_is) d.under)
      ]

-- a defined type has those of what stands under it
by_defined : (s : Schema) → IsWellFormed s → (t : Defined) (e : Expr) → IsIn s.types t → t.under ≡ plain e → (p : Tree) → Repeats s (named t.name) p ↔ Repeats s e p
by_defined s w t e d u p = (there, λ f. repeats.defined t d refl u f) where
  there : Repeats s (named t.name) p → Repeats s e p
  there f =
      elim (named_cases t.name f refl) [
        | typed_as k i ↦ absurd (no_plain_select t.under e (select_is s w t.name k t d refl) u)
        | defined b ↦ (let same : b.type ≡ t = one_type s w b.type t b.declared d b.name_is in
            let equal : b.expr ≡ e = plain_injective b.expr e (sym b.under ∙ ap (λ (x : Defined). x.under) same ∙ u) in
            subst (λ (x : Expr). Repeats s x p) equal b.repeats)
      ]

-- an enumeration has none
by_items : (s : Schema) → IsWellFormed s → (t : Defined) (ns : List (List ℕ)) → IsIn s.types t → t.under ≡ items ns → (p : Tree) → ¬ (Repeats s (named t.name) p)
by_items s w t ns d u p f =
    elim (named_cases t.name f refl) [
      | typed_as k i ↦ subst IsSelectType u (select_is s w t.name k t d refl)
      | defined b ↦ (let same : b.type ≡ t = one_type s w b.type t b.declared d b.name_is in
          let equal : plain b.expr ≡ items ns = sym b.under ∙ ap (λ (x : Defined). x.under) same ∙ u in cc)
    ]

-- the type at which the way from a name ends
record EndOf (s : Schema) (n : List ℕ) (u : Underlying) : Type 0 where
  pub type : Defined
  pub declared : IsIn s.types type
  pub under : type.under ≡ u
  pub same : (p : Tree) → Repeats s (named n) p ↔ Repeats s (named type.name) p

end_of : (s : Schema) → IsWellFormed s → {n : List ℕ} {u : Underlying} → StandsUnder s n u → EndOf s n u
end_of s w {u = u} (stands.itself t d e f no_name) =
    record {
      type = t;
      declared = d;
      under = f;
      same = λ p. subst (λ (m : List ℕ). Repeats s (named m) p ↔ Repeats s (named t.name) p) e ((λ x. x), (λ x. x));
    }
end_of s w {u = u} (stands.followed {m = m} t d e f more) =
    let end = end_of s w more in
    record {
      type = end.type;
      declared = end.declared;
      under = end.under;
      same = λ p. subst (λ (k : List ℕ). Repeats s (named k) p ↔ Repeats s (named end.type.name) p) e
          (let one = by_defined s w t (named m) d f p in
          let two = end.same p in
          ((λ x. two.0 (one.0 x)), (λ x. one.1 (two.1 x))));
    }

pub plain_end : (s : Schema) → IsWellFormed s → (n : List ℕ) (x : Expr) → StandsUnder s n (plain x) → (p : Tree) → Repeats s (named n) p ↔ Repeats s x p
plain_end s w n x h p =
    let end = end_of s w h in
    let one = end.same p in
    let two = by_defined s w end.type x end.declared end.under p in
    ((λ f. two.0 (one.0 f)), (λ f. one.1 (two.1 f)))

pub items_end : (s : Schema) → IsWellFormed s → (n : List ℕ) (ns : List (List ℕ)) → StandsUnder s n (items ns) → (p : Tree) → ¬ (Repeats s (named n) p)
items_end s w n ns h p f =
    let end = end_of s w h in
    by_items s w end.type ns end.declared end.under p ((end.same p).0 f)

-- types that are no names

pub by_aggregate : {s : Schema} {y : Expr} {p : Tree} (a : Aggregate) (e : Expr) → Repeats s y p → y ≡ aggregate a e → (ts : Trees) × (p ≡ tree.items ts) × RepeatsHere s (is_of_unique a) e ts
by_aggregate a e (repeats.defined t d m u r) f = cc
by_aggregate a e (repeats.typed_as h reach r) f = cc
by_aggregate {s} a e (repeats.names {a = a'} {e = e'} {ts = ts} u h) f =
    let same : a' ≡ a = cc in
    (ts, refl, inl (ap is_of_unique (sym same) ∙ u, h))
by_aggregate {s} a e (repeats.element {a = a'} {e = e'} {ts = ts} among) f =
    let same : e' ≡ e = cc in
    (ts, refl, inr (subst (λ (z : Expr). RepeatsAmong s z ts) same among))

pub here_repeats : (s : Schema) (a : Aggregate) (e : Expr) (ts : Trees) → RepeatsHere s (is_of_unique a) e ts → Repeats s (aggregate a e) (tree.items ts)
here_repeats s a e ts (inl h) = repeats.names h.0 h.1
here_repeats s a e ts (inr h) = repeats.element h

pub by_word : {s : Schema} {x : Expr} {p : Tree} → IsWord x → ¬ (Repeats s x p)
by_word h (repeats.names u t) = h
by_word h (repeats.element r) = h
by_word h (repeats.defined t d m u r) = h
by_word h (repeats.typed_as _ reach r) = h

-- lists stand in lists and in typed parameters alone
abbrev pub HasNoList : Tree → Type 0
HasNoList (tree.items ts) = ⊥
HasNoList (typed k t) = ⊥
HasNoList _ = Unit {0}

pub no_list : {s : Schema} {x : Expr} {p : Tree} → HasNoList p → ¬ (Repeats s x p)
no_list h (repeats.names u t) = h
no_list h (repeats.element r) = h
no_list h (repeats.defined t d m u r) = no_list h r
no_list h (repeats.typed_as _ reach r) = h
