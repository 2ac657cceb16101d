-- The elements of an aggregate, one by one.
use Rattle.std.proofs.Common.{◌≡◌, ◌↔◌, ⊎_elim, inl, inr, ℕ, suc, ◌+◌, ◌<◌, ◌≤◌, Bool, true, false, List, [], ◌∷◌, length, get_or, drop, refl, sym, ap, subst}
use Rattle.std.proofs.lemmas.List.{drop_more, drop_all}
use Rattle.p21_tree.specs.Tree.{Tree, Trees, nil, cons}
use Rattle.p21_tree.specs.Tree as tree
use Rattle.p21_tree.specs.declared.params.Param.{Param}
use Rattle.p21_tree.specs.Plain.{plain, plain_all}
use Rattle.p21_express.specs.Schema.{Schema, Expr, Aggregate}
use Rattle.p21_express.specs.Schema as type
use Rattle.p21_express.specs.declared.declarations.Bounds.{Bounds}
use Rattle.p21_check.specs.Conforms.{Conforms, AreElements, AreCounted, may_be_absent, tree_count, IsWithin}
use Rattle.p21_check.specs.Conforms as conforms
use Rattle.p21_check.specs.Known.{IsElement, IsCollection}

elements_head : {s : Schema} {o : Bool} {e : Expr} {t : Tree} {ts : Trees} → AreElements s o e (cons t ts) → IsElement s o e t
elements_head (conforms.more h hs) = inr h
elements_head (conforms.left_out hs) = inl (refl, refl)

elements_tail : {s : Schema} {o : Bool} {e : Expr} {t : Tree} {ts : Trees} → AreElements s o e (cons t ts) → AreElements s o e ts
elements_tail (conforms.more h hs) = hs
elements_tail (conforms.left_out hs) = hs

left_out_by : {s : Schema} {o : Bool} {e : Expr} {t : Tree} {ts : Trees} → o ≡ true → t ≡ tree.absent → AreElements s o e ts → AreElements s o e (cons t ts)
left_out_by {s} {o} {e} {t} {ts} a b h =
    subst (λ (p : Bool). AreElements s p e (cons t ts)) (sym a) (subst (λ (u : Tree). AreElements s true e (cons u ts)) (sym b) (conforms.left_out (subst (λ (p : Bool). AreElements s p e ts) a h)))

pub elements_more : {s : Schema} {o : Bool} {e : Expr} {t : Tree} {ts : Trees} → IsElement s o e t → AreElements s o e ts → AreElements s o e (cons t ts)
elements_more {s} {o} {e} {t} {ts} h hs = ⊎_elim (λ (a : (o ≡ true) × (t ≡ tree.absent)). left_out_by a.0 a.1 hs) (λ (b : Conforms s e t). conforms.more b hs) h

module _ (s : Schema) (o : Bool) (e : Expr) (ps : List Param) where
  split : (i : ℕ) (d : Param) → i < length ps → plain_all (drop i ps) ≡ cons (plain (get_or ps i d)) (plain_all (drop (i + 1) ps))
  split i d h = ap plain_all (drop_more ps i d h)

  pub left_more : (i : ℕ) (d : Param) → i < length ps → IsElement s o e (plain (get_or ps i d)) → AreElements s o e (plain_all (drop i ps)) ↔ AreElements s o e (plain_all ps) → AreElements s o e (plain_all (drop (i + 1) ps)) ↔ AreElements s o e (plain_all ps)
  left_more i d h this left = (
    λ k. left.0 (subst (AreElements s o e) (sym (split i d h)) (elements_more this k)),
    λ k. elements_tail (subst (AreElements s o e) (split i d h) (left.1 k)),
  )

  pub left_stops : (i : ℕ) (d : Param) → i < length ps → ¬ (IsElement s o e (plain (get_or ps i d))) → AreElements s o e (plain_all (drop i ps)) ↔ AreElements s o e (plain_all ps) → ¬ (AreElements s o e (plain_all ps))
  left_stops i d h this left = λ k. this (elements_head (subst (AreElements s o e) (split i d h) (left.1 k)))

  pub left_none : (i : ℕ) → length ps ≤ i → AreElements s o e (plain_all (drop i ps)) ↔ AreElements s o e (plain_all ps) → AreElements s o e (plain_all ps)
  left_none i h left = left.0 (subst (λ l. AreElements s o e (plain_all l)) (sym (drop_all i ps h)) conforms.none)

pub count_all : (ps : List Param) → tree_count (plain_all ps) ≡ length ps
count_all [] = refl
count_all (p ∷ ps) = ap suc (count_all ps)

aggregate_parts : {s : Schema} {a : Aggregate} {e : Expr} {ts : Trees} → Conforms s (type.aggregate a e) (tree.items ts) → AreCounted a (tree_count ts) × AreElements s (may_be_absent a) e ts
aggregate_parts (conforms.aggregate h k) = (h, k)

-- an aggregate by its number of elements and each of them
pub aggregate_by : (s : Schema) (a : Aggregate) (e : Expr) (t : Tree) (ps : List Param) → t ≡ tree.items (plain_all ps) → (AreCounted a (length ps) × AreElements s (may_be_absent a) e (plain_all ps)) ↔ Conforms s (type.aggregate a e) t
aggregate_by s a e t ps is =
    subst (λ x. (AreCounted a (length ps) × AreElements s (may_be_absent a) e (plain_all ps)) ↔ Conforms s (type.aggregate a e) x) (sym is) (
      λ h. conforms.aggregate (subst (AreCounted a) (sym (count_all ps)) h.0) h.1,
      λ h. let p = aggregate_parts h in (subst (AreCounted a) (count_all ps) p.0, p.1),
    )

-- a list, a set or a bag
pub collection_by : (s : Schema) (a : Aggregate) (b : Bounds) (e : Expr) (t : Tree) (ps : List Param) → IsCollection a b → t ≡ tree.items (plain_all ps) → (IsWithin b (length ps) × AreElements s false e (plain_all ps)) ↔ Conforms s (type.aggregate a e) t
collection_by s (type.array c o) b e t ps h is = absurd h
collection_by s (type.list c u) b e t ps h is = subst (λ d. (IsWithin d (length ps) × AreElements s false e (plain_all ps)) ↔ Conforms s (type.aggregate (type.list c u) e) t) h (aggregate_by s (type.list c u) e t ps is)
collection_by s (type.set c) b e t ps h is = subst (λ d. (IsWithin d (length ps) × AreElements s false e (plain_all ps)) ↔ Conforms s (type.aggregate (type.set c) e) t) h (aggregate_by s (type.set c) e t ps is)
collection_by s (type.bag c) b e t ps h is = subst (λ d. (IsWithin d (length ps) × AreElements s false e (plain_all ps)) ↔ Conforms s (type.aggregate (type.bag c) e) t) h (aggregate_by s (type.bag c) e t ps is)
