-- The labels of rules UNIQUE, one after the other.
use Rattle.std.proofs.Common.{◌≡◌, ◌<◌, ◌≤◌, ◌+◌, ◌⊎◌, ⊎_elim, ℕ, zero, suc, List, [], ◌∷◌, ◌++◌, map, take, length, get_or, Some, refl, sym, subst, arith}
use Rattle.std.specs.Prelude.{slice_get}
use Rattle.std.specs.List.{AllByRecursion}
use Rattle.std.proofs.lemmas.Bool.{cases_order}
use Rattle.std.proofs.lemmas.List.{length-map, take-map, take_all, take_more}
use Rattle.std.proofs.lemmas.Option.{slice_get_within}
use Rattle.p21_rule_text.specs.Clauses.{UniqueClause}
use Rattle.p21_rule_text.specs.Rules.{HasLabel, HaveDistinctLabels}

-- no rule in front of a place has the label of one before it
abbrev pub DistinctBefore : List UniqueClause → ℕ → Type 0
DistinctBefore cs i = (k : ℕ) (c : UniqueClause) (n : List ℕ) → slice_get cs k ≡ Some c → c.label ≡ Some n → k < i → ¬ (HasLabel (take k cs) n)

-- some rule of the list has the label of another one
abbrev pub Repeats : List UniqueClause → UniqueClause → Type 0
Repeats cs c = (n : List ℕ) × (c.label ≡ Some n) × HasLabel cs n

module _ {X : Type 0} (f : X → UniqueClause) where
  stands_there : (xs : List X) (i : ℕ) (d : X) → i < length xs → slice_get (map f xs) i ≡ Some (f (get_or xs i d))
  stands_there [] i d less = absurd (omega arith)
  stands_there (x ∷ xs) zero d less = refl
  stands_there (x ∷ xs) (suc i) d less = stands_there xs i d (omega arith)

  pub repeats_there : (xs : List X) (i : ℕ) (d : X) → i < length xs → Repeats (map f (take i xs)) (f (get_or xs i d)) → ¬ (HaveDistinctLabels (map f xs))
  repeats_there xs i d less h distinct = distinct i (f (get_or xs i d)) h.0 (stands_there xs i d less) h.1 (subst (λ (cs : List UniqueClause). HasLabel cs h.0) (sym (take-map f i xs)) h.2)

  pub distinct_more : (xs : List X) (i : ℕ) (d : X) → i < length xs → ¬ (Repeats (map f (take i xs)) (f (get_or xs i d))) → DistinctBefore (map f xs) i → DistinctBefore (map f xs) (i + 1)
  distinct_more xs i d less other before k c n at label below has =
      ⊎_elim
      (λ (e : k ≡ i).
      let same : c ≡ f (get_or xs i d) = (let there = stands_there xs i d less in let here = subst (λ (j : ℕ). slice_get (map f xs) j ≡ Some c) e at in cc) in
      let own = subst (λ (x : UniqueClause). x.label ≡ Some n) same label in
      other (n, own, subst (λ (cs : List UniqueClause). HasLabel cs n) (take-map f i xs) (subst (λ (j : ℕ). HasLabel (take j (map f xs)) n) e has)))
      (λ (o : (k < i) ⊎ (i < k)). ⊎_elim (λ (l : k < i). before k c n at label l has) (λ (g : i < k). absurd (omega arith)) o)
      (cases_order k i)

  pub distinct_all : (xs : List X) (i : ℕ) → length xs ≤ i → DistinctBefore (map f xs) i → HaveDistinctLabels (map f xs)
  distinct_all xs i past before k c n at label = before k c n at label (let within = slice_get_within (map f xs) k c at in omega (arith, within, length-map xs f, past))

-- ---- of all entities

module _ {X Y : Type 0} (P : Y → Type 0) (f : X → Y) where
  all_push : (xs : List X) (x : X) → AllByRecursion P (map f xs) → P (f x) → AllByRecursion P (map f (xs ++ x ∷ []))
  all_push [] x all h = (h, tt)
  all_push (y ∷ ys) x all h = (all.0, all_push ys x all.1 h)

  pub all_more : (xs : List X) (i : ℕ) (d : X) → i < length xs → AllByRecursion P (map f (take i xs)) → P (f (get_or xs i d)) → AllByRecursion P (map f (take (i + 1) xs))
  all_more xs i d less all h = subst (λ (l : List X). AllByRecursion P (map f l)) (sym (take_more xs i d less)) (all_push (take i xs) (get_or xs i d) all h)

  pub all_at : (xs : List X) (i : ℕ) (d : X) → i < length xs → AllByRecursion P (map f xs) → P (f (get_or xs i d))
  all_at [] i d less all = absurd (omega arith)
  all_at (x ∷ xs) zero d less all = all.0
  all_at (x ∷ xs) (suc i) d less all = all_at xs i d (omega arith) all.1

  pub all_taken : (xs : List X) (i : ℕ) → length xs ≤ i → AllByRecursion P (map f (take i xs)) → AllByRecursion P (map f xs)
  all_taken xs i past all = subst (λ (l : List X). AllByRecursion P (map f l)) (take_all i xs past) all
