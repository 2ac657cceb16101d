-- Counters where one more instance refers.
use Rattle.std.proofs.Common.{◌≡◌, ◌+◌, ◌<◌, [], ◌∷◌, ◌||◌, ℕ, zero, suc, Bool, true, false, cond, not, min, List, Option, None, Some, IfSome, length, nat_eq, set, refl, ap, ◌∙◌, arith}
use Rattle.std.specs.Prelude.{slice_get}
use Rattle.std.proofs.lemmas.Bool.{eq-eqb, ne_eqb}
use Rattle.p21_rules.specs.declared.counters.Counter.{Counter}
use Rattle.p21_rules.specs.Counters.{count_of, counter_after, next_counter}
use Rattle.p21_rules.specs.InverseCount.{counted}

module _ (place : ℕ) where
  -- in a BAG each reference counts
  each_counted : (k : ℕ) (c : Option Counter) → count_of (counter_after true place k c) ≡ count_of c + k
  each_counted zero c = omega arith
  each_counted (suc k) None = each_counted k (Some (record { count = 1; last = place })) ∙ omega arith
  each_counted (suc k) (Some c) = each_counted k (Some (record { count = c.count + 1; last = place })) ∙ omega arith

  -- further references from the instance change nothing
  stays : (k : ℕ) (c : Counter) → c.last ≡ place → counter_after false place k (Some c) ≡ Some c
  stays zero c e = refl
  stays (suc k) c e = ap (λ b. counter_after false place k (Some (cond (not b) (record { count = c.count + 1; last = place }) c))) (eq-eqb c.last place e) ∙ stays k c e

  -- else the instance counts once
  once_counted : (k : ℕ) (c : Option Counter) → IfSome c (λ x. x.last < place) → count_of (counter_after false place k c) ≡ count_of c + min k 1
  once_counted zero c h = omega arith
  once_counted (suc k) None h = ap count_of (stays k (record { count = 1; last = place }) refl) ∙ omega arith
  once_counted (suc k) (Some c) h =
      ap (λ b. count_of (counter_after false place k (Some (cond (not b) (record { count = c.count + 1; last = place }) c)))) (ne_eqb c.last place (λ e. omega (arith, e, h)))
      ∙ ap count_of (stays k (record { count = c.count + 1; last = place }) refl) ∙ omega arith

  pub all_counted : (bag : Bool) (k : ℕ) (c : Option Counter) → IfSome c (λ x. x.last < place) → count_of (counter_after bag place k c) ≡ count_of c + counted bag k
  all_counted true k c h = each_counted k c
  all_counted false k c h = once_counted k c h

  last_below : (b : Bool) (c : Counter) (count : ℕ) → c.last < place + 1 → (cond b (record { count = count; last = place }) c).last < place + 1
  last_below true c count h = omega arith
  last_below false c count h = h

  pub still_below : (bag : Bool) (k : ℕ) (c : Option Counter) → IfSome c (λ x. x.last < place + 1) → IfSome (counter_after bag place k c) (λ x. x.last < place + 1)
  still_below bag zero c h = h
  still_below bag (suc k) None h = still_below bag k (Some (record { count = 1; last = place })) (omega arith)
  still_below bag (suc k) (Some c) h = still_below bag k (Some (next_counter bag place (Some c))) (last_below (bag || not (nat_eq c.last place)) c (c.count + 1) h)

pub below_more : (place : ℕ) (c : Option Counter) → IfSome c (λ x. x.last < place) → IfSome c (λ x. x.last < place + 1)
below_more place None h = tt
below_more place (Some c) h = omega (arith, h)

-- ---- one element of a list is set

pub set_same : {X : Type 0} (xs : List X) (k : ℕ) (x : X) → k < length xs → slice_get (set xs k x) k ≡ Some x
set_same [] k x h = absurd (omega arith)
set_same (y ∷ xs) zero x h = refl
set_same (y ∷ xs) (suc k) x h = set_same xs k x (omega arith)

pub set_other : {X : Type 0} (xs : List X) (j k : ℕ) (x : X) → (j ≡ k → ⊥) → slice_get (set xs k x) j ≡ slice_get xs j
set_other [] j k x differ = refl
set_other (y ∷ xs) zero zero x differ = absurd (differ refl)
set_other (y ∷ xs) zero (suc k) x differ = refl
set_other (y ∷ xs) (suc j) zero x differ = refl
set_other (y ∷ xs) (suc j) (suc k) x differ = set_other xs j k x (λ e. differ (ap suc e))
