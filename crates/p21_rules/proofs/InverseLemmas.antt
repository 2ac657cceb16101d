-- Counts of references, where one more instance is seen, and the faults of an instance by them.
use Rattle.std.proofs.Common.{◌≡◌, ⊎_elim, ℕ, false, ◌+◌, ◌<◌, ◌≤◌, [], ◌∷◌, ◌++◌, List, None, Some, IfSome, append_assoc, cond, drop, length, nat_eq, refl, set, sym, ap, subst, ◌∙◌, arith}
use Rattle.std.specs.Prelude.{slice_get, All}
use Rattle.std.specs.Map.{lookup}
use Rattle.std.proofs.lemmas.Bool.{cases_eq, le-ltb}
use Rattle.std.proofs.lemmas.List.{append-nil, drop_all, length-append, length-set}
use Rattle.std.proofs.lemmas.Option.{get_or_from_slice_get, slice_get_within}
use Rattle.indexmap.specs.IndexMap.{IndexMap, IsEmpty, get}
use Rattle.p21_express.specs.Schema.{Schema}
use Rattle.p21_schema.specs.Place.{entity_name}
use Rattle.p21_tree.specs.Sentence.{Instance}
use Rattle.p21_rules.specs.declared.counters.Counter.{Counter}
use Rattle.p21_rules.specs.declared.inverse.InverseCount.{InverseCount}
use Rattle.p21_rules.specs.declared.rule.InverseRule.{InverseRule}
use Rattle.p21_rules.specs.Counters.{count_of, AreCounted, CountAll, Counts}
use Rattle.p21_rules.specs.Firsts.{seen_below}
use Rattle.p21_rules.specs.InverseCount.{count_fault, counted, times, AreCountsAt, IsCount, RefersTo}
use Rattle.p21_rules.specs.InverseCount as inverse
use Rattle.p21_rules.specs.Parameter.{IsOf}
use Rattle.p21_rules.proofs.ConcernedLemmas.{left_of}
use Rattle.p21_rules.proofs.CounterLemmas.{all_counted, below_more, still_below, set_same, set_other}
use Rattle.p21_rules.proofs.FirstLemmas.{seen_not, seen_now, seen_other}

abbrev pub no_rule : InverseRule
no_rule = record { entity = record { index = 0 }; source = record { index = 0 }; attribute = record { index = 0 }; is_bag = false; low = 0; high = None }

-- ---- one instance more

module _ (s : Schema) (r : InverseRule) (i : Instance) (ns : List ℕ) (refers : RefersTo s r i ns) where
  count_more : (n : ℕ) (is : List Instance) (k : ℕ) → IsCount s r n is k → IsCount s r n (is ++ i ∷ []) (k + counted r.is_bag (times n ns))
  count_more n [] k inverse.none = inverse.more refers inverse.none (omega arith)
  count_more n (j ∷ js) k (inverse.more {k = rest} other h e) = inverse.more other (count_more n js rest h) (omega (arith, e))

  pub instance_counted : {S : Type 0} (before : List Instance) (old new : IndexMap ℕ Counter S) → Counts s r before old → AreCounted r.is_bag (length before) ns old new → Counts s r (before ++ i ∷ []) new
  instance_counted before old new held added = λ n.
      let place = length before in
      let c = get nat_eq old n in
      let more = length-append before (i ∷ []) in (
        subst (IsCount s r n (before ++ i ∷ [])) (sym (ap count_of (added n) ∙ all_counted place r.is_bag (times n ns) c (held n).1)) (count_more n before (count_of c) (held n).0),
        subst (λ l. IfSome (get nat_eq new n) (λ x. x.last < l)) (sym more) (subst (λ o. IfSome o (λ x. x.last < place + 1)) (sym (added n)) (still_below place r.is_bag (times n ns) c (below_more place c (held n).1))),
      )

-- ---- one rule more

module _ {S : Type 0} (s : Schema) (rules : List InverseRule) (before : List Instance) (i : Instance) (number : ℕ) (rule : InverseRule) (there : slice_get rules number ≡ Some rule) where
  pub rule_counted : (all : List (IndexMap ℕ Counter S)) (old new : IndexMap ℕ Counter S) → slice_get all number ≡ Some old → (Counts s rule before old → Counts s rule (before ++ i ∷ []) new)
      → CountAll s rules all (seen_below before i number) → CountAll s rules (set all number new) (seen_below before i (number + 1))
  rule_counted all old new at step held = record {
    long = length-set all number new ∙ held.long;
    each = λ k r counters is has.
        ⊎_elim
        (λ (e : k ≡ number).
        let within = slice_get_within all number old at in
        let both : Some r ≡ Some rule = sym is ∙ ap (slice_get rules) e ∙ there in
        let same : r ≡ rule = cc in
        let set_ : Some counters ≡ Some new = sym has ∙ ap (slice_get (set all number new)) e ∙ set_same all number new within in
        let new_ : counters ≡ new = cc in
        let counts = step (subst (λ l. Counts s rule l old) (seen_not before i number) (held.each number rule old there at)) in
        let seen : before ++ i ∷ [] ≡ seen_below before i (number + 1) k = sym (seen_now before i (number + 1) k (omega (arith, e))) in
        subst (λ (q : InverseRule). Counts s q (seen_below before i (number + 1) k) counters) (sym same)
        (subst (λ m. Counts s rule (seen_below before i (number + 1) k) m) (sym new_) (subst (λ l. Counts s rule l new) seen counts)))
        (λ (differ : k ≡ number → ⊥).
        let was = sym (set_other all k number new differ) ∙ has in
        subst (λ l. Counts s r l counters) (seen_other before i number k differ) (held.each k r counters is was))
        (cases_eq k number);
  }

-- a rule by which the instance does not refer has nothing to count
pub rule_passed : {S : Type 0} (s : Schema) (rules : List InverseRule) (all : List (IndexMap ℕ Counter S)) (before : List Instance) (i : Instance) (number : ℕ) (rule : InverseRule) → slice_get rules number ≡ Some rule
    → ¬ (IsOf s i (entity_name s rule.source)) → CountAll s rules all (seen_below before i number) → CountAll s rules all (seen_below before i (number + 1))
rule_passed s rules all before i number rule there not held = record {
  long = held.long;
  each = λ k r counters is has.
      ⊎_elim
      (λ (e : k ≡ number).
      let both : Some r ≡ Some rule = sym is ∙ ap (slice_get rules) e ∙ there in
      let same : r ≡ rule = cc in
      let old = subst (λ l. Counts s r l counters) (ap (seen_below before i number) e ∙ seen_not before i number) (held.each k r counters is has) in
      let none : RefersTo s r i [] = inverse.none (λ t h. not (subst (λ (q : InverseRule). IsOf s i (entity_name s q.source)) same h.of)) refl in
      let seen : before ++ i ∷ [] ≡ seen_below before i (number + 1) k = sym (seen_now before i (number + 1) k (omega (arith, e))) in
      subst (λ l. Counts s r l counters) seen (instance_counted s r i [] none before counters counters old (λ n. refl)))
      (λ (differ : k ≡ number → ⊥). subst (λ l. Counts s r l counters) (seen_other before i number k differ) (held.each k r counters is has))
      (cases_eq k number);
}

-- no rule counted the instance yet
pub seen_by_none : {S : Type 0} (s : Schema) (rules : List InverseRule) (all : List (IndexMap ℕ Counter S)) (before : List Instance) (i : Instance) → CountAll s rules all (λ k. before) → CountAll s rules all (seen_below before i 0)
seen_by_none s rules all before i held = record {
  long = held.long;
  each = λ k r counters is has.
      let none : before ≡ seen_below before i 0 k = ap (λ b. cond b (before ++ i ∷ []) before) (sym (le-ltb k 0 (omega arith))) in
      subst (λ l. Counts s r l counters) none (held.each k r counters is has);
}

-- each rule counted the instance
pub seen_by_all : {S : Type 0} (s : Schema) (rules : List InverseRule) (all : List (IndexMap ℕ Counter S)) (before : List Instance) (i : Instance) (n : ℕ) → length rules ≤ n → CountAll s rules all (seen_below before i n) → CountAll s rules all (λ k. before ++ i ∷ [])
seen_by_all s rules all before i n whole held = record {
  long = held.long;
  each = λ k r counters is has.
      let within = slice_get_within rules k r is in
      subst (λ l. Counts s r l counters) (seen_now before i n k (omega (arith, within, whole))) (held.each k r counters is has);
}

-- ---- counters that are empty

pub none_seen : {S : Type 0} (s : Schema) (rules : List InverseRule) (all : List (IndexMap ℕ Counter S)) → length all ≡ length rules → All (λ m. IsEmpty m) all → CountAll s rules all (λ k. [])
none_seen s rules all long empty = record {
  long = long;
  each = λ k r counters is has n.
      let none : IsEmpty counters = subst (λ m. IsEmpty m) (get_or_from_slice_get all k counters counters has) (empty k counters (slice_get_within all k counters has)) in
      let gone : get nat_eq counters n ≡ None = ap (lookup (nat_eq n)) none in
      subst (λ o. IsCount s r n [] (count_of o) × IfSome o (λ c. c.last < 0)) (sym gone) (inverse.none, tt);
}

-- ---- the faults of an instance by the rules below a number

-- with the faults by the rules from this number on, those that were added are all
abbrev pub IsFaultedBelow : Schema → List InverseRule → List Instance → Instance → (old new : List InverseCount) → ℕ → Type 0
IsFaultedBelow s rules is i old new k = (fs : List InverseCount) → AreCountsAt s is i k (drop k rules) fs → (gs : List InverseCount) × AreCountsAt s is i 0 rules gs × (new ++ fs ≡ old ++ gs)

module _ (s : Schema) (rules : List InverseRule) (is : List Instance) (i : Instance) (old : List InverseCount) where
  -- one more that does not concern it
  pub faulted_over : (new : List InverseCount) (k : ℕ) (r : InverseRule) → slice_get rules k ≡ Some r → ¬ (IsOf s i (entity_name s r.entity)) → IsFaultedBelow s rules is i old new k → IsFaultedBelow s rules is i old new (k + 1)
  faulted_over new k r there not told = λ fs more. told fs (subst (λ (l : List InverseRule). AreCountsAt s is i k l fs) (sym (left_of rules k r there)) (inverse.more None not more refl))

  -- one more whose count was looked at
  pub faulted_more : (mid new : List InverseCount) (k : ℕ) (r : InverseRule) (count : ℕ) → slice_get rules k ≡ Some r → IsOf s i (entity_name s r.entity) → IsCount s r i.name is count
      → new ≡ mid ++ count_fault i.at k r (Some count) → IsFaultedBelow s rules is i old mid k → IsFaultedBelow s rules is i old new (k + 1)
  faulted_more mid new k r count there of counts added told = λ fs more.
      let faults = count_fault i.at k r (Some count) in
      let one : AreCountsAt s is i k (r ∷ drop (k + 1) rules) (faults ++ fs) = inverse.more (Some count) (of, counts) more refl in
      let all = told (faults ++ fs) (subst (λ (l : List InverseRule). AreCountsAt s is i k l (faults ++ fs)) (sym (left_of rules k r there)) one) in
      (all.0, all.1, ap (λ l. l ++ fs) added ∙ append_assoc mid faults fs ∙ all.2)

  -- none is left
  pub faulted_all : (new : List InverseCount) (k : ℕ) → length rules ≤ k → IsFaultedBelow s rules is i old new k → (fs : List InverseCount) × AreCountsAt s is i 0 rules fs × (new ≡ old ++ fs)
  faulted_all new k whole told =
      let none : AreCountsAt s is i k (drop k rules) [] = subst (λ (l : List InverseRule). AreCountsAt s is i k l []) (sym (drop_all k rules whole)) inverse.none in
      let all = told [] none in
      (all.0, all.1, sym (append-nil new) ∙ all.2)
