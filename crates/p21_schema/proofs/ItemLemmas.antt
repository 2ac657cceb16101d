-- Names among the items of enumerations.
use Rattle.std.proofs.Common.{◌≡◌, ◌↔◌, ℕ, ◌+◌, ◌<◌, ◌≤◌, List, [], Vec, Global, length, get_or, take, map, refl, sym, ap, ◌∙◌, subst, ⊎_elim}
use Rattle.std.proofs.lemmas.List.{length-map, get_or-map, take_all}
use Rattle.p21_express.specs.Schema.{Schema, Defined, Underlying, items, select, plain, named}
use Rattle.p21_express.specs.WellFormed.{IsIn, IsWellFormed}
use Rattle.p21_graph.specs.MemberLaws.{place_of, at_place, front_more, same_place}
use Rattle.p21_schema.specs.declared.resolved.Resolved.{Resolved}
use Rattle.p21_schema.specs.declared.resolved.Resolved.TheVariants as resolved
use Rattle.p21_schema.specs.Under.{StandsUnder, itself, followed, IsResolvedIn}
use Rattle.p21_schema.specs.Items.{IsItemOf, HasItem}
use Rattle.p21_schema.proofs.UnderLemmas.{distinct_types, type_names}

abbrev Name : Type 0
Name = Vec ℕ Global

abbrev bytes : Name → List ℕ
bytes v = v.items

-- ---- one after the other

module _ (xs : List Name) (n : List ℕ) (i : ℕ) (x : Name) (less : i < length xs) (at : x ≡ get_or xs i x) where
  name_at : get_or (map bytes xs) i [] ≡ x.items
  name_at = get_or-map bytes xs i x [] less ∙ ap bytes (sym at)

  less_mapped : i < length (map bytes xs)
  less_mapped = rw (length-map xs bytes) less

  pub is_there : x.items ≡ n → IsIn (map bytes xs) n
  is_there e = subst (IsIn (map bytes xs)) (name_at ∙ e) (at_place (map bytes xs) i [] less_mapped)

  pub not_yet : ¬ (x.items ≡ n) → ¬ (IsIn (take i (map bytes xs)) n) → ¬ (IsIn (take (i + 1) (map bytes xs)) n)
  not_yet not before m = ⊎_elim (λ (b : IsIn (take i (map bytes xs)) n). before b) (λ (e : get_or (map bytes xs) i [] ≡ n). not (sym name_at ∙ e)) (front_more (map bytes xs) i [] n less_mapped m)

pub nowhere : (xs : List Name) (n : List ℕ) (i : ℕ) → length xs ≤ i → ¬ (IsIn (take i (map bytes xs)) n) → ¬ (IsIn (map bytes xs) n)
nowhere xs n i h before = subst (λ (u : List (List ℕ)). ¬ (IsIn u n)) (take_all i (map bytes xs) (rw (length-map xs bytes) h)) before

-- ---- what stands under a type is one

module _ (s : Schema) (formed : IsWellFormed s) where
  same_type : (t u : Defined) → IsIn s.types t → IsIn s.types u → t.name ≡ u.name → t ≡ u
  same_type t u a b e =
      let name : Defined → List ℕ = λ d. d.name in
      let p = place_of s.types t a in
      let q = place_of s.types u b in
      let lp : p.0 < length (type_names s) = rw (length-map s.types name) p.1.0 in
      let lq : q.0 < length (type_names s) = rw (length-map s.types name) q.1.0 in
      let at : get_or (type_names s) p.0 [] ≡ get_or (type_names s) q.0 [] = get_or-map name s.types p.0 t [] p.1.0 ∙ ap name (p.1.1 t) ∙ e ∙ sym (ap name (q.1.1 u)) ∙ sym (get_or-map name s.types q.0 u [] q.1.0) in
      let i : p.0 ≡ q.0 = same_place (type_names s) p.0 q.0 [] (distinct_types s formed.repeated) lp lq at in
      sym (p.1.1 t) ∙ ap (λ (k : ℕ). get_or s.types k t) i ∙ q.1.1 t

  same_under : (t u : Defined) → IsIn s.types t → IsIn s.types u → t.name ≡ u.name → t.under ≡ u.under
  same_under t u a b e = ap (λ (d : Defined). d.under) (same_type t u a b e)

  pub one_under : {n : List ℕ} {u v : Underlying} → StandsUnder s n u → StandsUnder s n v → u ≡ v
  one_under (itself t a b c d) (itself t' a' b' c' d') = sym c ∙ same_under t t' a a' (b ∙ sym b') ∙ c'
  one_under (itself t a b c d) (followed {m = m} t' a' b' c' d') = absurd (d m (sym c ∙ same_under t t' a a' (b ∙ sym b') ∙ c'))
  one_under (followed {m = m} t a b c d) (itself t' a' b' c' d') = absurd (d' m (sym c' ∙ same_under t' t a' a (b' ∙ sym b) ∙ c))
  one_under {v = v} (followed {m = m} t a b c d) (followed {m = m'} t' a' b' c' d') =
      let e : plain (named m') ≡ plain (named m) = sym c' ∙ same_under t' t a' a (b' ∙ sym b) ∙ c in
      let same : m' ≡ m = cc in
      one_under d (subst (λ x. StandsUnder s x v) same d')

  same_item : (m : List ℕ) {n : List ℕ} {u v : Underlying} → StandsUnder s n u → StandsUnder s n v → IsItemOf u m → IsItemOf v m
  same_item m a b i = subst (λ x. IsItemOf x m) (one_under a b) i

  -- by what stands under a type its items are known
  pub has_items : (n m : List ℕ) (v : Vec Name Global) → (u : Underlying) × (StandsUnder s n u × IsResolvedIn s (resolved.Items v) u) → IsIn (map bytes v.items) m ↔ HasItem s n m
  has_items n m v h = by h.0 h.1.0 h.1.1
    where
      by : (u : Underlying) → StandsUnder s n u → IsResolvedIn s (resolved.Items v) u → IsIn (map bytes v.items) m ↔ HasItem s n m
      by (items ns) stands e = (λ i. record { under = items ns; stands = stands; item = subst (λ (x : List (List ℕ)). IsIn x m) e i }, λ h. subst (λ (x : List (List ℕ)). IsIn x m) (sym e) (same_item m h.stands stands h.item))
      by (select ns) stands e = absurd e
      by (plain x) stands e = absurd e

  other_than_items : (r : Resolved) (ns : List (List ℕ)) → ((v : Vec Name Global) → ¬ (r ≡ resolved.Items v)) → ¬ (IsResolvedIn s r (items ns))
  other_than_items (resolved.Items v) ns not = λ _. not v refl
  other_than_items (resolved.Select v) ns not = λ e. e
  other_than_items (resolved.Plain x) ns not = λ e. e

  pub has_no_items : (n m : List ℕ) (r : Resolved) → ((v : Vec Name Global) → ¬ (r ≡ resolved.Items v)) → (u : Underlying) × (StandsUnder s n u × IsResolvedIn s r u) → ¬ (HasItem s n m)
  has_no_items n m r other h = by h.0 h.1.0 h.1.1
    where
      by : (u : Underlying) → StandsUnder s n u → IsResolvedIn s r u → ¬ (HasItem s n m)
      by (items ns) stands e = λ _. other_than_items r ns other e
      by (select ns) stands e = λ i. same_item m i.stands stands i.item
      by (plain x) stands e = λ i. same_item m i.stands stands i.item
