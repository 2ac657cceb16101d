-- Attributes that were declared again.
use Rattle.std.proofs.Common.{◌≡◌, ℕ, Bool, true, false, cond, List, [], ◌∷◌, ◌++◌, Option, Some, None, MatchOption, refl, sym, ap, subst, Bor, inl, ⊎_elim, arith}
use Rattle.std.specs.Bool.{MatchBool}
use Rattle.std.specs.BTreeMap.{BTreeMap, get}
use Rattle.std.specs.Option.{is_some}
use Rattle.std.specs.Ordering.{is_eq, ordering_then, nat_cmp}
use Rattle.std.specs.Cmp.Lexicographic.{slice_cmp}
use Rattle.std.specs.declared.cmp.Ordering.{Ordering}
use Rattle.std.specs.declared.cmp.Ordering.TheVariants as order
use Rattle.std.proofs.lemmas.Bool.Decides.{nat_tests}
use Rattle.p21_express.specs.Again.{HasOrigins, origin_cmp, origin_in}
use Rattle.p21_express.specs.Index.{IsEntityAt}
use Rattle.p21_express.specs.Schema.{Schema}
use Rattle.p21_express.specs.WellFormed.{IsIn, AreDistinct, Origin, declared_names}
use Rattle.p21_express.proofs.CycleLemmas.{one_entity_name, one_entity_place}
use Rattle.p21_express.proofs.IndexLemmas.{Compared, same, apart, compared, is_in_push}
use Rattle.p21_express.proofs.GraphLemmas.{in_front, in_back}

-- what was in a map is there, and else it is put there
pub is_met : (o : Option Bool) (b : Bool) (P Q : Type 0) → b ≡ is_some o → MatchOption o (¬ P) (λ x. P) → Q → MatchBool b P (¬ P × Q)
is_met None b P Q e h q = rw e (h, q)
is_met (Some x) b P Q e h q = rw e h

-- two things are one, or the order tells them apart
data Told {X : Type 0} (a b : X) : Bool → Type 0 where
  one : a ≡ b → Told a b true
  other : ¬ (a ≡ b) → Told a b false

both_equal : (p q : Ordering) → is_eq (ordering_then p q) ≡ cond (is_eq p) (is_eq q) false
both_equal order.Less q = refl
both_equal order.Equal q = refl
both_equal order.Greater q = refl

position_by : (i j : ℕ) (o : Ordering) → nat_cmp i j ≡ o → Told i j (is_eq o)
position_by i j order.Less h = other (λ e. grind (arith, nat_tests))
position_by i j order.Equal h = one (grind (arith, nat_tests))
position_by i j order.Greater h = other (λ e. grind (arith, nat_tests))

joined_by : (os : List Origin) (w q : Origin) (v r : Bool) (o : Option Bool) → Told w q r → MatchOption o (¬ (IsIn os q)) (λ x. IsIn os q) → MatchOption (cond r (Some v) o) (¬ (IsIn (os ++ w ∷ []) q)) (λ x. IsIn (os ++ w ∷ []) q)
joined_by os w q v true o (one e) before = in_back os (w ∷ []) q (inl e)
joined_by os w q v false None (other n) before = λ h. ⊎_elim (λ (k : IsIn os q). before k) (λ (e : w ≡ q). n e) (is_in_push os w q h)
joined_by os w q v false (Some x) (other n) before = in_front os (w ∷ []) q before

module _ (s : Schema) where
  pub origins_none : (m : BTreeMap (ℕ × Bor (List ℕ)) Bool) → m.entries ≡ [] → HasOrigins s m []
  origins_none m e = λ a d here. rw e (λ h. h)

  module _ (distinct : AreDistinct (declared_names s)) where
    told_by : (i j : ℕ) (d e m n : List ℕ) (p q : Bool) → IsEntityAt s i d → IsEntityAt s j e → Told i j p → Compared m n q → Told (origin_in d m) (origin_in e n) (cond p q false)
    told_by i j d e m n true true here there (one k) (same f) = one (let g : d ≡ e = one_entity_name s i d e here (subst (λ (k : ℕ). IsEntityAt s k e) (sym k) there) in cc)
    told_by i j d e m n true false here there (one k) (apart f) = other (λ h. f (ap (λ (o : Origin). o.name) h))
    told_by i j d e m n false q here there (other k) c = other (λ h. k (one_entity_place s distinct e i j (subst (λ (x : List ℕ). IsEntityAt s i x) (ap (λ (o : Origin). o.entity) h) here) there))

    told : (a b : ℕ × Bor (List ℕ)) (d e : List ℕ) → IsEntityAt s a.0 d → IsEntityAt s b.0 e → Told (origin_in d a.1.now) (origin_in e b.1.now) (is_eq (origin_cmp a b))
    told a b d e here there = rw (both_equal (nat_cmp a.0 b.0) (slice_cmp nat_cmp a.1.now b.1.now)) (told_by a.0 b.0 d e a.1.now b.1.now (is_eq (nat_cmp a.0 b.0)) (is_eq (slice_cmp nat_cmp a.1.now b.1.now)) here there (position_by a.0 b.0 (nat_cmp a.0 b.0) refl) (compared a.1.now b.1.now))

    pub origins_more : (m n : BTreeMap (ℕ × Bor (List ℕ)) Bool) (os : List Origin) (w : ℕ × Bor (List ℕ)) (d : List ℕ) (v : Bool) → IsEntityAt s w.0 d → HasOrigins s m os → ((q : ℕ × Bor (List ℕ)) → get origin_cmp n q ≡ cond (is_eq (origin_cmp w q)) (Some v) (get origin_cmp m q)) → HasOrigins s n (os ++ origin_in d w.1.now ∷ [])
    origins_more m n os w d v here before updates = λ q e there. rw (updates q) (joined_by os (origin_in d w.1.now) (origin_in e q.1.now) v (is_eq (origin_cmp w q)) (get origin_cmp m q) (told w q d e here there) (before q e there))
