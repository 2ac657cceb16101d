-- The references of an instance by those of its records.
use Rattle.std.proofs.Common.{◌≡◌, ◌≢◌, ◌↔◌, ⊎_elim, inl, inr, ◌⊎◌, ℕ, zero, suc, ◌<◌, ◌≤◌, ◌+◌, List, [], ◌∷◌, Option, Some, None, Result, Ok, Err, map, length, refl, ap, subst, arith}
use Rattle.std.specs.Prelude.{slice_get, OnErr}
use Rattle.p21_express.specs.Schema.{Schema}
use Rattle.p21_express.specs.WellFormed.{IsIn, IsEntity, IsWellFormed, Origin}
use Rattle.p21_tree.specs.Grammar.{Entry}
use Rattle.p21_tree.specs.Sentence.{Instance}
use Rattle.p21_tree.specs.declared.faults.FaultKind.{FaultKind}
use Rattle.p21_tree.specs.declared.faults.FaultKind.TheVariants as kind
use Rattle.p21_check.specs.EntitySet.{IsInSet}
use Rattle.p21_check.specs.Attributes.{AreAttributes}
use Rattle.p21_check.specs.Conforms.{tree_count}
use Rattle.p21_check.specs.LocalFault.{IsLocalFault}
use Rattle.p21_check.specs.References.{HasFaultAt, IsReferenceFault}
use Rattle.p21_check.specs.Asked.{AreFaultless, IsRecordFault, FindsInRecord, IsReferenceAnswer}
use Rattle.p21_check.proofs.AttributeLemmas.{one_list}
use Rattle.p21_check.proofs.AskerLemmas.{record_faultless, record_first}

keyword_in : (es : List Entry) (q : ℕ) (e : Entry) → slice_get es q ≡ Some e → IsIn (map (λ r. r.keyword) es) e.keyword
keyword_in [] q e h = absurd (cc)
keyword_in (x ∷ es) zero e h = let same : x ≡ e = cc in inl (ap (λ (y : Entry). y.keyword) same)
keyword_in (x ∷ es) (suc q) e h = inr (keyword_in es q e h)

same_number : (a b : ℕ) → ¬ (a ≢ b) → a ≡ b
same_number zero zero h = refl
same_number zero (suc b) h = absurd (h (λ e. absurd (omega (arith, e))))
same_number (suc a) zero h = absurd (h (λ e. absurd (omega (arith, e))))
same_number (suc a) (suc b) h = ap suc (same_number a b (λ ne. h (λ e. ne (omega (arith, e)))))

module _ (s : Schema) (i : Instance) (q : ℕ) (e : Entry) (fine : IsLocalFault s i None) (there : slice_get i.records q ≡ Some e) where
  -- the entities of an instance without a fault by itself are known
  pub record_known : ¬ (¬ (IsEntity s e.keyword))
  record_known unknown = fine kind.UnknownEntity (record { keyword = e.keyword; written = keyword_in i.records q e there; unknown = unknown })

  -- and it has as many parameters as attributes
  pub record_counted : (os : List Origin) → AreAttributes s i.complex e.keyword os → tree_count e.params ≡ length os
  record_counted os are = same_number (tree_count e.params) (length os) (λ wrong. fine (kind.WrongCount q) (record { entry = e; attributes = os; there = there; are = are; wrong = wrong }))

module _ (s : Schema) (w : IsWellFormed s) (named : ℕ → Option Instance) (i : Instance) (S : List ℕ → Type 0) (set : (n : List ℕ) → S n ↔ IsInSet s i n) (q : ℕ) (e : Entry) (there : slice_get i.records q ≡ Some e) where
  turned : (n : List ℕ) → IsInSet s i n ↔ S n
  turned n = ((set n).1, (set n).0)

  -- a record in which no fault was found has none
  pub none_in_record : ((os : List Origin) → AreAttributes s i.complex e.keyword os → AreFaultless s named S os e.params (length os)) → (a k : ℕ) (f : FaultKind) → ¬ (HasFaultAt s named i q a k f)
  none_in_record h = record_faultless s named i S q e turned there h

  -- a fault that was found after records without one is the first of the instance
  pub first_in_record : (os : List Origin) (k : FaultKind) → AreAttributes s i.complex e.keyword os → ((r a p : ℕ) (f : FaultKind) → r < q → ¬ (HasFaultAt s named i r a p f)) → IsRecordFault s named S os e.params q k → IsReferenceFault s named i (Some k)
  first_in_record os k are before found = record_first s named i S q e os k turned there are (λ (other : List Origin) x. one_list s w x are) before found

-- the records up to this one have no fault
pub one_more : (s : Schema) (named : ℕ → Option Instance) (i : Instance) (q : ℕ) → ((r a p : ℕ) (f : FaultKind) → r < q → ¬ (HasFaultAt s named i r a p f)) → ((a p : ℕ) (f : FaultKind) → ¬ (HasFaultAt s named i q a p f)) → (r a p : ℕ) (f : FaultKind) → r < q + 1 → ¬ (HasFaultAt s named i r a p f)
one_more s named i q before here r a p f less x =
    ⊎_elim (λ (k : r < q). before r a p f k x) (λ (k : r ≡ q). here a p f (subst (λ n. HasFaultAt s named i n a p f) k x)) (split r q less) where
      split : (r q : ℕ) → r < q + 1 → (r < q) ⊎ (r ≡ q)
      split zero zero h = inr refl
      split zero (suc q) h = inl (omega arith)
      split (suc r) zero h = absurd (omega (arith, h))
      split (suc r) (suc q) h = ⊎_elim (λ (k : r < q). inl (omega (arith, k))) (λ (k : r ≡ q). inr (ap suc k)) (split r q (omega (arith, h)))

-- no record stands after the last
pub all_before : (s : Schema) (named : ℕ → Option Instance) (i : Instance) (q : ℕ) → length i.records ≤ q → ((r a p : ℕ) (f : FaultKind) → r < q → ¬ (HasFaultAt s named i r a p f)) → IsReferenceFault s named i None
all_before s named i q long before r a p f x = before r a p f (omega (arith, long, below i.records r x.stands.entry x.stands.there)) x where
  below : (es : List Entry) (r : ℕ) (e : Entry) → slice_get es r ≡ Some e → r < length es
  below [] r e h = absurd (cc)
  below (y ∷ es) zero e h = omega arith
  below (y ∷ es) (suc r) e h = let more = below es r e h in omega (arith, more)

-- what was found in the last record is the answer for the instance
pub last_answer : (s : Schema) (w : IsWellFormed s) (named : ℕ → Option Instance) (i : Instance) (S : List ℕ → Type 0) (set : (n : List ℕ) → S n ↔ IsInSet s i n) (q : ℕ) (e : Entry) (there : slice_get i.records q ≡ Some e) → length i.records ≤ q + 1
    → ((r a p : ℕ) (f : FaultKind) → r < q → ¬ (HasFaultAt s named i r a p f)) → (r : Result (Unit {0}) FaultKind) → OnErr r ((os : List Origin) × AreAttributes s i.complex e.keyword os) → ((os : List Origin) → AreAttributes s i.complex e.keyword os → FindsInRecord s named S os e.params q r) → IsReferenceAnswer s named i r
last_answer s w named i S set q e there long before (Ok u) some found = all_before s named i (q + 1) long (one_more s named i q before (none_in_record s w named i S set q e there found))
last_answer s w named i S set q e there long before (Err k) some found = first_in_record s w named i S set q e there some.0 k some.1 before (found some.0 some.1)
