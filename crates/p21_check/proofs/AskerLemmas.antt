-- The references of an instance by the references of its parameters.
use Rattle.std.proofs.Common.{◌≡◌, ◌↔◌, ℕ, List, Option, Some, sym, ap, subst, inl, inr, zero, suc, ◌<◌, [], ◌∷◌, length, arith}
use Rattle.std.specs.Prelude.{slice_get}
use Rattle.p21_express.specs.Schema.{Schema}
use Rattle.p21_express.specs.WellFormed.{Origin}
use Rattle.p21_tree.specs.Tree.{Tree}
use Rattle.p21_tree.specs.Grammar.{Entry}
use Rattle.p21_tree.specs.Sentence.{Instance}
use Rattle.p21_check.specs.declared.walk.Bad.{Bad}
use Rattle.p21_check.specs.declared.walk.Bad.TheVariants as bad
use Rattle.p21_check.specs.EntitySet.{IsInSet}
use Rattle.p21_check.specs.Attributes.{AreAttributes}
use Rattle.p21_check.specs.LocalFault.{tree_get}
use Rattle.p21_check.specs.References.{Reference, HasReference, IsAtFault, HasFaultAt, IsFirstFault, IsBefore}
use Rattle.p21_check.specs.References as refers
use Rattle.p21_tree.specs.declared.faults.FaultKind.{FaultKind}
use Rattle.p21_check.specs.Walk.{IsAnswered, IsBad}
use Rattle.p21_check.specs.Asked.{AskedBy, AreFaultless, IsRecordFault, kind_at}
use Rattle.p21_check.proofs.SlotLemmas.{counts_same}

-- a reference of the instance is asked for by a declaration that counts
pub reference_asked : (s : Schema) (i : Instance) (S : List ℕ → Type 0) (q a k : ℕ) (r : Reference) → ((n : List ℕ) → IsInSet s i n ↔ S n) → (h : HasReference s i q a k r) → AskedBy s S h.attribute h.parameter k r
reference_asked s i S q a k r f h = record {
  declaration = h.declaration;
  counts = counts_same s (IsInSet s i) S h.attribute h.declaration f h.counts;
  refers = record { optional = h.optional; texpr = h.texpr; explicit = h.explicit; refers = h.refers };
}

pub asked_reference : (s : Schema) (i : Instance) (S : List ℕ → Type 0) (q a k : ℕ) (r : Reference) (e : Entry) (os : List Origin) (o : Origin) (t : Tree) → ((n : List ℕ) → IsInSet s i n ↔ S n) → slice_get i.records q ≡ Some e → AreAttributes s i.complex e.keyword os → slice_get os a ≡ Some o → tree_get e.params a ≡ Some t → AskedBy s S o t k r → HasReference s i q a k r
asked_reference s i S q a k r e os o t f there are for_ given h = record {
  entry = e;
  attributes = os;
  attribute = o;
  parameter = t;
  declaration = h.declaration;
  optional = h.refers.optional;
  texpr = h.refers.texpr;
  there = there;
  are = are;
  for_ = for_;
  given = given;
  counts = counts_same s S (IsInSet s i) o h.declaration (λ n. ((f n).1, (f n).0)) h.counts;
  explicit = h.refers.explicit;
  refers = h.refers.refers;
}

-- what is answered is not at fault
pub answered_well : (s : Schema) (named : ℕ → Option Instance) (r : Reference) (q a : ℕ) (k : _) → IsAnswered s named r → ¬ (IsAtFault s named r q a k)
answered_well s named r q a k h (inl m) = let e = h.has in let f = m.0 in cc
answered_well s named r q a k h (inr m) =
    let same : m.0 ≡ h.found = (let e = h.has in let f = m.1 in cc) in
    m.2 (subst (λ (i : Instance). Rattle.p21_check.specs.References.IsWanted s i r.wanted) (sym same) h.wanted_)

-- what is bad is at fault
pub bad_fault : (s : Schema) (named : ℕ → Option Instance) (r : Reference) (q a : ℕ) (b : Bad) → IsBad s named r b → IsAtFault s named r q a (kind_at q a b)
bad_fault s named r q a (bad.Missing n) h = inl (h.1, ap (λ m. kind_at q a (bad.Missing m)) (sym h.0))
bad_fault s named r q a (bad.Wrong n) h = inr (h.1.found, h.1.has, h.1.unwanted, ap (λ m. kind_at q a (bad.Wrong m)) (sym h.0))

-- a record whose parameters have no fault has none
pub record_faultless : (s : Schema) (named : ℕ → Option Instance) (i : Instance) (S : List ℕ → Type 0) (q : ℕ) (e : Entry) → ((n : List ℕ) → IsInSet s i n ↔ S n) → slice_get i.records q ≡ Some e →
    ((os : List Origin) → AreAttributes s i.complex e.keyword os → AreFaultless s named S os e.params (length os)) → (a k : ℕ) (f : FaultKind) → ¬ (HasFaultAt s named i q a k f)
record_faultless s named i S q e f there h a k fault bad_ =
    let st = bad_.stands in
    let same : st.entry ≡ e = (let x = st.there in cc) in
    let are = subst (λ (z : Entry). AreAttributes s i.complex z.keyword st.attributes) same st.are in
    let given = subst (λ (z : Entry). tree_get z.params a ≡ Some st.parameter) same st.given in
    let less : a < length st.attributes = get_below st.attributes a st.attribute st.for_ in
    answered_well s named bad_.refers_to q a fault (h st.attributes are a st.attribute st.parameter less st.for_ given k bad_.refers_to (reference_asked s i S q a k bad_.refers_to f st)) bad_.fault where
      get_below : (os : List Origin) (a : ℕ) (o : Origin) → slice_get os a ≡ Some o → a < length os
      get_below [] a o x = absurd cc
      get_below (y ∷ ys) zero o x = omega arith
      get_below (y ∷ ys) (suc a) o x = let less = get_below ys a o x in omega arith

-- the first fault of a record after records without a fault is the first of the instance
pub record_first : (s : Schema) (named : ℕ → Option Instance) (i : Instance) (S : List ℕ → Type 0) (q : ℕ) (e : Entry) (os : List Origin) (k : FaultKind) → ((n : List ℕ) → IsInSet s i n ↔ S n) → slice_get i.records q ≡ Some e → AreAttributes s i.complex e.keyword os →
    ((os' : List Origin) → AreAttributes s i.complex e.keyword os' → os' ≡ os) →
    ((r a p : ℕ) (f : FaultKind) → r < q → ¬ (HasFaultAt s named i r a p f)) → IsRecordFault s named S os e.params q k → IsFirstFault s named i k
record_first s named i S q e os k f there are once before h = record {
  rec_ = q;
  attr = h.attr;
  place = h.first.place;
  has = record {
    refers_to = h.first.reference;
    stands = asked_reference s i S q h.attr h.first.place h.first.reference e os h.attribute h.parameter f there are h.for_ h.given h.first.asked_;
    fault = subst (λ (z : FaultKind). IsAtFault s named h.first.reference q h.attr z) (sym h.is) (bad_fault s named h.first.reference q h.attr h.bad_ h.first.bad_);
  };
  first = earlier;
} where
  -- a fault at this record, in the terms of its attributes
  at_record : (r a p : ℕ) (other : FaultKind) → r ≡ q → (x : HasFaultAt s named i r a p other) → (slice_get os a ≡ Some x.stands.attribute) × (tree_get e.params a ≡ Some x.stands.parameter)
  at_record r a p other same x =
      let st = x.stands in
      let is : st.entry ≡ e = (let y = st.there in cc) in
      let are' = subst (λ (z : Entry). AreAttributes s i.complex z.keyword st.attributes) is st.are in
      (subst (λ (xs : List Origin). slice_get xs a ≡ Some st.attribute) (once st.attributes are') st.for_, subst (λ (z : Entry). tree_get z.params a ≡ Some st.parameter) is st.given)

  earlier : (r a p : ℕ) (other : FaultKind) → IsBefore r a p q h.attr h.first.place → (x : HasFaultAt s named i r a p other) → ⊥
  earlier r a p other (refers.by_record less) x = before r a p other less x
  earlier r a p other (refers.by_attribute same less) x =
      let g = at_record r a p other same x in
      answered_well s named x.refers_to r a other (h.before a x.stands.attribute x.stands.parameter less g.0 g.1 p x.refers_to (reference_asked s i S r a p x.refers_to f x.stands)) x.fault
  earlier r a p other (refers.by_place same at less) x =
      let g = at_record r a p other same x in
      let st = x.stands in
      let one : st.attribute ≡ h.attribute = (let y = g.0 in let z = h.for_ in cc) in
      let two : st.parameter ≡ h.parameter = (let y = g.1 in let z = h.given in cc) in
      let ask = subst (λ (o : Origin). AskedBy s S o h.parameter p x.refers_to) one (subst (λ (t : Tree). AskedBy s S st.attribute t p x.refers_to) two (reference_asked s i S r a p x.refers_to f st)) in
      answered_well s named x.refers_to r a other (h.first.before p x.refers_to less ask) x.fault
