-- What an instance has, by its records.
use Rattle.std.proofs.Common.{◌≡◌, ◌≢◌, ◌↔◌, ⊎_elim, inl, inr, ℕ, zero, suc, Bool, IsTrue, List, Some, length, refl, sym, ap, subst, ◌∙◌}
use Rattle.std.specs.Prelude.{slice_get}
use Rattle.std.proofs.lemmas.Bool.{false≢true}
use Rattle.p21_express.specs.Schema.{Schema, Entity}
use Rattle.p21_express.specs.WellFormed.{IsEntity, IsAncestor, IsWellFormed, Origin}
use Rattle.p21_tree.specs.Tree.{Tree, Trees}
use Rattle.p21_tree.specs.Grammar.{Entry}
use Rattle.p21_tree.specs.Sentence.{Instance}
use Rattle.p21_schema.specs.declared.ids.EntityId.{EntityId}
use Rattle.p21_schema.specs.Place.{entity_at, entity_name, IsEntityOf}
use Rattle.p21_schema.specs.Declaration.{Declaration}
use Rattle.p21_check.specs.EntitySet.{IsInSet, keywords}
use Rattle.p21_check.specs.EntitySet as sets
use Rattle.p21_check.specs.Conforms.{tree_count}
use Rattle.p21_check.specs.Attributes.{AreAttributes}
use Rattle.p21_check.specs.Slot.{FitsSlot, IsDerived, Counts}
use Rattle.p21_check.specs.Slot as slot
use Rattle.p21_check.specs.LocalFault.{HasUnknownEntity, HasAbstractEntity, IsBadComplex, IsAbstract, HasWrongCount, HasBadAttribute, tree_get}
use Rattle.p21_check.specs.declared.entity_set.EntitySet.TheVariants as set
use Rattle.p21_check.specs.Sets.{HasEntity}
use Rattle.p21_check.specs.Instances.{simple_instance, IsUnfitAt}
use Rattle.p21_check.proofs.SetLemmas.{is_entity}
use Rattle.p21_check.proofs.SlotLemmas.{derived_same, counts_same}
use Rattle.p21_check.proofs.AttributeLemmas.{one_list, one_entity, entity_there}

-- ---- two sets with the same entities

turned : {A B : List ℕ → Type 0} → ((n : List ℕ) → A n ↔ B n) → (n : List ℕ) → B n ↔ A n
turned h n = ((h n).1, (h n).0)

module _ (s : Schema) (A B : List ℕ → Type 0) (o : Origin) (h : (n : List ℕ) → A n ↔ B n) where
  not_derived_along : ¬ (IsDerived s A o) → ¬ (IsDerived s B o)
  not_derived_along k d = k (derived_same s B A o (λ n. (h n).1) d)

  counts_back : (d : Declaration) → Counts s B o d → Counts s A o d
  counts_back d = counts_same s B A o d (turned h)

  fits_along : {t : Tree} → FitsSlot s A o t → FitsSlot s B o t
  fits_along (slot.derived d) = slot.derived (derived_same s A B o (λ n. (h n).0) d)
  fits_along (slot.absent k f) = slot.absent (not_derived_along k) (λ d c. f d (counts_back d c))
  fits_along (slot.given k f) = slot.given (not_derived_along k) (λ d c. f d (counts_back d c))

pub unfit_along : (s : Schema) (A B : List ℕ → Type 0) (os : List Origin) (ts : Trees) (a : ℕ) → ((n : List ℕ) → A n ↔ B n) → IsUnfitAt s A os ts a → IsUnfitAt s B os ts a
unfit_along s A B os ts a h u = (u.0, u.1, u.2, u.3, λ f. u.4 (fits_along s B A u.0 (turned h) f))

-- ---- one record

module _ (s : Schema) (w : IsWellFormed s) (i : Instance) (r : ℕ) (e : Entry) (there : slice_get i.records r ≡ Some e) (os : List Origin) (are : AreAttributes s i.complex e.keyword os) where
  same : (f : Entry) → slice_get i.records r ≡ Some f → e ≡ f
  same f h = let k : Some e ≡ Some f = sym there ∙ h in cc

  pub wrong_at : tree_count e.params ≢ length os → HasWrongCount s i r
  wrong_at h = record { entry = e; attributes = os; there = there; are = are; wrong = h }

  pub not_wrong_at : tree_count e.params ≡ length os → ¬ (HasWrongCount s i r)
  not_wrong_at h x =
      let f = same x.entry x.there in
      let l : x.attributes ≡ os = one_list s w (subst (λ (y : Entry). AreAttributes s i.complex y.keyword x.attributes) (sym f) x.are) are in
      x.wrong (ap (λ (y : Entry). tree_count y.params) (sym f) ∙ h ∙ ap length (sym l))

  pub bad_at : (a : ℕ) → IsUnfitAt s (IsInSet s i) os e.params a → HasBadAttribute s i r a
  bad_at a u = record { entry = e; attributes = os; attribute = u.0; parameter = u.1; there = there; are = are; for_ = u.2; given = u.3; unfit = u.4 }

  pub unfit_at : (a : ℕ) → HasBadAttribute s i r a → IsUnfitAt s (IsInSet s i) os e.params a
  unfit_at a x =
      let f = same x.entry x.there in
      let l : x.attributes ≡ os = one_list s w (subst (λ (y : Entry). AreAttributes s i.complex y.keyword x.attributes) (sym f) x.are) are in
      (x.attribute, x.parameter, subst (λ y. slice_get y a ≡ Some x.attribute) l x.for_, subst (λ (y : Entry). tree_get y.params a ≡ Some x.parameter) (sym f) x.given, x.unfit)

-- whether an entity is abstract
pub abstract_by : (s : Schema) (w : IsWellFormed s) (e : EntityId) (b : Bool) → IsEntityOf s e → b ≡ (entity_at s e).is_abstract → IsTrue b ↔ IsAbstract s (entity_name s e)
abstract_by s w e b h is = (
  λ t. record { entity = entity_at s e; declared = entity_there s e h; name_is = refl; abstract_ = sym is ∙ t },
  λ a. is ∙ ap (λ (x : Entity). x.is_abstract) (one_entity s w (entity_at s e) a.entity (entity_there s e h) a.declared (sym a.name_is)) ∙ a.abstract_,
)

-- ---- a simple instance

module _ (s : Schema) (name at : ℕ) (e : Entry) where
  pub simple_known : IsEntity s e.keyword → ¬ (HasUnknownEntity s (simple_instance name at e))
  simple_known h x = ⊎_elim (λ (k : e.keyword ≡ x.keyword). x.unknown (subst (IsEntity s) k h)) (λ (k : ⊥). k) x.written

  pub simple_abstract : IsAbstract s e.keyword → HasAbstractEntity s (simple_instance name at e)
  simple_abstract h = record { keyword = e.keyword; simple = refl; written = inl refl; is_abstract = h }

  pub simple_concrete : ¬ (IsAbstract s e.keyword) → ¬ (HasAbstractEntity s (simple_instance name at e))
  simple_concrete h x = ⊎_elim (λ (k : e.keyword ≡ x.keyword). h (subst (IsAbstract s) (sym k) x.is_abstract)) (λ (k : ⊥). k) x.written

  pub simple_whole : ¬ (IsBadComplex s (simple_instance name at e))
  simple_whole x = false≢true x.complex

  pub simple_counted : ¬ (HasWrongCount s (simple_instance name at e) 0) → (q : ℕ) → ¬ (HasWrongCount s (simple_instance name at e) q)
  simple_counted h zero x = h x
  simple_counted h (suc q) x = let k = x.there in cc

  pub simple_fit : ((a : ℕ) → ¬ (HasBadAttribute s (simple_instance name at e) 0 a)) → (q a : ℕ) → ¬ (HasBadAttribute s (simple_instance name at e) q a)
  simple_fit h zero a x = h a x
  simple_fit h (suc q) a x = let k = x.there in cc

  pub simple_set : (id : EntityId) → IsEntityOf s id → entity_name s id ≡ e.keyword → (n : List ℕ) → HasEntity s (set.Simple id) n ↔ IsInSet s (simple_instance name at e) n
  simple_set id h is n = (
    λ k. ⊎_elim
        (λ (x : entity_name s id ≡ n). sets.named (inl (sym is ∙ x)) (subst (IsEntity s) x (is_entity s id h)))
        (λ (x : IsAncestor s (entity_name s id) n). sets.ancestor refl (inl refl) (subst (λ y. IsAncestor s y n) is x))
        k,
    back,
  ) where
    back : {m : List ℕ} → IsInSet s (simple_instance name at e) m → HasEntity s (set.Simple id) m
    back {m} (sets.named k j) = ⊎_elim (λ (x : e.keyword ≡ m). inl (is ∙ x)) (λ (x : ⊥). absurd x) k
    back {m} (sets.ancestor {k} a b d) = ⊎_elim (λ (x : e.keyword ≡ k). inr (subst (λ y. IsAncestor s y m) (sym (is ∙ x)) d)) (λ (x : ⊥). absurd x) b
