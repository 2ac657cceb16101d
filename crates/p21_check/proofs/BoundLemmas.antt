-- What binds an attribute, and what its slot takes.
use Rattle.std.proofs.Common.{◌≡◌, ◌⊎◌, ◌↔◌, ⊎_elim, inl, inr, ℕ, List, [], ◌∷◌, ◌++◌, refl, sym, subst}
use Rattle.p21_express.specs.Schema.{Schema}
use Rattle.p21_express.specs.WellFormed.{IsIn, IsAncestor, IsWellFormed, Leads, Origin}
use Rattle.p21_tree.specs.Tree.{Tree}
use Rattle.p21_tree.specs.Tree as tree
use Rattle.p21_schema.specs.Declaration.{Declaration, Form, AreDeclarations, IsResolvedDeclaration, IsResolvedForm}
use Rattle.p21_schema.specs.Declaration as form
use Rattle.p21_schema.specs.Place.{entity_name}
use Rattle.p21_schema.specs.declared.declarations.Declaration.{Declaration as Coded}
use Rattle.p21_schema.specs.declared.declarations.Form.{Form as CodedForm}
use Rattle.p21_schema.specs.declared.declarations.Form.TheVariants as coded
use Rattle.p21_check.specs.declared.binding.Binding.{Binding}
use Rattle.p21_check.specs.declared.binding.Binding.TheVariants as binding
use Rattle.p21_check.specs.Asked.{AskedBy, RefersByForm}
use Rattle.p21_check.specs.Bound.{IsBound, IsLowest, IsNoneIn}
use Rattle.p21_check.specs.References.{Reference}
use Rattle.p21_check.specs.Repeats.{RepeatsByForm, RepeatsInSlot}
use Rattle.p21_check.specs.Sets.{AnyIn, CountsAmong, Derives, EachIn, FitsCounting, FitsForm}
use Rattle.p21_check.specs.Slot.{FitsSlot}
use Rattle.p21_check.proofs.AnyLemmas.{in_both}
use Rattle.p21_check.proofs.SlotLemmas.{counts_among, counts_there, derived_among, derived_there, fits_by_each, fits_derived}
use Rattle.p21_check.proofs.Tests.{both}

-- one way after another
lead_on : {X : Type 0} {Step : X → X → Type 0} {a b c : X} → Leads Step a b → Leads Step b c → Leads Step a c
lead_on (Leads.one h) k = Leads.more h k
lead_on (Leads.more h j) k = Leads.more h (lead_on j k)

-- what the code's declarations say of the plain ones
pub explicit_there : (s : Schema) (c : CodedForm) (f : Form) → IsResolvedForm s c f → ¬ (c ≡ coded.Derived) → ¬ (f ≡ form.derived)
explicit_there s coded.Derived f r other e = other refl
explicit_there s (coded.Explicit o x) form.derived r other e = r
explicit_there s (coded.Explicit o x) (form.explicit p y) r other e = cc

pub ancestor_there : (s : Schema) (a b : Coded) (d l : Declaration) → IsResolvedDeclaration s a d → IsResolvedDeclaration s b l → IsAncestor s (entity_name s a.entity) (entity_name s b.entity) → IsAncestor s d.entity l.entity
ancestor_there s a b d l r q h = subst (λ (n : List ℕ). IsAncestor s n l.entity) r.entity (subst (IsAncestor s (entity_name s a.entity)) q.entity h)

-- ---- one declaration more

module _ (s : Schema) (S : List ℕ → Type 0) (ds : List Declaration) (d : Declaration) where
  pub new : IsIn (ds ++ d ∷ []) d
  new = (in_both ds (d ∷ []) d).1 (inr (inl refl))

  old : (x : Declaration) → IsIn ds x → IsIn (ds ++ d ∷ []) x
  old x i = (in_both ds (d ∷ []) x).1 (inl i)

  old_or_new : (x : Declaration) → IsIn (ds ++ d ∷ []) x → IsIn ds x ⊎ (d ≡ x)
  old_or_new x h = ⊎_elim (λ (i : IsIn ds x). inl i) (λ (i : IsIn (d ∷ []) x). ⊎_elim (λ (e : d ≡ x). inr e) (λ (z : ⊥). absurd z) i) ((in_both ds (d ∷ []) x).0 h)

  pub still_derived : AnyIn ds (Derives S) → AnyIn (ds ++ d ∷ []) (Derives S)
  still_derived a = (a.0, old a.0 a.1, a.2)

  pub none_derived : ¬ (AnyIn ds (Derives S)) → ¬ (Derives S d) → ¬ (AnyIn (ds ++ d ∷ []) (Derives S))
  none_derived none this a = ⊎_elim (λ (i : IsIn ds a.0). none (a.0, i, a.2)) (λ (e : d ≡ a.0). this (subst (Derives S) (sym e) a.2)) (old_or_new a.0 a.1)

  -- it is by no entity of the set
  outside : ¬ (S d.entity) → (x : Declaration) → IsIn (ds ++ d ∷ []) x → S x.entity → IsIn ds x
  outside out x i by = ⊎_elim (λ (j : IsIn ds x). j) (λ (e : d ≡ x). absurd (out (subst (λ (y : Declaration). S y.entity) (sym e) by))) (old_or_new x i)

  pub passed_over : ¬ (S d.entity) → (b : Binding) → IsBound s S ds b → IsBound s S (ds ++ d ∷ []) b
  passed_over out binding.Derived h = still_derived h
  passed_over out (binding.By c) h =
      let l = h.1.1 in
      (h.0, (h.1.0, record { among = old h.0 l.among; by = l.by; explicit = none_derived l.explicit (λ k. out k.0); above = λ x i by. l.above x (outside out x i by) by }))
  passed_over out binding.Free h = λ x i by. h x (outside out x i by) by
  passed_over out binding.Unsaid h = none_derived h (λ k. out k.0)

  -- it is by one, and explicit
  module _ (by : S d.entity) (explicit : ¬ (d.form ≡ form.derived)) where
    pub first : IsNoneIn S ds → IsLowest s S (ds ++ d ∷ []) d
    first none = record {
      among = new;
      by = by;
      explicit = none_derived (λ k. none k.0 k.1 k.2.0) (λ k. explicit k.1);
      above = λ x i in_set. ⊎_elim (λ (j : IsIn ds x). absurd (none x j in_set)) (λ (e : d ≡ x). inl e) (old_or_new x i);
    }

    module _ (l : Declaration) (low : IsLowest s S ds l) where
      pub lower : IsAncestor s d.entity l.entity → IsLowest s S (ds ++ d ∷ []) d
      lower up = record {
        among = new;
        by = by;
        explicit = none_derived low.explicit (λ k. explicit k.1);
        above = λ x i in_set. ⊎_elim
            (λ (j : IsIn ds x). ⊎_elim
            (λ (e : l ≡ x). inr (subst (λ (y : Declaration). IsAncestor s d.entity y.entity) e up))
            (λ (k : IsAncestor s l.entity x.entity). inr (lead_on up k))
            (low.above x j in_set))
            (λ (e : d ≡ x). inl e)
            (old_or_new x i);
      }

      pub higher : IsAncestor s l.entity d.entity → IsLowest s S (ds ++ d ∷ []) l
      higher up = record {
        among = old l low.among;
        by = low.by;
        explicit = none_derived low.explicit (λ k. explicit k.1);
        above = λ x i in_set. ⊎_elim (λ (j : IsIn ds x). low.above x j in_set) (λ (e : d ≡ x). inr (subst (λ (y : Declaration). IsAncestor s l.entity y.entity) e up)) (old_or_new x i);
      }

-- ---- the lowest declaration

module _ (s : Schema) (well : IsWellFormed s) (S : List ℕ → Type 0) (o : Origin) (ds : List Declaration) (are : AreDeclarations s o ds) (d : Declaration) (low : IsLowest s S ds d) where
  not_again : (other : Declaration) → (d ≡ other) ⊎ IsAncestor s d.entity other.entity → ¬ (IsAncestor s other.entity d.entity)
  not_again other (inl e) k = well.cycles.entities d.entity (subst (λ (x : Declaration). IsAncestor s x.entity d.entity) (sym e) k)
  not_again other (inr h) k = well.cycles.entities d.entity (lead_on h k)

  counts : CountsAmong s S ds d
  counts = (low.by, low.explicit, λ k. not_again k.0 (low.above k.0 k.1 k.2.0) k.2.1)

  alone : (other : Declaration) → IsIn ds other → CountsAmong s S ds other → d ≡ other
  alone other among c = ⊎_elim (λ (e : d ≡ other). e) (λ (h : IsAncestor s d.entity other.entity). absurd (c.2 (d, low.among, (low.by, h)))) (low.above other among c.0)

  fits_alone : (t : Tree) → FitsForm s t d.form ↔ EachIn ds (FitsCounting s S ds t)
  fits_alone t = (λ h x among c. subst (λ (y : Declaration). FitsForm s t y.form) (alone x among c) h, λ each. each d low.among counts)

  pub lowest_fits : (t : Tree) → FitsForm s t d.form ↔ FitsSlot s S o t
  lowest_fits t = both (fits_alone t) (fits_by_each s S o ds are t (λ h. low.explicit (derived_among s S o ds are h)))

  pub lowest_asks : (p : Tree) (place : ℕ) (r : Reference) → AskedBy s S o p place r ↔ RefersByForm s d.form p place r
  lowest_asks p place r = (
    λ a. let k = counts_among s S o ds are a.counts in subst (λ (y : Declaration). RefersByForm s y.form p place r) (sym (alone a.declaration k.0 k.1)) a.refers,
    λ h. record { declaration = d; counts = counts_there s S o ds are low.among counts; refers = h },
  )

  pub lowest_repeats : (t : Tree) → RepeatsByForm s t d.form ↔ RepeatsInSlot s S o t
  lowest_repeats t = (
    λ h. record { declaration = d; counts = counts_there s S o ds are low.among counts; repeats = h },
    λ a. let k = counts_among s S o ds are a.counts in subst (λ (y : Declaration). RepeatsByForm s t y.form) (sym (alone a.declaration k.0 k.1)) a.repeats,
  )

-- ---- one in DERIVE, and none

module _ (s : Schema) (S : List ℕ → Type 0) (o : Origin) (ds : List Declaration) (are : AreDeclarations s o ds) where
  pub derived_fits : AnyIn ds (Derives S) → (t : Tree) → (t ≡ tree.derived) ↔ FitsSlot s S o t
  derived_fits h t = fits_derived s S o ds are t (derived_there s S o ds are h)

  pub none_fits : IsNoneIn S ds → (t : Tree) → FitsSlot s S o t
  none_fits none t = (fits_by_each s S o ds are t (λ h. let k = derived_among s S o ds are h in none k.0 k.1 k.2.0)).0 (λ x among counts. absurd (none x among counts.0))
