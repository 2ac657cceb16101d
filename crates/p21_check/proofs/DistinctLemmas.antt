-- Repeated references, parameter by parameter and record by record.
use Rattle.std.proofs.Common.{◌≡◌, ◌↔◌, ℕ, zero, suc, ◌<◌, ◌≤◌, true, false, List, Some, length, get_or, sym, subst, ◌∙◌, arith}
use Rattle.std.specs.Prelude.{slice_get}
use Rattle.std.proofs.lemmas.Bool.{false≢true}
use Rattle.p21_express.specs.Schema.{Schema, Expr}
use Rattle.p21_express.specs.WellFormed.{IsWellFormed, Origin}
use Rattle.p21_tree.specs.Tree.{Tree, Trees}
use Rattle.p21_tree.specs.Grammar.{Entry}
use Rattle.p21_tree.specs.Sentence.{Instance}
use Rattle.p21_tree.specs.Plain.{plain, plain_all}
use Rattle.p21_tree.specs.declared.params.Param.{Param}
use Rattle.p21_schema.specs.Declaration.{Declaration, Form, AreDeclarations}
use Rattle.p21_schema.specs.Declaration as form
use Rattle.p21_check.specs.Attributes.{AreAttributes}
use Rattle.p21_check.specs.EntitySet.{IsInSet}
use Rattle.p21_check.specs.Instances.{simple_instance, IsRepeatingAt}
use Rattle.p21_check.specs.LocalFault.{HasRepeatedReference, tree_get}
use Rattle.p21_check.specs.Repeats.{Repeats, RepeatsByForm, RepeatsInSlot}
use Rattle.p21_check.specs.Sets.{AnyIn, RepeatsCounting}
use Rattle.p21_check.proofs.AttributeLemmas.{one_list, param_there, param_below}
use Rattle.p21_check.proofs.SlotLemmas.{counts_same, counts_there, counts_among}

-- some declaration counts and has such a list, where the slot has
pub by_counting : (s : Schema) (S : List ℕ → Type 0) (o : Origin) (ds : List Declaration) → AreDeclarations s o ds → (t : Tree) → AnyIn ds (RepeatsCounting s S ds t) ↔ RepeatsInSlot s S o t
by_counting s S o ds are t = (
  λ h. record { declaration = h.0; counts = counts_there s S o ds are h.1 h.2.0; repeats = h.2.1 },
  λ r. let k = counts_among s S o ds are r.counts in (r.declaration, k.0, (k.1, r.repeats)),
)

module _ (s : Schema) (S : List ℕ → Type 0) (os : List Origin) (ps : List Param) where
  pub repeating_here : (i : ℕ) (d : Param) (o : Origin) → i < length ps → slice_get os i ≡ Some o → RepeatsInSlot s S o (plain (get_or ps i d)) → IsRepeatingAt s S os (plain_all ps) i
  repeating_here i d o h e this = (o, plain (get_or ps i d), e, param_there ps i d h, this)

  pub not_repeating_here : (i : ℕ) (d : Param) (o : Origin) → i < length ps → slice_get os i ≡ Some o → ¬ (RepeatsInSlot s S o (plain (get_or ps i d))) → ¬ (IsRepeatingAt s S os (plain_all ps) i)
  not_repeating_here i d o h e none u =
      let a : Some o ≡ Some u.0 = sym e ∙ u.2 in
      let b : Some (plain (get_or ps i d)) ≡ Some u.1 = sym (param_there ps i d h) ∙ u.3 in
      let o_is : u.0 ≡ o = cc in
      let t_is : u.1 ≡ plain (get_or ps i d) = cc in
      none (subst (λ x. RepeatsInSlot s S x (plain (get_or ps i d))) o_is (subst (RepeatsInSlot s S u.0) t_is u.4))

  pub none_repeating_behind : (b : ℕ) → length ps ≤ b → ¬ (IsRepeatingAt s S os (plain_all ps) b)
  none_repeating_behind b h u = let less = param_below ps b u.1 u.3 in absurd (omega arith)

-- a parameter that has no lists repeats none
in_no_form : (s : Schema) (t : Tree) (f : Form) → ((x : Expr) → ¬ (Repeats s x t)) → ¬ (RepeatsByForm s t f)
in_no_form s t form.derived none h = h
in_no_form s t (form.explicit o x) none h = none x h

pub no_list_in_slot : (s : Schema) (S : List ℕ → Type 0) (o : Origin) (t : Tree) → ((x : Expr) → ¬ (Repeats s x t)) → ¬ (RepeatsInSlot s S o t)
no_list_in_slot s S o t none r = in_no_form s t r.declaration.form none r.repeats

-- two sets with the same entities
repeats_along : (s : Schema) (A B : List ℕ → Type 0) (o : Origin) → ((n : List ℕ) → A n ↔ B n) → {t : Tree} → RepeatsInSlot s A o t → RepeatsInSlot s B o t
repeats_along s A B o h r = record { declaration = r.declaration; counts = counts_same s A B o r.declaration h r.counts; repeats = r.repeats }

pub repeating_along : (s : Schema) (A B : List ℕ → Type 0) (os : List Origin) (ts : Trees) (a : ℕ) → ((n : List ℕ) → A n ↔ B n) → IsRepeatingAt s A os ts a → IsRepeatingAt s B os ts a
repeating_along s A B os ts a h u = (u.0, u.1, u.2, u.3, repeats_along s A B u.0 h u.4)

-- where the rules do not ask for it there is none
pub unruled : (s : Schema) (i : Instance) (q b : ℕ) → s.distinct ≡ false → ¬ (HasRepeatedReference s i q b)
unruled s i q b e h = false≢true (sym e ∙ h.ruled)

-- one record
module _ (s : Schema) (w : IsWellFormed s) (i : Instance) (r : ℕ) (e : Entry) (there : slice_get i.records r ≡ Some e) (os : List Origin) (are : AreAttributes s i.complex e.keyword os) where
  same : (f : Entry) → slice_get i.records r ≡ Some f → e ≡ f
  same f h = let k : Some e ≡ Some f = sym there ∙ h in cc

  pub repeated_at : s.distinct ≡ true → (a : ℕ) → IsRepeatingAt s (IsInSet s i) os e.params a → HasRepeatedReference s i r a
  repeated_at ruled a u = record { entry = e; attributes = os; attribute = u.0; parameter = u.1; ruled = ruled; there = there; are = are; for_ = u.2; given = u.3; repeats = u.4 }

  pub repeating_at : (a : ℕ) → HasRepeatedReference s i r a → IsRepeatingAt s (IsInSet s i) os e.params a
  repeating_at a x =
      let f = same x.entry x.there in
      let l : x.attributes ≡ os = one_list s w (subst (λ (y : Entry). AreAttributes s i.complex y.keyword x.attributes) (sym f) x.are) are in
      (x.attribute, x.parameter, subst (λ y. slice_get y a ≡ Some x.attribute) l x.for_, subst (λ (y : Entry). tree_get y.params a ≡ Some x.parameter) (sym f) x.given, x.repeats)

pub simple_distinct : (s : Schema) (name at : ℕ) (e : Entry) → ((a : ℕ) → ¬ (HasRepeatedReference s (simple_instance name at e) 0 a)) → (q a : ℕ) → ¬ (HasRepeatedReference s (simple_instance name at e) q a)
simple_distinct s name at e h zero a x = h a x
simple_distinct s name at e h (suc q) a x = let k = x.there in cc
