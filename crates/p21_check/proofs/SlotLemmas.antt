-- The declarations of an attribute, one by one, and what they make of its slot.
use Rattle.std.proofs.Common.{◌≡◌, ◌⊎◌, ◌↔◌, ⊎_elim, inl, inr, ℕ, ◌+◌, ◌<◌, ◌≤◌, Bool, true, List, [], ◌∷◌, length, get_or, take, drop, refl, sym, ap, subst, arith}
use Rattle.std.proofs.lemmas.List.{take_all}
use Rattle.p21_express.specs.Schema.{Schema, Expr}
use Rattle.p21_express.specs.WellFormed.{IsIn, Origin}
use Rattle.p21_tree.specs.Tree.{Tree}
use Rattle.p21_tree.specs.Tree as tree
use Rattle.p21_schema.specs.declared.declarations.Declaration.{Declaration as Coded}
use Rattle.p21_schema.specs.declared.declarations.Form.TheVariants as coded
use Rattle.p21_schema.specs.declared.resolved.ResolvedExpr.{ResolvedExpr}
use Rattle.p21_schema.specs.Declaration.{Declaration, Form, AreDeclarations, AreResolvedIn, IsResolvedDeclaration, IsResolvedForm, Chosen}
use Rattle.p21_schema.specs.Declaration as form
use Rattle.p21_check.specs.Conforms.{Conforms}
use Rattle.p21_check.specs.Conforms as conforms
use Rattle.p21_check.specs.Known.{IsExpr}
use Rattle.p21_check.specs.Slot.{DeclaresIn, IsDerived, Counts, FitsSlot, IsOptional, ConformsToForm}
use Rattle.p21_check.specs.Slot as slot
use Rattle.p21_check.specs.Sets.{AnyIn, Derives, EachIn, CountsAmong, FitsForm, FitsCounting}
use Rattle.p21_check.proofs.AnyLemmas.{any_here, any_further, any_nowhere, each_further, each_stops, each_done, zip_at, zip_length}

-- ---- the code's declarations and the plain ones

abbrev pub no_declaration : Declaration
no_declaration = record { entity = []; form = form.derived }

module _ (s : Schema) (cs : List Coded) (ds : List Declaration) (z : AreResolvedIn s cs ds) (i : ℕ) (c : Coded) (less : i < length cs) (is : c ≡ get_or cs i c) where
  pub resolved_at : IsResolvedDeclaration s c (get_or ds i no_declaration)
  resolved_at = subst (λ (x : Coded). IsResolvedDeclaration s x (get_or ds i no_declaration)) (sym is) (zip_at (IsResolvedDeclaration s) cs ds i c no_declaration z less)

  pub below : i < length ds
  below = let e = zip_length (IsResolvedDeclaration s) cs ds z in omega arith

  pub found_at : (P : Declaration → Type 0) → P (get_or ds i no_declaration) → AnyIn (drop i ds) P ↔ AnyIn ds P → AnyIn ds P
  found_at P = any_here P ds i no_declaration below

  pub further_on : (P : Declaration → Type 0) → ¬ (P (get_or ds i no_declaration)) → AnyIn (drop i ds) P ↔ AnyIn ds P → AnyIn (drop (i + 1) ds) P ↔ AnyIn ds P
  further_on P = any_further P ds i no_declaration below

module _ (s : Schema) (cs : List Coded) (ds : List Declaration) (z : AreResolvedIn s cs ds) (i : ℕ) (less : i < length cs) (P : Declaration → Type 0) where
  within : i < length ds
  within = let e = zip_length (IsResolvedDeclaration s) cs ds z in omega arith

  pub stops_at : ¬ (P (get_or ds i no_declaration)) → EachIn (drop i ds) P ↔ EachIn ds P → ¬ (EachIn ds P)
  stops_at = each_stops P ds i no_declaration within

  pub goes_on : P (get_or ds i no_declaration) → EachIn (drop i ds) P ↔ EachIn ds P → EachIn (drop (i + 1) ds) P ↔ EachIn ds P
  goes_on = each_further P ds i no_declaration within

pub all_done : (s : Schema) (cs : List Coded) (ds : List Declaration) → AreResolvedIn s cs ds → (i : ℕ) → length cs ≤ i → (P : Declaration → Type 0) → EachIn (drop i ds) P ↔ EachIn ds P → EachIn ds P
all_done s cs ds z i end P = each_done P ds i (let e = zip_length (IsResolvedDeclaration s) cs ds z in omega arith)

pub none_found : (s : Schema) (cs : List Coded) (ds : List Declaration) → AreResolvedIn s cs ds → (i : ℕ) → length cs ≤ i → (P : Declaration → Type 0) → AnyIn (drop i ds) P ↔ AnyIn ds P → ¬ (AnyIn ds P)
none_found s cs ds z i end P = any_nowhere P ds i (let e = zip_length (IsResolvedDeclaration s) cs ds z in omega arith)

pub whole : (s : Schema) (cs : List Coded) (ds : List Declaration) → AreResolvedIn s cs ds → (i : ℕ) → length cs ≤ i → take i ds ≡ ds
whole s cs ds z i end = take_all i ds (let e = zip_length (IsResolvedDeclaration s) cs ds z in omega arith)

pub derived_form : (s : Schema) (f : Form) → IsResolvedForm s coded.Derived f → f ≡ form.derived
derived_form s form.derived h = refl
derived_form s (form.explicit o e) h = absurd h

pub explicit_form : (s : Schema) (o : Bool) (x : ResolvedExpr) (f : Form) → IsResolvedForm s (coded.Explicit o x) f → (e : Expr) × (f ≡ form.explicit o e) × IsExpr s x e
explicit_form s o x form.derived h = absurd h
explicit_form s o x (form.explicit p e) h = (e, ap (λ q. form.explicit q e) (sym h.0), h.1.0)

-- ---- the plain declarations and the slot

module _ {X Y : Type 0} {W : X → Type 0} {f : X → Y} where
  chosen_once : {xs : List X} {ys zs : List Y} → Chosen W f xs ys → Chosen W f xs zs → ys ≡ zs
  chosen_once form.none form.none = refl
  chosen_once (form.kept {x} h a) (form.kept k b) = ap (λ l. f x ∷ l) (chosen_once a b)
  chosen_once (form.kept h a) (form.dropped k b) = absurd (k h)
  chosen_once (form.dropped h a) (form.kept k b) = absurd (h k)
  chosen_once (form.dropped h a) (form.dropped k b) = chosen_once a b

-- nothing conforms by being left out
absent_never : {s : Schema} {e : Expr} {t : Tree} → Conforms s e t → ¬ (t ≡ tree.absent)
absent_never conforms.integer f = cc
absent_never conforms.real f = cc
absent_never conforms.number_integer f = cc
absent_never conforms.number_real f = cc
absent_never (conforms.boolean h) f = cc
absent_never (conforms.logical h) f = cc
absent_never (conforms.string h) f = cc
absent_never (conforms.binary h) f = cc
absent_never (conforms.aggregate h k) f = cc
absent_never (conforms.enumeration t a b c h) f = cc
absent_never (conforms.defined t a b c h) f = absent_never h f
absent_never (conforms.entity h) f = cc
absent_never (conforms.select_entity h k) f = cc
absent_never (conforms.select_type h k j) f = cc

is_absent_or : (t : Tree) → (t ≡ tree.absent) ⊎ ¬ (t ≡ tree.absent)
is_absent_or tree.absent = inl refl
is_absent_or tree.derived = inr (λ f. cc)
is_absent_or (tree.int v) = inr (λ f. cc)
is_absent_or (tree.real v) = inr (λ f. cc)
is_absent_or (tree.str v) = inr (λ f. cc)
is_absent_or (tree.enumeration v) = inr (λ f. cc)
is_absent_or (tree.binary v) = inr (λ f. cc)
is_absent_or (tree.reference n) = inr (λ f. cc)
is_absent_or (tree.items ts) = inr (λ f. cc)
is_absent_or (tree.typed k t) = inr (λ f. cc)

optional_form : (s : Schema) (t : Tree) (f : Form) → t ≡ tree.absent → FitsForm s t f → IsOptional f
optional_form s t form.derived e h = h
optional_form s t (form.explicit o x) e h = ⊎_elim (λ (a : (o ≡ true) × (t ≡ tree.absent)). a.0) (λ (b : Conforms s x t). absurd (absent_never b e)) h

form_optional : (s : Schema) (t : Tree) (f : Form) → t ≡ tree.absent → IsOptional f → FitsForm s t f
form_optional s t form.derived e h = h
form_optional s t (form.explicit o x) e h = inl (h, e)

conforming_form : (s : Schema) (t : Tree) (f : Form) → ¬ (t ≡ tree.absent) → FitsForm s t f → ConformsToForm s t f
conforming_form s t form.derived e h = h
conforming_form s t (form.explicit o x) e h = ⊎_elim (λ (a : (o ≡ true) × (t ≡ tree.absent)). absurd (e a.1)) (λ (b : Conforms s x t). b) h

form_conforming : (s : Schema) (t : Tree) (f : Form) → ConformsToForm s t f → FitsForm s t f
form_conforming s t form.derived h = h
form_conforming s t (form.explicit o x) h = inr h

-- two sets with the same entities
module _ (s : Schema) (S T : List ℕ → Type 0) (o : Origin) where
  declares_same : (d : Declaration) → ((n : List ℕ) → S n → T n) → DeclaresIn s S o d → DeclaresIn s T o d
  declares_same d f h = record { all = h.all; are = h.are; among = h.among; by = f d.entity h.by }

  pub derived_same : ((n : List ℕ) → S n → T n) → IsDerived s S o → IsDerived s T o
  derived_same f h = record { declaration = h.declaration; declares = declares_same h.declaration f h.declares; derives = h.derives }

pub counts_same : (s : Schema) (S T : List ℕ → Type 0) (o : Origin) (d : Declaration) → ((n : List ℕ) → S n ↔ T n) → Counts s S o d → Counts s T o d
counts_same s S T o d f h = record {
  declares = declares_same s S T o d (λ n. (f n).0) h.declares;
  not_derived = λ k. h.not_derived (derived_same s T S o (λ n. (f n).1) k);
  last = λ other k. h.last other (declares_same s T S o other (λ n. (f n).1) k);
}

module _ (s : Schema) (S : List ℕ → Type 0) (o : Origin) (ds : List Declaration) (are : AreDeclarations s o ds) where
  among : {d : Declaration} → DeclaresIn s S o d → IsIn ds d
  among {d} h = subst (λ l. IsIn l d) (chosen_once h.are are) h.among

  declared : {d : Declaration} → IsIn ds d → S d.entity → DeclaresIn s S o d
  declared h k = record { all = ds; are = are; among = h; by = k }

  pub derived_there : AnyIn ds (Derives S) → IsDerived s S o
  derived_there h = record { declaration = h.0; declares = declared h.1 h.2.0; derives = h.2.1 }

  pub derived_among : IsDerived s S o → AnyIn ds (Derives S)
  derived_among h = (h.declaration, among h.declares, (h.declares.by, h.derives))

  pub counts_there : {d : Declaration} → IsIn ds d → CountsAmong s S ds d → Counts s S o d
  counts_there h k = record { declares = declared h k.0; not_derived = λ x. k.1 (derived_among x); last = λ other j a. k.2 (other, among j, (j.by, a)) }

  pub counts_among : {d : Declaration} → Counts s S o d → IsIn ds d × CountsAmong s S ds d
  counts_among h = (among h.declares, (h.declares.by, λ k. h.not_derived (derived_there k), λ k. h.last k.0 (declared k.1 k.2.0) k.2.1))

  -- a derived attribute takes `*` alone
  fits_derived_back : {t : Tree} → IsDerived s S o → FitsSlot s S o t → t ≡ tree.derived
  fits_derived_back h (slot.derived k) = refl
  fits_derived_back h (slot.absent k j) = absurd (k h)
  fits_derived_back h (slot.given k j) = absurd (k h)

  pub fits_derived : (t : Tree) → IsDerived s S o → (t ≡ tree.derived) ↔ FitsSlot s S o t
  fits_derived t h = (λ e. subst (FitsSlot s S o) (sym e) (slot.derived h), fits_derived_back h)

  -- another takes what fits each declaration that counts
  fits_back : {t : Tree} → ¬ (IsDerived s S o) → FitsSlot s S o t → (d : Declaration) → IsIn ds d → CountsAmong s S ds d → FitsForm s t d.form
  fits_back h (slot.derived k) = absurd (h k)
  fits_back h (slot.absent k j) = λ d a b. form_optional s tree.absent d.form refl (j d (counts_there a b))
  fits_back {t} h (slot.given k j) = λ d a b. form_conforming s t d.form (j d (counts_there a b))

  fits_there : {t : Tree} → ¬ (IsDerived s S o) → ((d : Declaration) → IsIn ds d → CountsAmong s S ds d → FitsForm s t d.form) → FitsSlot s S o t
  fits_there {t} h f =
      ⊎_elim
      (λ (e : t ≡ tree.absent). subst (FitsSlot s S o) (sym e) (slot.absent h (λ d k. let a = counts_among k in optional_form s t d.form e (f d a.0 a.1))))
      (λ (e : ¬ (t ≡ tree.absent)). slot.given h (λ d k. let a = counts_among k in conforming_form s t d.form e (f d a.0 a.1)))
      (is_absent_or t)

  pub fits_by_each : (t : Tree) → ¬ (IsDerived s S o) → EachIn ds (FitsCounting s S ds t) ↔ FitsSlot s S o t
  fits_by_each t h = (λ k. fits_there h k, λ k. fits_back h k)
