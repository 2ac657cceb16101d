-- The declarations of an attribute, one by one, and which of them count.
use Rattle.std.proofs.Common.{◌≡◌, ◌↔◌, ⊎_elim, inl, inr, ℕ, zero, suc, ◌+◌, ◌<◌, ◌≤◌, Bool, List, [], ◌∷◌, length, get_or, drop, refl, sym, ap, subst, arith}
use Rattle.std.specs.List.{AllZip}
use Rattle.std.proofs.lemmas.List.{drop_more, drop_all}
use Rattle.p21_express.specs.Schema.{Schema, Expr}
use Rattle.p21_express.specs.WellFormed.{IsIn, Origin}
use Rattle.p21_schema.specs.declared.declarations.Declaration.{Declaration as Coded}
use Rattle.p21_schema.specs.declared.declarations.Form.TheVariants as coded
use Rattle.p21_schema.specs.declared.resolved.ResolvedExpr.{ResolvedExpr}
use Rattle.p21_schema.specs.Declaration.{Declaration, Form, AreDeclarations, AreResolvedIn, IsResolvedDeclaration, IsResolvedForm, Chosen}
use Rattle.p21_schema.specs.Declaration as form
use Rattle.p21_check.specs.Known.{IsExpr}
use Rattle.p21_check.specs.Slot.{DeclaresIn, IsDerived, Counts}
use Rattle.p21_check.specs.Sets.{AnyIn, Derives, EachIn, CountsAmong}
use Rattle.p21_rules.specs.Slots.{no_declaration}

-- ---- elements one by one

module _ {X : Type 0} (P : X → Type 0) (xs : List X) where
  pub any_here : (i : ℕ) (d : X) → i < length xs → P (get_or xs i d) → AnyIn (drop i xs) P ↔ AnyIn xs P → AnyIn xs P
  any_here i d h this left = left.0 (get_or xs i d, subst (λ l. IsIn l (get_or xs i d)) (sym (drop_more xs i d h)) (inl refl), this)

  pub any_further : (i : ℕ) (d : X) → i < length xs → ¬ (P (get_or xs i d)) → AnyIn (drop i xs) P ↔ AnyIn xs P → AnyIn (drop (i + 1) xs) P ↔ AnyIn xs P
  any_further i d h this left = (
    λ k. left.0 (k.0, subst (λ l. IsIn l k.0) (sym (drop_more xs i d h)) (inr k.1), k.2),
    λ k. let found = left.1 k in
        ⊎_elim
        (λ (g : get_or xs i d ≡ found.0). absurd (this (subst P (sym g) found.2)))
        (λ (g : IsIn (drop (i + 1) xs) found.0). (found.0, g, found.2))
        (subst (λ l. IsIn l found.0) (drop_more xs i d h) found.1),
  )

  pub any_nowhere : (i : ℕ) → length xs ≤ i → AnyIn (drop i xs) P ↔ AnyIn xs P → ¬ (AnyIn xs P)
  any_nowhere i h left k = let found = left.1 k in subst (λ l. IsIn l found.0) (drop_all i xs h) found.1

module _ {X : Type 0} (P : X → Type 0) (xs : List X) where
  pub each_further : (i : ℕ) (d : X) → i < length xs → P (get_or xs i d) → EachIn (drop i xs) P ↔ EachIn xs P → EachIn (drop (i + 1) xs) P ↔ EachIn xs P
  each_further i d h this left = (
    λ k. left.0 (λ x j. ⊎_elim (λ (g : get_or xs i d ≡ x). subst P g this) (λ (g : IsIn (drop (i + 1) xs) x). k x g) (subst (λ l. IsIn l x) (drop_more xs i d h) j)),
    λ k x j. left.1 k x (subst (λ l. IsIn l x) (sym (drop_more xs i d h)) (inr j)),
  )

  pub each_stops : (i : ℕ) (d : X) → i < length xs → ¬ (P (get_or xs i d)) → EachIn (drop i xs) P ↔ EachIn xs P → ¬ (EachIn xs P)
  each_stops i d h this left k = this (left.1 k (get_or xs i d) (subst (λ l. IsIn l (get_or xs i d)) (sym (drop_more xs i d h)) (inl refl)))

  pub each_done : (i : ℕ) → length xs ≤ i → EachIn (drop i xs) P ↔ EachIn xs P → EachIn xs P
  each_done i h left = left.0 (λ x j. absurd (subst (λ l. IsIn l x) (drop_all i xs h) j))

pub zip_at : {A B : Type 0} (R : A → B → Type 0) (xs : List A) (ys : List B) (i : ℕ) (x : A) (y : B) → AllZip R xs ys → i < length xs → R (get_or xs i x) (get_or ys i y)
zip_at R [] [] i x y z h = absurd (omega arith)
zip_at R [] (b ∷ ys) i x y z h = absurd z
zip_at R (a ∷ xs) [] i x y z h = absurd z
zip_at R (a ∷ xs) (b ∷ ys) zero x y z h = z.0
zip_at R (a ∷ xs) (b ∷ ys) (suc i) x y z h = zip_at R xs ys i x y z.1 (omega arith)

pub zip_length : {A B : Type 0} (R : A → B → Type 0) (xs : List A) (ys : List B) → AllZip R xs ys → length xs ≡ length ys
zip_length R [] [] z = refl
zip_length R [] (b ∷ ys) z = absurd z
zip_length R (a ∷ xs) [] z = absurd z
zip_length R (a ∷ xs) (b ∷ ys) z = ap suc (zip_length R xs ys z.1)

-- ---- the code's declarations and the plain ones

module _ (s : Schema) (cs : List Coded) (ds : List Declaration) (z : AreResolvedIn s cs ds) (i : ℕ) (c : Coded) (less : i < length cs) (is : c ≡ get_or cs i c) where
  pub resolved_at : IsResolvedDeclaration s c (get_or ds i no_declaration)
  resolved_at = subst (λ (x : Coded). IsResolvedDeclaration s x (get_or ds i no_declaration)) (sym is) (zip_at (IsResolvedDeclaration s) cs ds i c no_declaration z less)

  pub below : i < length ds
  below = let e = zip_length (IsResolvedDeclaration s) cs ds z in omega arith

  pub found_at : (P : Declaration → Type 0) → P (get_or ds i no_declaration) → AnyIn (drop i ds) P ↔ AnyIn ds P → AnyIn ds P
  found_at P = any_here P ds i no_declaration below

  pub further_on : (P : Declaration → Type 0) → ¬ (P (get_or ds i no_declaration)) → AnyIn (drop i ds) P ↔ AnyIn ds P → AnyIn (drop (i + 1) ds) P ↔ AnyIn ds P
  further_on P = any_further P ds i no_declaration below

module _ (s : Schema) (cs : List Coded) (ds : List Declaration) (z : AreResolvedIn s cs ds) (i : ℕ) (less : i < length cs) (P : Declaration → Type 0) where
  within : i < length ds
  within = let e = zip_length (IsResolvedDeclaration s) cs ds z in omega arith

  pub stops_at : ¬ (P (get_or ds i no_declaration)) → EachIn (drop i ds) P ↔ EachIn ds P → ¬ (EachIn ds P)
  stops_at = each_stops P ds i no_declaration within

  pub goes_on : P (get_or ds i no_declaration) → EachIn (drop i ds) P ↔ EachIn ds P → EachIn (drop (i + 1) ds) P ↔ EachIn ds P
  goes_on = each_further P ds i no_declaration within

pub all_done : (s : Schema) (cs : List Coded) (ds : List Declaration) → AreResolvedIn s cs ds → (i : ℕ) → length cs ≤ i → (P : Declaration → Type 0) → EachIn (drop i ds) P ↔ EachIn ds P → EachIn ds P
all_done s cs ds z i end P = each_done P ds i (let e = zip_length (IsResolvedDeclaration s) cs ds z in omega arith)

pub none_found : (s : Schema) (cs : List Coded) (ds : List Declaration) → AreResolvedIn s cs ds → (i : ℕ) → length cs ≤ i → (P : Declaration → Type 0) → AnyIn (drop i ds) P ↔ AnyIn ds P → ¬ (AnyIn ds P)
none_found s cs ds z i end P = any_nowhere P ds i (let e = zip_length (IsResolvedDeclaration s) cs ds z in omega arith)

pub back_below : (s : Schema) (cs : List Coded) (ds : List Declaration) → AreResolvedIn s cs ds → (i : ℕ) → i < length ds → i < length cs
back_below s cs ds z i less = let e = zip_length (IsResolvedDeclaration s) cs ds z in omega arith

-- the form of the declaration at a place
pub form_at : (s : Schema) (cs : List Coded) (ds : List Declaration) → AreResolvedIn s cs ds → (i : ℕ) (c : Coded) → i < length ds → IsResolvedForm s (get_or cs i c).form (get_or ds i no_declaration).form
form_at s cs ds z i c less = (zip_at (IsResolvedDeclaration s) cs ds i c no_declaration z (back_below s cs ds z i less)).form

pub derived_form : (s : Schema) (f : Form) → IsResolvedForm s coded.Derived f → f ≡ form.derived
derived_form s form.derived h = refl
derived_form s (form.explicit o e) h = absurd h

pub explicit_form : (s : Schema) (o : Bool) (x : ResolvedExpr) (f : Form) → IsResolvedForm s (coded.Explicit o x) f → (e : Expr) × (f ≡ form.explicit o e) × IsExpr s x e
explicit_form s o x form.derived h = absurd h
explicit_form s o x (form.explicit p e) h = (e, ap (λ q. form.explicit q e) (sym h.0), h.1.0)

-- ---- the declarations that count

module _ {X Y : Type 0} {W : X → Type 0} {f : X → Y} where
  chosen_once : {xs : List X} {ys zs : List Y} → Chosen W f xs ys → Chosen W f xs zs → ys ≡ zs
  chosen_once form.none form.none = refl
  chosen_once (form.kept {x} h a) (form.kept k b) = ap (λ l. f x ∷ l) (chosen_once a b)
  chosen_once (form.kept h a) (form.dropped k b) = absurd (k h)
  chosen_once (form.dropped h a) (form.kept k b) = absurd (h k)
  chosen_once (form.dropped h a) (form.dropped k b) = chosen_once a b

module _ (s : Schema) (S : List ℕ → Type 0) (o : Origin) (ds : List Declaration) (are : AreDeclarations s o ds) where
  among : {d : Declaration} → DeclaresIn s S o d → IsIn ds d
  among {d} h = subst (λ l. IsIn l d) (chosen_once h.are are) h.among

  declared : {d : Declaration} → IsIn ds d → S d.entity → DeclaresIn s S o d
  declared h k = record { all = ds; are = are; among = h; by = k }

  pub derived_there : AnyIn ds (Derives S) → IsDerived s S o
  derived_there h = record { declaration = h.0; declares = declared h.1 h.2.0; derives = h.2.1 }

  pub derived_among : IsDerived s S o → AnyIn ds (Derives S)
  derived_among h = (h.declaration, among h.declares, (h.declares.by, h.derives))

  pub counts_there : {d : Declaration} → IsIn ds d → CountsAmong s S ds d → Counts s S o d
  counts_there h k = record { declares = declared h k.0; not_derived = λ x. k.1 (derived_among x); last = λ other j a. k.2 (other, among j, (j.by, a)) }

  pub counts_among : {d : Declaration} → Counts s S o d → IsIn ds d × CountsAmong s S ds d
  counts_among h = (among h.declares, (h.declares.by, λ k. h.not_derived (derived_there k), λ k. h.last k.0 (declared k.1 k.2.0) k.2.1))
