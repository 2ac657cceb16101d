-- The declarations of an attribute, one by one.
use Rattle.std.proofs.Common.{◌≡◌, ◌↔◌, ◌⊎◌, ⊎_elim, inl, inr, ℕ, zero, suc, ◌+◌, ◌<◌, ◌≤◌, Bool, true, false, IsTrue, List, [], ◌∷◌, ◌++◌, map, length, get_or, take, refl, sym, ap, subst, ◌∙◌, arith}
use Rattle.std.specs.List.{AllByRecursion, AllZip}
use Rattle.std.proofs.lemmas.Bool.{false≢true}
use Rattle.std.proofs.lemmas.List.{take_more, take_all, map-append}
use Rattle.p21_express.specs.Schema.{Schema}
use Rattle.p21_express.specs.WellFormed.{IsIn, Origin}
use Rattle.p21_schema.specs.declared.declarations.Declaration.{Declaration as Coded}
use Rattle.p21_schema.specs.Declaration.{AreDeclarations, AreResolvedIn, Chosen, Declaration, Form, IsResolvedDeclaration, derived}
use Rattle.p21_schema.specs.Declaration as chosen
use Rattle.p21_schema.specs.Place.{IsEntityOf, entity_name}
use Rattle.p21_schema.specs.declared.ids.EntityId.{EntityId}
use Rattle.p21_rule_text.specs.Resolve.{DerivesElsewhere, HasDeclaration}
use Rattle.p21_rule_text.proofs.ResolveLemmas.{declarations_once}

abbrev pub no_declaration : Declaration
no_declaration = record { entity = []; form = derived }

zip_at : {A B : Type 0} (R : A → B → Type 0) (xs : List A) (ys : List B) (i : ℕ) (x : A) (y : B) → AllZip R xs ys → i < length xs → R (get_or xs i x) (get_or ys i y)
zip_at R [] [] i x y z h = absurd (omega arith)
zip_at R [] (b ∷ ys) i x y z h = absurd z
zip_at R (a ∷ xs) [] i x y z h = absurd z
zip_at R (a ∷ xs) (b ∷ ys) zero x y z h = z.0
zip_at R (a ∷ xs) (b ∷ ys) (suc i) x y z h = zip_at R xs ys i x y z.1 (omega arith)

zip_length : {A B : Type 0} (R : A → B → Type 0) (xs : List A) (ys : List B) → AllZip R xs ys → length xs ≡ length ys
zip_length R [] [] z = refl
zip_length R [] (b ∷ ys) z = absurd z
zip_length R (a ∷ xs) [] z = absurd z
zip_length R (a ∷ xs) (b ∷ ys) z = ap suc (zip_length R xs ys z.1)

in_list : {X : Type 0} (xs : List X) (k : ℕ) (d : X) → k < length xs → IsIn xs (get_or xs k d)
in_list [] k d h = absurd (omega arith)
in_list (y ∷ ys) zero d h = inl refl
in_list (y ∷ ys) (suc k) d h = inr (in_list ys k d (omega arith))

module _ (s : Schema) (cs : List Coded) (ds : List Declaration) (z : AreResolvedIn s cs ds) (i : ℕ) (c : Coded) (less : i < length cs) (is : c ≡ get_or cs i c) where
  pub resolved_at : IsResolvedDeclaration s c (get_or ds i no_declaration)
  resolved_at = subst (λ (x : Coded). IsResolvedDeclaration s x (get_or ds i no_declaration)) (sym is) (zip_at (IsResolvedDeclaration s) cs ds i c no_declaration z less)

  pub below : i < length ds
  below = let e = zip_length (IsResolvedDeclaration s) cs ds z in omega arith

pub ended : (s : Schema) (cs : List Coded) (ds : List Declaration) → AreResolvedIn s cs ds → (i : ℕ) → length cs ≤ i → length ds ≤ i
ended s cs ds z i past = let e = zip_length (IsResolvedDeclaration s) cs ds z in omega arith

-- ---- some declaration

-- no declaration in front of a place is such
abbrev pub NoneIn : (Declaration → Type 0) → List Declaration → ℕ → Type 0
NoneIn P ds i = (d : Declaration) → IsIn (take i ds) d → ¬ (P d)

in_more : (xs : List Declaration) (x d : Declaration) → IsIn (xs ++ x ∷ []) d → IsIn xs d ⊎ (x ≡ d)
in_more [] x d (inl e) = inr e
in_more [] x d (inr h) = absurd h
in_more (y ∷ ys) x d (inl e) = inl (inl e)
in_more (y ∷ ys) x d (inr h) = ⊎_elim (λ (k : IsIn ys d). inl (inr k)) (λ (e : x ≡ d). inr e) (in_more ys x d h)

pub none_more : (P : Declaration → Type 0) (ds : List Declaration) (i : ℕ) → i < length ds → ¬ (P (get_or ds i no_declaration)) → NoneIn P ds i → NoneIn P ds (i + 1)
none_more P ds i less other none d h p =
    ⊎_elim
    (λ (k : IsIn (take i ds) d). none d k p)
    (λ (e : get_or ds i no_declaration ≡ d). other (subst P (sym e) p))
    (in_more (take i ds) (get_or ds i no_declaration) d (subst (λ l. IsIn l d) (take_more ds i no_declaration less) h))

module _ (s : Schema) (a : Origin) (P : Declaration → Type 0) (ds : List Declaration) (are : AreDeclarations s a ds) where
  pub has : (i : ℕ) → i < length ds → P (get_or ds i no_declaration) → HasDeclaration s a P
  has i less p = record { declarations = ds; are = are; declaration = get_or ds i no_declaration; there = in_list ds i no_declaration less; is = p }

  pub has_none : (i : ℕ) → length ds ≤ i → NoneIn P ds i → ¬ (HasDeclaration s a P)
  has_none i past none h =
      let same = declarations_once s a h.declarations ds h.are are in
      none h.declaration (subst (λ l. IsIn l h.declaration) (sym (take_all i ds past)) (subst (λ l. IsIn l h.declaration) same h.there)) h.is

-- ---- those that are chosen

module _ {X Y : Type 0} {W : X → Type 0} {f : X → Y} where
  chosen_kept : {xs : List X} {ys : List Y} (x : X) → Chosen W f xs ys → W x → Chosen W f (xs ++ x ∷ []) (ys ++ f x ∷ [])
  chosen_kept x chosen.none w = chosen.kept w chosen.none
  chosen_kept x (chosen.kept v c) w = chosen.kept v (chosen_kept x c w)
  chosen_kept x (chosen.dropped v c) w = chosen.dropped v (chosen_kept x c w)

  chosen_dropped : {xs : List X} {ys : List Y} (x : X) → Chosen W f xs ys → ¬ (W x) → Chosen W f (xs ++ x ∷ []) ys
  chosen_dropped x chosen.none w = chosen.dropped w chosen.none
  chosen_dropped x (chosen.kept v c) w = chosen.kept v (chosen_dropped x c w)
  chosen_dropped x (chosen.dropped v c) w = chosen.dropped v (chosen_dropped x c w)

  pub kept_more : (xs : List X) (i : ℕ) (d : X) (ys : List Y) → i < length xs → Chosen W f (take i xs) ys → W (get_or xs i d) → Chosen W f (take (i + 1) xs) (ys ++ f (get_or xs i d) ∷ [])
  kept_more xs i d ys less c w = subst (λ l. Chosen W f l (ys ++ f (get_or xs i d) ∷ [])) (sym (take_more xs i d less)) (chosen_kept (get_or xs i d) c w)

  pub dropped_more : (xs : List X) (i : ℕ) (d : X) (ys : List Y) → i < length xs → Chosen W f (take i xs) ys → ¬ (W (get_or xs i d)) → Chosen W f (take (i + 1) xs) ys
  dropped_more xs i d ys less c w = subst (λ l. Chosen W f l ys) (sym (take_more xs i d less)) (chosen_dropped (get_or xs i d) c w)

-- ---- the entities that derive an attribute

known_push : (s : Schema) (os : List EntityId) (o : EntityId) → AllByRecursion (IsEntityOf s) os → IsEntityOf s o → AllByRecursion (IsEntityOf s) (os ++ o ∷ [])
known_push s [] o known is = (is, tt)
known_push s (p ∷ os) o known is = (known.0, known_push s os o known.1 is)

module _ (s : Schema) (e : EntityId) (cs : List Coded) where
  -- those of the first declarations are found
  abbrev pub AreFound : ℕ → List EntityId → Type 0
  AreFound i os = (ds : List Declaration) → AreResolvedIn s cs ds → Chosen (DerivesElsewhere s e) (λ d. d.entity) (take i ds) (map (entity_name s) os)

  module _ (i : ℕ) (x : Coded) (less : i < length cs) (is : x ≡ get_or cs i x) (b : Bool) (test : (d : Declaration) → IsResolvedDeclaration s x d → (IsTrue b ↔ DerivesElsewhere s e d)) (os : List EntityId) where
    pub one_found : b ≡ true → AreFound i os → AreFound (i + 1) (os ++ x.entity ∷ [])
    one_found t found ds z =
        let d = get_or ds i no_declaration in
        let at = resolved_at s cs ds z i x less is in
        let names : map (entity_name s) (os ++ x.entity ∷ []) ≡ map (entity_name s) os ++ d.entity ∷ [] = map-append (entity_name s) os (x.entity ∷ []) ∙ ap (λ (n : List ℕ). map (entity_name s) os ++ n ∷ []) at.entity in
        subst (λ (ns : List (List ℕ)). Chosen (DerivesElsewhere s e) (λ d. d.entity) (take (i + 1) ds) ns) (sym names) (kept_more ds i no_declaration (map (entity_name s) os) (below s cs ds z i x less is) (found ds z) ((test d at).0 t))

    pub none_found : b ≡ false → AreFound i os → AreFound (i + 1) os
    none_found f found ds z =
        let d = get_or ds i no_declaration in
        let at = resolved_at s cs ds z i x less is in
        dropped_more ds i no_declaration (map (entity_name s) os) (below s cs ds z i x less is) (found ds z) (λ h. false≢true (sym f ∙ (test d at).1 h))

    pub one_known : (ds : List Declaration) → AreResolvedIn s cs ds → AllByRecursion (IsEntityOf s) os → AllByRecursion (IsEntityOf s) (os ++ x.entity ∷ [])
    one_known ds z known = known_push s os x.entity known (resolved_at s cs ds z i x less is).known
