-- Attributes that are declared again.
use Rattle.std.proofs.Common.{◌≡◌, ℕ, ◌+◌, ◌<◌, List, [], ◌∷◌, ◌++◌, length, get_or, map, take, drop, Bool, true, false, Option, Some, None, slice_get, refl, sym, ap, ◌∙◌, subst, append_assoc, ⊎_elim}
use Rattle.std.specs.Bool.{MatchBool}
use Rattle.std.proofs.lemmas.Grind.{take_at_read}
use Rattle.std.proofs.lemmas.List.{map-append, take-append-drop}
use Rattle.std.proofs.lemmas.Option.{slice_get-get_or}
use Rattle.p21_express.specs.declared.declarations.AttrDecl.{AttrDecl}
use Rattle.p21_express.specs.declared.declarations.DeriveDecl.{DeriveDecl}
use Rattle.std.specs.Option.{option_to_list, is_some}
use Rattle.std.specs.Prelude.{option_map}
use Rattle.p21_express.specs.Again.{IsDerivedAt, IsNewAt}
use Rattle.p21_express.specs.Plain.{plain_attribute, plain_derived}
use Rattle.p21_express.specs.Schema.{Schema, Entity, Attribute, Derived}
use Rattle.p21_express.specs.WellFormed.{IsIn, new_derived, new_explicit, new_names, with_new, with_again, again_explicit, again_derived, Redeclaration}
use Rattle.p21_graph.specs.MemberLaws.{in_either}
use Rattle.p21_express.proofs.GraphLemmas.{in_front, in_back}

-- ---- what is told of each of a list, one after the other

module _ {X Y : Type 0} (F : List X → List Y) (joins : (xs ys : List X) → F (xs ++ ys) ≡ F xs ++ F ys) where
  pub one_step : (xs : List X) (i : ℕ) (x : X) → i < length xs → x ≡ get_or xs i x → F (take (i + 1) xs) ≡ F (take i xs) ++ F (x ∷ [])
  one_step xs i x lt is = ap F ((take_at_read xs i x lt).1) ∙ joins (take i xs) (get_or xs i x ∷ []) ∙ ap (λ (z : X). F (take i xs) ++ F (z ∷ [])) (sym is)

  pub found_in : (xs : List X) (i : ℕ) (x : X) (y : Y) → i < length xs → x ≡ get_or xs i x → IsIn (F (x ∷ [])) y → IsIn (F xs) y
  found_in xs i x y lt is h =
      let e : F (take (i + 1) xs) ≡ F (take i xs) ++ F (x ∷ []) = one_step xs i x lt is in
      let k : IsIn (F (take (i + 1) xs)) y = rw e (in_back (F (take i xs)) (F (x ∷ [])) y h) in
      let all : F (take (i + 1) xs) ++ F (drop (i + 1) xs) ≡ F xs = sym (joins (take (i + 1) xs) (drop (i + 1) xs)) ∙ ap F (take-append-drop (i + 1) xs) in
      rw all at (in_front (F (take (i + 1) xs)) (F (drop (i + 1) xs)) y k)

  -- a name that one more does not have either
  pub not_in_more : (xs : List X) (i : ℕ) (x : X) (y : Y) → i < length xs → x ≡ get_or xs i x → ¬ (IsIn (F (take i xs)) y) → ¬ (IsIn (F (x ∷ [])) y) → ¬ (IsIn (F (take (i + 1) xs)) y)
  not_in_more xs i x y lt is before this h = ⊎_elim (λ (k : IsIn (F (take i xs)) y). before k) (λ (k : IsIn (F (x ∷ [])) y). this k) (in_either (F (take i xs)) (F (x ∷ [])) y (subst (λ (zs : List Y). IsIn zs y) (one_step xs i x lt is) h))

with_again_front : (o : Option (List ℕ)) (n : List ℕ) (b : Bool) (xs : List Redeclaration) → with_again o n b xs ≡ with_again o n b [] ++ xs
with_again_front None n b xs = refl
with_again_front (Some e) n b xs = refl

again_explicit_joins : (xs ys : List Attribute) → again_explicit (xs ++ ys) ≡ again_explicit xs ++ again_explicit ys
again_explicit_joins [] ys = refl
again_explicit_joins (x ∷ xs) ys = with_again_front x.of x.name true (again_explicit (xs ++ ys)) ∙ ap (λ (zs : List Redeclaration). with_again x.of x.name true [] ++ zs) (again_explicit_joins xs ys) ∙ sym (append_assoc (with_again x.of x.name true []) (again_explicit xs) (again_explicit ys)) ∙ ap (λ (zs : List Redeclaration). zs ++ again_explicit ys) (sym (with_again_front x.of x.name true (again_explicit xs)))

again_derived_joins : (xs ys : List Derived) → again_derived (xs ++ ys) ≡ again_derived xs ++ again_derived ys
again_derived_joins [] ys = refl
again_derived_joins (x ∷ xs) ys = with_again_front x.of x.name false (again_derived (xs ++ ys)) ∙ ap (λ (zs : List Redeclaration). with_again x.of x.name false [] ++ zs) (again_derived_joins xs ys) ∙ sym (append_assoc (with_again x.of x.name false []) (again_derived xs) (again_derived ys)) ∙ ap (λ (zs : List Redeclaration). zs ++ again_derived ys) (sym (with_again_front x.of x.name false (again_derived xs)))

abbrev pub again_explicit_of : List AttrDecl → List Redeclaration
again_explicit_of xs = again_explicit (map plain_attribute xs)

pub again_explicit_of_joins : (xs ys : List AttrDecl) → again_explicit_of (xs ++ ys) ≡ again_explicit_of xs ++ again_explicit_of ys
again_explicit_of_joins xs ys = ap again_explicit (map-append plain_attribute xs ys) ∙ again_explicit_joins (map plain_attribute xs) (map plain_attribute ys)

abbrev pub again_derived_of : List DeriveDecl → List Redeclaration
again_derived_of xs = again_derived (map plain_derived xs)

pub again_derived_of_joins : (xs ys : List DeriveDecl) → again_derived_of (xs ++ ys) ≡ again_derived_of xs ++ again_derived_of ys
again_derived_of_joins xs ys = ap again_derived (map-append plain_derived xs ys) ∙ again_derived_joins (map plain_derived xs) (map plain_derived ys)

-- what declares nothing again
pub none_again : {X : Type 0} (f : X → List ℕ) (o : Option X) (b : Bool) (n : List ℕ) (explicit : Bool) → b ≡ is_some o → b ≡ false → with_again (option_map f o) n explicit [] ≡ []
none_again f None b n explicit e h = refl
none_again f (Some x) b n explicit e h = absurd cc

pub nothing_step : {X Z : Type 0} (F : List X → List Z) (joins : (xs ys : List X) → F (xs ++ ys) ≡ F xs ++ F ys) (xs : List X) (i : ℕ) (x : X) → i < length xs → x ≡ get_or xs i x → F (take i xs) ≡ [] → F (x ∷ []) ≡ [] → F (take (i + 1) xs) ≡ []
nothing_step {X} {Z} F joins xs i x lt is before this = one_step F joins xs i x lt is ∙ ap (λ (zs : List Z). zs ++ F (x ∷ [])) before ∙ this

with_new_front : (o : Option (List ℕ)) (n : List ℕ) (ns : List (List ℕ)) → with_new o n ns ≡ with_new o n [] ++ ns
with_new_front None n ns = refl
with_new_front (Some e) n ns = refl

new_explicit_joins : (xs ys : List Attribute) → new_explicit (xs ++ ys) ≡ new_explicit xs ++ new_explicit ys
new_explicit_joins [] ys = refl
new_explicit_joins (x ∷ xs) ys = with_new_front x.of x.name (new_explicit (xs ++ ys)) ∙ ap (λ (zs : List (List ℕ)). with_new x.of x.name [] ++ zs) (new_explicit_joins xs ys) ∙ sym (append_assoc (with_new x.of x.name []) (new_explicit xs) (new_explicit ys)) ∙ ap (λ (zs : List (List ℕ)). zs ++ new_explicit ys) (sym (with_new_front x.of x.name (new_explicit xs)))

new_derived_joins : (xs ys : List Derived) → new_derived (xs ++ ys) ≡ new_derived xs ++ new_derived ys
new_derived_joins [] ys = refl
new_derived_joins (x ∷ xs) ys = with_new_front x.of x.name (new_derived (xs ++ ys)) ∙ ap (λ (zs : List (List ℕ)). with_new x.of x.name [] ++ zs) (new_derived_joins xs ys) ∙ sym (append_assoc (with_new x.of x.name []) (new_derived xs) (new_derived ys)) ∙ ap (λ (zs : List (List ℕ)). zs ++ new_derived ys) (sym (with_new_front x.of x.name (new_derived xs)))

abbrev pub new_explicit_of : List AttrDecl → List (List ℕ)
new_explicit_of xs = new_explicit (map plain_attribute xs)

pub new_explicit_of_joins : (xs ys : List AttrDecl) → new_explicit_of (xs ++ ys) ≡ new_explicit_of xs ++ new_explicit_of ys
new_explicit_of_joins xs ys = ap new_explicit (map-append plain_attribute xs ys) ∙ new_explicit_joins (map plain_attribute xs) (map plain_attribute ys)

abbrev pub new_derived_of : List DeriveDecl → List (List ℕ)
new_derived_of xs = new_derived (map plain_derived xs)

pub new_derived_of_joins : (xs ys : List DeriveDecl) → new_derived_of (xs ++ ys) ≡ new_derived_of xs ++ new_derived_of ys
new_derived_of_joins xs ys = ap new_derived (map-append plain_derived xs ys) ∙ new_derived_joins (map plain_derived xs) (map plain_derived ys)

pub any_default : {X : Type 0} (xs : List X) (i : ℕ) (d e : X) → i < length xs → get_or xs i d ≡ get_or xs i e
any_default xs i d e lt = let a : slice_get xs i ≡ Some (get_or xs i d) = slice_get-get_or xs i d lt in let b : slice_get xs i ≡ Some (get_or xs i e) = slice_get-get_or xs i e lt in let c : Some (get_or xs i d) ≡ Some (get_or xs i e) = sym a ∙ b in cc

pub told_step : {X Y Z : Type 0} (plain : Y → Z) (F : List X → List Z) (joins : (xs ys : List X) → F (xs ++ ys) ≡ F xs ++ F ys) (xs : List X) (i : ℕ) (x : X) (front : List Z) (all : List Y) (o : Option Y) → i < length xs → x ≡ get_or xs i x → map plain (option_to_list o) ≡ F (x ∷ []) → map plain all ≡ front ++ F (take i xs) → map plain (all ++ option_to_list o) ≡ front ++ F (take (i + 1) xs)
told_step {X} {Y} {Z} plain F joins xs i x front all o lt is this before =
    map-append plain all (option_to_list o) ∙ ap (λ (zs : List Z). zs ++ map plain (option_to_list o)) before ∙ ap (λ (zs : List Z). (front ++ F (take i xs)) ++ zs) this ∙ append_assoc front (F (take i xs)) (F (x ∷ [])) ∙ ap (λ (zs : List Z). front ++ zs) (sym (one_step F joins xs i x lt is))

-- ---- tests

pub test_same : (b : Bool) (P Q : Type 0) → (P → Q) → (Q → P) → MatchBool b P (¬ P) → MatchBool b Q (¬ Q)
test_same true P Q to from h = to h
test_same false P Q to from h = λ q. h (from q)

pub same_entity : (s : Schema) (i : ℕ) (e f : Entity) → slice_get s.entities i ≡ Some e → slice_get s.entities i ≡ Some f → e ≡ f
same_entity s i e f h k = let a : Some e ≡ Some f = sym h ∙ k in cc

pub derived_at : (s : Schema) (n : List ℕ) (i : ℕ) (e : Entity) (b : Bool) → slice_get s.entities i ≡ Some e → MatchBool b (IsIn (new_derived e.derived) n) (¬ (IsIn (new_derived e.derived) n)) → MatchBool b (IsDerivedAt s n i) (¬ (IsDerivedAt s n i))
derived_at s n i e b there h = test_same b (IsIn (new_derived e.derived) n) (IsDerivedAt s n i) (λ k. record { entity = e; there = there; newly = k }) (λ k. subst (λ (x : Entity). IsIn (new_derived x.derived) n) (same_entity s i k.entity e k.there there) k.newly) h

pub new_at : (s : Schema) (n : List ℕ) (i : ℕ) (e : Entity) (b : Bool) → slice_get s.entities i ≡ Some e → MatchBool b (IsIn (new_names e) n) (¬ (IsIn (new_names e) n)) → MatchBool b (IsNewAt s n i) (¬ (IsNewAt s n i))
new_at s n i e b there h = test_same b (IsIn (new_names e) n) (IsNewAt s n i) (λ k. record { entity = e; there = there; newly = k }) (λ k. subst (λ (x : Entity). IsIn (new_names x) n) (same_entity s i k.entity e k.there there) k.newly) h
