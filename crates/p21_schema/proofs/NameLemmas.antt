-- Names and their places.
use Rattle.std.proofs.Common.{◌≡◌, ℕ, ◌+◌, ◌<◌, Bool, true, false, List, [], ◌∷◌, ◌++◌, Option, Some, None, MatchOption, is_some, map, length, get_or, take, refl, sym, ap, ◌∙◌, subst, inl, inr, ⊎_elim}
use Rattle.std.specs.Prelude.{Vec, nat_eq, if◌then◌else◌}
use Rattle.std.specs.Cmp.Lexicographic.{pointwise, bytes_decides}
use Rattle.std.proofs.lemmas.Bool.{false≢true, or_parts, or_from, cases_Bool}
use Rattle.std.proofs.lemmas.List.{map_push, get_or-map, take_more, length-map}
use Rattle.std.proofs.lemmas.List.Quantifiers.{position-Some}
use Rattle.std.specs.List.{list_any, position}
use Rattle.p21_express.specs.WellFormed.{IsIn, AreDistinct}
use Rattle.p21_graph.specs.MemberLaws.{not_before, at_place}

-- the test by which a name is looked up
abbrev pub is_name : {A : Type 0} → List ℕ → Vec ℕ A → Bool
is_name {A} n k = pointwise nat_eq n k.items

abbrev pub names_of : {A : Type 0} → List (Vec ℕ A) → List (List ℕ)
names_of {A} ks = map (λ (k : Vec ℕ A). k.items) ks

pub absent : {A : Type 0} (ks : List (Vec ℕ A)) (n : List ℕ) → list_any (is_name n) ks ≡ false → ¬ (IsIn (names_of ks) n)
absent [] n h = λ i. i
absent (k ∷ ks) n h =
    let p = or_parts (is_name n k) (list_any (is_name n) ks) h in
    λ i. ⊎_elim (λ (e : k.items ≡ n). false≢true (sym p.0 ∙ (bytes_decides n k.items).1 (sym e))) (λ (j : IsIn (names_of ks) n). absent ks n p.1 j) i

pub not_any : {A : Type 0} (ks : List (Vec ℕ A)) (n : List ℕ) → ¬ (IsIn (names_of ks) n) → list_any (is_name n) ks ≡ false
not_any [] n h = refl
not_any (k ∷ ks) n h =
    let first : is_name n k ≡ false = ⊎_elim (λ (t : is_name n k ≡ true). absurd (h (inl (sym ((bytes_decides n k.items).0 t))))) (λ (f : is_name n k ≡ false). f) (cases_Bool (is_name n k)) in
    or_from (is_name n k) (list_any (is_name n) ks) first (not_any ks n (λ i. h (inr i)))

pub pushed : {A : Type 0} (ks : List (Vec ℕ A)) (k : Vec ℕ A) → ¬ (IsIn (names_of ks) k.items) → names_of (if list_any (is_name k.items) ks then ks else ks ++ k ∷ []) ≡ names_of ks ++ k.items ∷ []
pushed {A} ks k h = rw (not_any ks k.items h) (map_push (λ (x : Vec ℕ A). x.items) ks k)

pub found : {A : Type 0} (ks : List (Vec ℕ A)) (n : List ℕ) (r : Option ℕ) → r ≡ position (is_name n) ks → is_some r ≡ list_any (is_name n) ks → MatchOption r (¬ (IsIn (names_of ks) n)) (λ i. (i < length (names_of ks)) × (get_or (names_of ks) i [] ≡ n))
found ks n None e any = absent ks n (sym any)
found {A} [] n (Some i) e any = absurd cc
found {A} (k ∷ ks) n (Some i) e any =
    let h = position-Some (is_name n) (k ∷ ks) i k (sym e) in
    let less : i < length (k ∷ ks) = h.0 in
    (rw (length-map (k ∷ ks) (λ (x : Vec ℕ A). x.items)) less, get_or-map (λ (x : Vec ℕ A). x.items) (k ∷ ks) i k [] less ∙ sym ((bytes_decides n (get_or (k ∷ ks) i k).items).0 h.1))

-- the names of a list, one after the other
module _ {X Y : Type 0} (f : Y → List ℕ) (g : X → Y) (xs : List X) (i : ℕ) (x : X) (n : List ℕ) (less : i < length xs) (at : x ≡ get_or xs i x) (is : n ≡ f (g x)) where
  next : get_or (map f (map g xs)) i [] ≡ n
  next =
      let less' : i < length (map g xs) = rw (length-map xs g) less in
      get_or-map f (map g xs) i (g x) [] less' ∙ ap f (get_or-map g xs i x (g x) less ∙ ap g (sym at)) ∙ sym is

  all_less : i < length (map f (map g xs))
  all_less = rw (length-map (map g xs) f, length-map xs g) less

  pub new_name : (names : List (List ℕ)) → AreDistinct (map f (map g xs)) → names ≡ take i (map f (map g xs)) → ¬ (IsIn names n)
  new_name names distinct h = λ j. not_before (map f (map g xs)) i [] distinct all_less (subst (λ u. IsIn (take i (map f (map g xs))) u) (sym next) (subst (λ (u : List (List ℕ)). IsIn u n) h j))

  pub more_names : (names more : List (List ℕ)) → names ≡ take i (map f (map g xs)) → more ≡ names ++ n ∷ [] → more ≡ take (i + 1) (map f (map g xs))
  more_names names more h e = e ∙ ap (λ (u : List (List ℕ)). u ++ n ∷ []) h ∙ ap (λ (u : List ℕ). take i (map f (map g xs)) ++ u ∷ []) (sym next) ∙ sym (take_more (map f (map g xs)) i [] all_less)

-- a name of a list of names
pub known_name : {A : Type 0} (ks : List (Vec ℕ A)) (k : ℕ) (x : Vec ℕ A) (n : List ℕ) → k < length ks → x ≡ get_or ks k x → n ≡ x.items → IsIn (names_of ks) n
known_name {A} ks k x n less at is =
    let f : Vec ℕ A → List ℕ = λ v. v.items in
    let less' : k < length (map f ks) = rw (length-map ks f) less in
    subst (λ u. IsIn (map f ks) u) (get_or-map f ks k x [] less ∙ ap f (sym at) ∙ sym is) (at_place (map f ks) k [] less')
