-- The places of names, and the instances that have them.
use Rattle.std.proofs.Common.{◌≡◌, ◌≢◌, inl, inr, ℕ, zero, suc, ◌+◌, ◌<◌, Option, Some, None, true, false, cond, List, [], ◌∷◌, ◌++◌, map, take, length, get_or, refl, sym, ap, subst, ◌∙◌, append_assoc, arith}
use Rattle.std.specs.Prelude.{Contains, IsSome, Ok, nat_eq}
use Rattle.std.proofs.lemmas.Bool.{cases_Bool, cases_lt, false≢true}
use Rattle.std.proofs.lemmas.Bool.Decides.{nat_tests}
use Rattle.std.proofs.lemmas.List.{get_or-map, get_or_append_left, get_or_default, length-append, length-take, take_more}
use Rattle.std.proofs.lemmas.List.Elements.{All-append, All-cons, All-head, All-tail}
use Rattle.std.proofs.Math.Seq.{get_or-append_seam}
use Rattle.p21_tree.specs.declared.instances.RawInstance.{RawInstance}
use Rattle.p21_tree.specs.Views.{plain_instance}
use Rattle.p21_check.specs.References.{named_in}
use Rattle.p21_join.specs.declared.instance_places.InstancePlaces.{InstancePlaces}
use Rattle.p21_join.specs.InstancePlaces.{InsertsPlace, place_of}
use Rattle.p21_join.specs.Joined.{IsNamedIn, IsNewIn}
use Rattle.p21_join.specs.Model.{plain_instances}
use Rattle.p21_join.specs.Names.{HasPlacesOf, HaveOwnNames, IsPosition}
use Rattle.p21_outline.specs.declared.outline_list.PlacedName.{PlacedName}
use Rattle.p21_outline.specs.Placed.{FindsRepeated, IsPlaced}
use Rattle.p21_outline.specs.PlacedName.{placed_name}

-- ---- an instance by its place

stands_there : (is : List RawInstance) (k : ℕ) → k < length is → (i : RawInstance) × (get_or is k i ≡ i)
stands_there [] k less = absurd (omega arith)
stands_there (x ∷ is) k less = (get_or (x ∷ is) k x, get_or_default (x ∷ is) k (get_or (x ∷ is) k x) x less)

named_there : (is : List RawInstance) (name : ℕ) (place : Option ℕ) → IsPosition is name place → IsSome place → (i : RawInstance) × Contains is i × (i.name ≡ name)
named_there is name None h some = absurd (false≢true some)
named_there is name (Some k) h some = let at = stands_there is k h.0 in (at.0, (k, h.0, at.1), ap (λ (x : RawInstance). x.name) (sym at.1) ∙ h.1 at.0)

-- where the name of an instance has a place, another has its name
is_named : (t : InstancePlaces) (is : List RawInstance) (i : RawInstance) → HasPlacesOf t is → IsSome (place_of t i.name) → IsNamedIn is i
is_named t is i placed some = named_there is i.name (place_of t i.name) (placed i.name) some

-- ---- the first instance that has a name

same : (m n : ℕ) → m ≡ n → nat_eq m n ≡ true
same m n h = elim (cases_Bool (nat_eq m n)) [ inl e ↦ e | inr e ↦ absurd (let k = h in let f = e in grind (arith, nat_tests, k, f)) ]

differs : (m n : ℕ) → m ≢ n → nat_eq m n ≡ false
differs m n h = elim (cases_Bool (nat_eq m n)) [ inl e ↦ absurd (h (grind (arith, nat_tests, e))) | inr e ↦ e ]

pub none_named : (is : List RawInstance) (name : ℕ) → IsPosition is name None → named_in (plain_instances is) name ≡ None
none_named [] name h = refl
none_named (x ∷ is) name h =
    ap (λ b. cond b (Some (plain_instance x)) (named_in (plain_instances is) name)) (differs x.name name (All-head (λ (i : RawInstance). i.name ≢ name) x is h))
    ∙ none_named is name (All-tail (λ (i : RawInstance). i.name ≢ name) x is h)

first_named : (is : List RawInstance) (name k : ℕ) (i : RawInstance) → HaveOwnNames is → k < length is → get_or is k i ≡ i → i.name ≡ name → named_in (plain_instances is) name ≡ Some (plain_instance i)
first_named [] name k i own less there e = absurd (omega arith)
first_named (x ∷ is) name zero i own less there e =
    ap (λ b. cond b (Some (plain_instance x)) (named_in (plain_instances is) name)) (same x.name name (ap (λ (y : RawInstance). y.name) there ∙ e)) ∙ ap (λ y. Some (plain_instance y)) there
first_named (x ∷ is) name (suc k) i own less there e =
    let other : x.name ≢ name = λ f. own 0 (suc k) i (omega arith) less (f ∙ (sym e ∙ ap (λ (y : RawInstance). y.name) (sym there))) in
    ap (λ b. cond b (Some (plain_instance x)) (named_in (plain_instances is) name)) (differs x.name name other) ∙ first_named is name k i (λ j m d below within. own (suc j) (suc m) d (omega arith) (omega arith)) (omega arith) there e

pub some_named : (is : List RawInstance) (name k : ℕ) (i : RawInstance) → HaveOwnNames is → IsPosition is name (Some k) → get_or is k i ≡ i → named_in (plain_instances is) name ≡ Some (plain_instance i)
some_named is name k i own h there = first_named is name k i own h.0 there (ap (λ (x : RawInstance). x.name) (sym there) ∙ h.1 i)

-- ---- one more instance

-- an instance whose name has no place is new
is_new : (t : InstancePlaces) (is : List RawInstance) (i : RawInstance) → HasPlacesOf t is → place_of t i.name ≡ None → IsNewIn is i
is_new t is i placed none = subst (IsPosition is i.name) none (placed i.name)

-- a position stays where one more comes after it
position_left : (is : List RawInstance) (i : RawInstance) (name : ℕ) (place : Option ℕ) → i.name ≢ name → IsPosition is name place → IsPosition (is ++ i ∷ []) name place
position_left is i name None other h =
    All-append (λ (x : RawInstance). x.name ≢ name) is (i ∷ []) h (All-cons (λ (x : RawInstance). x.name ≢ name) i [] other (λ k d inside. absurd (omega arith)))
position_left is i name (Some k) other h =
    let long = length-append is (i ∷ []) in
    let less = h.0 in
    (omega arith, λ d. ap (λ (x : RawInstance). x.name) (get_or_append_left is (i ∷ []) d k less) ∙ h.1 d)

-- the last one has the last place
position_last : (is : List RawInstance) (i : RawInstance) → IsPosition (is ++ i ∷ []) i.name (Some (length is))
position_last is i =
    let long = length-append is (i ∷ []) in
    (omega arith, λ d. ap (λ (x : RawInstance). x.name) (get_or-append_seam is i [] d))

placed_more : (t u : InstancePlaces) (is : List RawInstance) (i : RawInstance) (place : ℕ) → HasPlacesOf t is → place ≡ length is → InsertsPlace t i.name place (Ok true) u → HasPlacesOf u (is ++ i ∷ [])
placed_more t u is i place placed last h name = elim (cases_Bool (nat_eq i.name name)) [
  | inl equal ↦
      let one : i.name ≡ name = grind (arith, nat_tests, equal) in
      subst (λ n. IsPosition (is ++ i ∷ []) n (place_of u n)) one (subst (IsPosition (is ++ i ∷ []) i.name) (sym (h.1 ∙ ap Some last)) (position_last is i))
  | inr differ ↦
      let other : i.name ≢ name = λ e. (let f = e in let d = differ in grind (arith, nat_tests, f, d)) in
      subst (IsPosition (is ++ i ∷ []) name) (sym (h.2 name (λ e. other (sym e)))) (position_left is i name (place_of t name) other (placed name))
]

own_names_more : (is : List RawInstance) (i : RawInstance) → HaveOwnNames is → IsNewIn is i → HaveOwnNames (is ++ i ∷ [])
own_names_more is i own new j k d less within =
    let long = length-append is (i ∷ []) in
    elim (cases_lt k (length is)) [
      | inl inside ↦
          let first : get_or (is ++ i ∷ []) j d ≡ get_or is j d = get_or_append_left is (i ∷ []) d j (omega arith) in
          let second : get_or (is ++ i ∷ []) k d ≡ get_or is k d = get_or_append_left is (i ∷ []) d k inside in
          λ e. own j k d less inside (ap (λ (x : RawInstance). x.name) (sym first) ∙ (e ∙ ap (λ (x : RawInstance). x.name) second))
      | inr past ↦
          let last : length is ≡ k = omega arith in
          let first : get_or (is ++ i ∷ []) j d ≡ get_or is j d = get_or_append_left is (i ∷ []) d j (omega arith) in
          let second : get_or (is ++ i ∷ []) k d ≡ i = ap (λ n. get_or (is ++ i ∷ []) n d) (sym last) ∙ get_or-append_seam is i [] d in
          λ e. new j d (omega arith) (ap (λ (x : RawInstance). x.name) (sym first) ∙ (e ∙ ap (λ (x : RawInstance). x.name) second))
    ]

-- ---- those of a list, one after the other

-- the instance at a place, of which the name stands there
pub named_at : (ns : List PlacedName) (js : List RawInstance) (k : ℕ) (d : PlacedName) → ns ≡ map placed_name js → k < length js → (i : RawInstance) × (get_or js k i ≡ i) × ((get_or ns k d).name ≡ i.name)
named_at ns js k d same less =
    let at = stands_there js k less in
    let there : get_or ns k d ≡ placed_name at.0 = ap (λ l. get_or l k d) same ∙ (get_or-map placed_name js k at.0 d less ∙ ap placed_name at.1) in
    (at.0, at.1, ap (λ (n : PlacedName). n.name) there)

-- one more of the list is placed
pub placed_next : (t u : InstancePlaces) (is js : List RawInstance) (k place : ℕ) (i : RawInstance) → IsPlaced t (is ++ take k js) → place ≡ length is + k → k < length js → get_or js k i ≡ i → InsertsPlace t i.name place (Ok true) u
    → IsPlaced u (is ++ take (k + 1) js)
placed_next t u is js k place i before at less there h =
    let seen = is ++ take k js in
    let last : place ≡ length seen = omega (arith, length-append is (take k js), length-take k js) in
    let all : seen ++ i ∷ [] ≡ is ++ take (k + 1) js = append_assoc is (take k js) (i ∷ []) ∙ ap (λ l. is ++ l) (sym (take_more js k i less ∙ ap (λ x. take k js ++ x ∷ []) there)) in
    subst (IsPlaced u) all (placed_more t u seen i place before.0 last h, own_names_more seen i before.1 (is_new t seen i before.0 h.0))

-- or the name of one before it is found
pub found_repeated : (t u : InstancePlaces) (is js : List RawInstance) (k place : ℕ) (i : RawInstance) → IsPlaced t (is ++ take k js) → k < length js → get_or js k i ≡ i → InsertsPlace t i.name place (Ok false) u
    → FindsRepeated u is js (Some k)
found_repeated t u is js k place i before less there h =
    let seen = is ++ take k js in (
      less,
      (λ name. subst (IsPosition seen name) (sym (h.1 name)) (before.0 name), before.1),
      λ d. subst (IsNamedIn seen) (sym (get_or_default js k d i less ∙ there)) (is_named t seen i before.0 h.0),
    )
