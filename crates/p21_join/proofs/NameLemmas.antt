-- Names among instances, and their places in a table.
use Rattle.std.proofs.Common.{◌≡◌, ℕ, ◌<◌, ◌↔◌, List, [], ◌∷◌, Option, None, Some, map, length, get_or, refl, sym, ap, subst, ◌∙◌, arith}
use Rattle.std.specs.Prelude.{Contains}
use Rattle.std.specs.Option.{IsSome}
use Rattle.std.proofs.lemmas.Bool.{false≢true}
use Rattle.std.proofs.lemmas.List.{get_or-map, get_or_default, length-map}
use Rattle.p21_tree.specs.declared.instances.RawInstance.{RawInstance}
use Rattle.p21_join.specs.declared.instance_places.InstancePlaces.{InstancePlaces}
use Rattle.p21_join.specs.InstancePlaces.{place_of}
use Rattle.p21_join.specs.Names.{HasPlacesOf, IsPosition}
use Rattle.p21_join.specs.Joined.{IsNamedIn}

-- the instance at the place of a name
stands_there : (is : List RawInstance) (k : ℕ) → k < length is → (i : RawInstance) × (get_or is k i ≡ i)
stands_there [] k less = absurd (omega arith)
stands_there (x ∷ is) k less = (get_or (x ∷ is) k x, get_or_default (x ∷ is) k (get_or (x ∷ is) k x) x less)

named_at : (is : List RawInstance) (name : ℕ) (place : Option ℕ) → IsPosition is name place → IsSome place → (i : RawInstance) × Contains is i × (i.name ≡ name)
named_at is name None h some = absurd (false≢true some)
named_at is name (Some k) h some = let at = stands_there is k h.0 in (at.0, (k, h.0, at.1), ap (λ (x : RawInstance). x.name) (sym at.1) ∙ h.1 at.0)

pub is_named : (t : InstancePlaces) (is : List RawInstance) (i : RawInstance) → HasPlacesOf t is → IsSome (place_of t i.name) → IsNamedIn is i
is_named t is i placed some = named_at is i.name (place_of t i.name) (placed i.name) some

-- the instance at the place of a name has the name
pub found_at : (is : List RawInstance) (n k : ℕ) (i : RawInstance) → IsPosition is n (Some k) → i ≡ get_or is k i → Contains is i × (i.name ≡ n)
found_at is n k i h there = ((k, h.0, sym there), ap (λ (x : RawInstance). x.name) there ∙ h.1 i)

-- Names by themselves.

contains_named : (is : List RawInstance) (i : RawInstance) → Contains is i → Contains (map (λ (x : RawInstance). x.name) is) i.name
contains_named is i h =
    let f = λ (x : RawInstance). x.name in
    (h.0, (let l = h.1 in omega (arith, length-map is f, l)), get_or-map f is h.0 i (f i) h.1 ∙ ap f h.2)

position_named : (is : List RawInstance) (name : ℕ) (place : Option ℕ) → IsPosition is name place → Contains (map (λ (x : RawInstance). x.name) is) name → IsSome place
position_named is name None h there =
    let f = λ (x : RawInstance). x.name in
    let within : there.0 < length is = (let l = there.1 in omega (arith, length-map is f, l)) in
    let at = stands_there is there.0 within in
    absurd (h there.0 at.0 within (sym (get_or-map f is there.0 at.0 name within) ∙ there.2))
position_named is name (Some k) h there = refl

-- a table has places for the names of the instances alone
pub names_of_places : (t : InstancePlaces) (is : List RawInstance) → HasPlacesOf t is → (name : ℕ) → IsSome (place_of t name) ↔ Contains (map (λ (x : RawInstance). x.name) is) name
names_of_places t is placed name = (
  (λ some. let r = named_at is name (place_of t name) (placed name) some in subst (Contains (map (λ (x : RawInstance). x.name) is)) r.2 (contains_named is r.0 r.1)),
  (λ there. position_named is name (place_of t name) (placed name) there),
)
