-- Names of entities and of types, each declared once, and what stands under a type.
use Rattle.std.proofs.Common.{◌≡◌, ℕ, inl, inr, List, [], ◌∷◌, ◌++◌, map, sym, ap, subst, ◌∙◌}
use Rattle.p21_express.specs.Schema.{Schema, Defined, Underlying, Entity, plain, named}
use Rattle.p21_schema.specs.Under.{StandsUnder, IsNoName}
use Rattle.p21_schema.specs.Under as stands
use Rattle.p21_express.specs.WellFormed.{IsIn, AreDistinct, IsEntity, IsType, IsWellFormed}

module _ {X : Type 0} where
  in_back : (xs ys : List X) (y : X) → IsIn ys y → IsIn (xs ++ ys) y
  in_back [] ys y h = h
  in_back (x ∷ xs) ys y h = inr (in_back xs ys y h)

  distinct_back : (xs ys : List X) → AreDistinct (xs ++ ys) → AreDistinct ys
  distinct_back [] ys h = h
  distinct_back (x ∷ xs) ys h = distinct_back xs ys h.1

  apart : (xs ys : List X) (x : X) → AreDistinct (xs ++ ys) → IsIn xs x → IsIn ys x → ⊥
  apart [] ys x h a b = a
  apart (y ∷ xs) ys x h (inl e) b = h.0 (in_back xs ys y (subst (IsIn ys) (sym e) b))
  apart (y ∷ xs) ys x h (inr a) b = apart xs ys x h.1 a b

module _ {X Y : Type 0} where
  pub in_map : (f : X → Y) (xs : List X) (x : X) → IsIn xs x → IsIn (map f xs) (f x)
  in_map f [] x h = elim h [ ]
  in_map f (y ∷ xs) x (inl e) = inl (ap f e)
  in_map f (y ∷ xs) x (inr h) = inr (in_map f xs x h)

  one_of : (f : X → Y) (xs : List X) (a b : X) → AreDistinct (map f xs) → IsIn xs a → IsIn xs b → f a ≡ f b → a ≡ b
  one_of f [] a b h i j s = elim i [ ]
  one_of f (x ∷ xs) a b h (inl e) (inl g) s = sym e ∙ g
  one_of f (x ∷ xs) a b h (inl e) (inr g) s = absurd (h.0 (subst (IsIn (map f xs)) (sym s ∙ ap f (sym e)) (in_map f xs b g)))
  one_of f (x ∷ xs) a b h (inr e) (inl g) s = absurd (h.0 (subst (IsIn (map f xs)) (s ∙ ap f (sym g)) (in_map f xs a e)))
  one_of f (x ∷ xs) a b h (inr e) (inr g) s = one_of f xs a b h.1 e g s

-- one type has a name
pub one_type : (s : Schema) → IsWellFormed s → (a b : Defined) → IsIn s.types a → IsIn s.types b → a.name ≡ b.name → a ≡ b
one_type s w a b h k e = one_of (λ t. t.name) s.types a b (distinct_back (map (λ e. e.name) s.entities) (map (λ t. t.name) s.types) w.repeated.declarations) h k e

-- no entity has a type's name
pub no_type : (s : Schema) → IsWellFormed s → (n : List ℕ) → IsEntity s n → (t : Defined) → IsIn s.types t → t.name ≡ n → ⊥
no_type s w n h t d e = apart (map (λ e. e.name) s.entities) (map (λ t. t.name) s.types) n w.repeated.declarations h (subst (IsIn (map (λ t. t.name) s.types)) e (in_map (λ t. t.name) s.types t d))

name_of : (m k : List ℕ) → plain (named m) ≡ plain (named k) → m ≡ k
name_of m k e = cc

-- what stands under a type is one
pub stands_once : (s : Schema) → IsWellFormed s → (n : List ℕ) (u v : Underlying) → StandsUnder s n u → StandsUnder s n v → u ≡ v
stands_once s w n u v (stands.itself t d e f no_name) (stands.itself r g h i other) =
    let same = one_type s w t r d g (e ∙ sym h) in sym f ∙ ap (λ (x : Defined). x.under) same ∙ i
stands_once s w n u v (stands.itself t d e f no_name) (stands.followed {m = m} r g h i more) =
    let same = one_type s w t r d g (e ∙ sym h) in absurd (no_name m (sym f ∙ ap (λ (x : Defined). x.under) same ∙ i))
stands_once s w n u v (stands.followed {m = m} t d e f more) (stands.itself r g h i other) =
    let same = one_type s w t r d g (e ∙ sym h) in absurd (other m (sym i ∙ ap (λ (x : Defined). x.under) (sym same) ∙ f))
stands_once s w n u v (stands.followed {m = m} t d e f more) (stands.followed {m = k} r g h i rest) =
    let same = one_type s w t r d g (e ∙ sym h) in
    let name = name_of m k (sym f ∙ ap (λ (x : Defined). x.under) same ∙ i) in
    stands_once s w k u v (subst (λ (l : List ℕ). StandsUnder s l u) name more) rest

-- it is no name
pub ends_no_name : (s : Schema) (n : List ℕ) (u : Underlying) → StandsUnder s n u → IsNoName u
ends_no_name s n u (stands.itself t d e f no_name) = no_name
ends_no_name s n u (stands.followed {m = m} t d e f more) = ends_no_name s m u more

-- it stands under a type
pub stands_type : (s : Schema) (n : List ℕ) (u : Underlying) → StandsUnder s n u → IsType s n
stands_type s n u (stands.itself t d e f no_name) = subst (IsIn (map (λ (t : Defined). t.name) s.types)) e (in_map (λ (t : Defined). t.name) s.types t d)
stands_type s n u (stands.followed t d e f more) = subst (IsIn (map (λ (t : Defined). t.name) s.types)) e (in_map (λ (t : Defined). t.name) s.types t d)

-- no entity's name is a type's
pub apart_names : (s : Schema) → IsWellFormed s → (n : List ℕ) → IsEntity s n → IsType s n → ⊥
apart_names s w n h k = apart (map (λ (e : Entity). e.name) s.entities) (map (λ (t : Defined). t.name) s.types) n w.repeated.declarations h k
