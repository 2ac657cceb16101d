-- Names of entities and of types, each declared once.
use Rattle.std.proofs.Common.{◌≡◌, ℕ, inl, inr, List, [], ◌∷◌, ◌++◌, map, sym, ap, subst, ◌∙◌}
use Rattle.p21_express.specs.Schema.{Schema, Defined, Underlying, Expr, items, select, plain}
use Rattle.p21_express.specs.WellFormed.{IsIn, AreDistinct, IsEntity, IsSelect, IsSelectType, IsWellFormed}

module _ {X : Type 0} where
  in_back : (xs ys : List X) (y : X) → IsIn ys y → IsIn (xs ++ ys) y
  in_back [] ys y h = h
  in_back (x ∷ xs) ys y h = inr (in_back xs ys y h)

  distinct_back : (xs ys : List X) → AreDistinct (xs ++ ys) → AreDistinct ys
  distinct_back [] ys h = h
  distinct_back (x ∷ xs) ys h = distinct_back xs ys h.1

  apart : (xs ys : List X) (x : X) → AreDistinct (xs ++ ys) → IsIn xs x → IsIn ys x → ⊥
  apart [] ys x h a b = a
  apart (y ∷ xs) ys x h (inl e) b = h.0 (in_back xs ys y (subst (IsIn ys) (sym e) b))
  apart (y ∷ xs) ys x h (inr a) b = apart xs ys x h.1 a b

module _ {X Y : Type 0} where
  pub in_map : (f : X → Y) (xs : List X) (x : X) → IsIn xs x → IsIn (map f xs) (f x)
  in_map f [] x h = elim h [ ]
  in_map f (y ∷ xs) x (inl e) = inl (ap f e)
  in_map f (y ∷ xs) x (inr h) = inr (in_map f xs x h)

  one_of : (f : X → Y) (xs : List X) (a b : X) → AreDistinct (map f xs) → IsIn xs a → IsIn xs b → f a ≡ f b → a ≡ b
  one_of f [] a b h i j s = elim i [ ]
  one_of f (x ∷ xs) a b h (inl e) (inl g) s = sym e ∙ g
  one_of f (x ∷ xs) a b h (inl e) (inr g) s = absurd (h.0 (subst (IsIn (map f xs)) (sym s ∙ ap f (sym e)) (in_map f xs b g)))
  one_of f (x ∷ xs) a b h (inr e) (inl g) s = absurd (h.0 (subst (IsIn (map f xs)) (s ∙ ap f (sym g)) (in_map f xs a e)))
  one_of f (x ∷ xs) a b h (inr e) (inr g) s = one_of f xs a b h.1 e g s

-- one type has a name
pub one_type : (s : Schema) → IsWellFormed s → (a b : Defined) → IsIn s.types a → IsIn s.types b → a.name ≡ b.name → a ≡ b
one_type s w a b h k e = one_of (λ t. t.name) s.types a b (distinct_back (map (λ e. e.name) s.entities) (map (λ t. t.name) s.types) w.repeated.declarations) h k e

-- no entity has a type's name
pub no_type : (s : Schema) → IsWellFormed s → (n : List ℕ) → IsEntity s n → (t : Defined) → IsIn s.types t → t.name ≡ n → ⊥
no_type s w n h t d e = apart (map (λ e. e.name) s.entities) (map (λ t. t.name) s.types) n w.repeated.declarations h (subst (IsIn (map (λ t. t.name) s.types)) e (in_map (λ t. t.name) s.types t d))

pub no_select : (s : Schema) → IsWellFormed s → (n : List ℕ) → IsEntity s n → IsSelect s n → ⊥
no_select s w n h k = no_type s w n h k.type k.declared k.name_is

-- a SELECT's type is the one that has its name
pub select_is : (s : Schema) → IsWellFormed s → (n : List ℕ) → IsSelect s n → (t : Defined) → IsIn s.types t → t.name ≡ n → IsSelectType t.under
select_is s w n k t d e = subst (λ (x : Defined). IsSelectType x.under) (one_type s w k.type t k.declared d (k.name_is ∙ sym e)) k.selects

pub plain_injective : (a b : Expr) → plain a ≡ plain b → a ≡ b
plain_injective a b e = cc

pub no_plain_select : (u : Underlying) (e : Expr) → IsSelectType u → u ≡ plain e → ⊥
no_plain_select (items ns) e h f = h
no_plain_select (select ns) e h f = cc
no_plain_select (plain x) e h f = h
