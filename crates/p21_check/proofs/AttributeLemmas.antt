-- The attributes of a record are one list.
use Rattle.std.proofs.Common.{◌≡◌, ◌⊎◌, ⊎_elim, inl, inr, ℕ, zero, suc, ◌+◌, ◌<◌, ◌≤◌, Bool, true, false, List, [], ◌∷◌, ◌++◌, Some, map, length, get_or, refl, sym, ap, subst, ◌∙◌, arith}
use Rattle.std.specs.Prelude.{slice_get}
use Rattle.p21_express.specs.Schema.{Schema, Entity, Defined}
use Rattle.p21_express.specs.WellFormed.{IsIn, AreDistinct, IsWellFormed, Origin}
use Rattle.p21_tree.specs.Tree.{Tree}
use Rattle.p21_tree.specs.declared.params.Param.{Param}
use Rattle.p21_tree.specs.Plain.{plain, plain_all}
use Rattle.p21_schema.specs.declared.ids.EntityId.{EntityId}
use Rattle.p21_schema.specs.Place.{no_entity, entity_at, entity_name, IsEntityOf}
use Rattle.p21_schema.specs.Row.{IsRow, AreRows, own_attributes, first_places, same_origin}
use Rattle.p21_schema.specs.Row as row
use Rattle.p21_check.specs.Attributes.{AreAttributes}
use Rattle.p21_check.specs.Attributes as attributes
use Rattle.p21_check.specs.Slot.{FitsSlot}
use Rattle.p21_check.specs.LocalFault.{tree_get}
use Rattle.p21_check.specs.Instances.{IsUnfitAt}
use Rattle.p21_check.proofs.TypeLemmas.{in_front, one_by_name}

distinct_front : (xs ys : List (List ℕ)) → AreDistinct (xs ++ ys) → AreDistinct xs
distinct_front [] ys h = tt
distinct_front (x ∷ xs) ys h = (λ k. h.0 (in_front xs ys x k), distinct_front xs ys h.1)

pub one_entity : (s : Schema) → IsWellFormed s → (e f : Entity) → IsIn s.entities e → IsIn s.entities f → e.name ≡ f.name → e ≡ f
one_entity s w e f a b h = one_by_name (λ (x : Entity). x.name) s.entities e f (distinct_front (map (λ (x : Entity). x.name) s.entities) (map (λ (t : Defined). t.name) s.types) w.repeated.declarations) a b h

there_at : (es : List Entity) (i : ℕ) → i < length es → IsIn es (get_or es i no_entity)
there_at [] i h = absurd (omega arith)
there_at (e ∷ es) zero h = inl refl
there_at (e ∷ es) (suc i) h = inr (there_at es i (omega arith))

-- the entity of an id is one of the schema's
pub entity_there : (s : Schema) (e : EntityId) → IsEntityOf s e → IsIn s.entities (entity_at s e)
entity_there s e h = there_at s.entities e.index h

module _ (s : Schema) (w : IsWellFormed s) where
  mutual
    one_row : {n : List ℕ} {a b : List Origin} → IsRow s n a → IsRow s n b → a ≡ b
    one_row (row.row {above = p} e i x r g) (row.row {above = q} f j y t h) =
        let same : f ≡ e = one_entity s w f e j i (y ∙ sym x) in
        let above : p ≡ q = one_rows r (subst (λ (z : Entity). AreRows s z.supertypes q) same t) in
        g ∙ ap (λ l. first_places same_origin (l ++ own_attributes e)) above ∙ ap (λ (z : Entity). first_places same_origin (q ++ own_attributes z)) (sym same) ∙ sym h

    one_rows : {ns : List (List ℕ)} {a b : List Origin} → AreRows s ns a → AreRows s ns b → a ≡ b
    one_rows (row.none g) (row.none h) = g ∙ sym h
    one_rows (row.more {rest = l} r rs g) (row.more {one = y} t ts h) =
        g ∙ ap (λ x. x ++ l) (one_row r t) ∙ ap (λ x. y ++ x) (one_rows rs ts) ∙ sym h

  pub one_list : {c : Bool} {n : List ℕ} {a b : List Origin} → AreAttributes s c n a → AreAttributes s c n b → a ≡ b
  one_list (attributes.simple r) (attributes.simple t) = one_row r t
  one_list (attributes.complex e i x g) (attributes.complex f j y h) = sym g ∙ ap own_attributes (one_entity s w e f i j (x ∙ sym y)) ∙ h

-- the own attributes of an id's entity
pub own_of : (s : Schema) (e : EntityId) → IsEntityOf s e → AreAttributes s true (entity_name s e) (own_attributes (entity_at s e))
own_of s e h = attributes.complex (entity_at s e) (entity_there s e h) refl refl

pub row_of : {s : Schema} {n : List ℕ} {os : List Origin} → AreAttributes s false n os → IsRow s n os
row_of (attributes.simple r) = r

pub param_there : (ps : List Param) (i : ℕ) (d : Param) → i < length ps → tree_get (plain_all ps) i ≡ Some (plain (get_or ps i d))
param_there [] i d h = absurd (omega arith)
param_there (p ∷ ps) zero d h = refl
param_there (p ∷ ps) (suc i) d h = param_there ps i d (omega arith)

pub param_below : (ps : List Param) (i : ℕ) (t : Tree) → tree_get (plain_all ps) i ≡ Some t → i < length ps
param_below [] i t h = absurd (cc)
param_below (p ∷ ps) zero t h = omega arith
param_below (p ∷ ps) (suc i) t h = let more = param_below ps i t h in omega arith

module _ (s : Schema) (S : List ℕ → Type 0) (os : List Origin) (ps : List Param) where
  pub unfit_here : (i : ℕ) (d : Param) (o : Origin) → i < length ps → slice_get os i ≡ Some o → ¬ (FitsSlot s S o (plain (get_or ps i d))) → IsUnfitAt s S os (plain_all ps) i
  unfit_here i d o h e no_fit = (o, plain (get_or ps i d), e, param_there ps i d h, no_fit)

  pub fit_here : (i : ℕ) (d : Param) (o : Origin) → i < length ps → slice_get os i ≡ Some o → FitsSlot s S o (plain (get_or ps i d)) → ¬ (IsUnfitAt s S os (plain_all ps) i)
  fit_here i d o h e fit u =
      let a : Some o ≡ Some u.0 = sym e ∙ u.2 in
      let b : Some (plain (get_or ps i d)) ≡ Some u.1 = sym (param_there ps i d h) ∙ u.3 in
      let o_is : o ≡ u.0 = cc in
      let t_is : plain (get_or ps i d) ≡ u.1 = cc in
      u.4 (subst (λ x. FitsSlot s S x u.1) o_is (subst (FitsSlot s S o) t_is fit))

  pub none_behind : (b : ℕ) → length ps ≤ b → ¬ (IsUnfitAt s S os (plain_all ps) b)
  none_behind b h u = let less = param_below ps b u.1 u.3 in absurd (omega arith)

-- one more is none
pub none_more : (P : ℕ → Type 0) (i : ℕ) → ((b : ℕ) → b < i → ¬ (P b)) → ¬ (P i) → (b : ℕ) → b < i + 1 → ¬ (P b)
none_more P i before this b h =
    ⊎_elim (λ (e : b ≡ i). subst (λ x. ¬ (P x)) (sym e) this) (λ (k : b < i). before b k) (less_or b i h) where
      less_or : (b i : ℕ) → b < i + 1 → (b ≡ i) ⊎ (b < i)
      less_or b i h = grind arith

-- none before a place and none from it on
pub none_all : (P : ℕ → Type 0) (i : ℕ) → ((b : ℕ) → b < i → ¬ (P b)) → ((b : ℕ) → i ≤ b → ¬ (P b)) → (b : ℕ) → ¬ (P b)
none_all P i before behind b = ⊎_elim (λ (h : b < i). before b h) (λ (h : i ≤ b). behind b h) (less_or b i) where
  less_or : (b i : ℕ) → (b < i) ⊎ (i ≤ b)
  less_or b i = grind arith
