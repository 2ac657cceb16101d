-- Entities by their ids.
use Rattle.std.proofs.Common.{◌≡◌, ◌↔◌, ⊎_elim, inr, Bool, true, false, IsTrue, refl, sym, ap, subst, ◌∙◌, arith, nat_eq}
use Rattle.std.specs.Prelude.{not}
use Rattle.std.proofs.lemmas.Bool.Decides.{nat_tests}
use Rattle.p21_express.specs.Schema.{Schema}
use Rattle.p21_express.specs.WellFormed.{IsAncestor, IsWellFormed}
use Rattle.p21_schema.specs.declared.ids.EntityId.{EntityId}
use Rattle.p21_schema.specs.Place.{entity_name, IsEntityOf}
use Rattle.p21_schema.specs.Ancestry.{IsA, entity_id}

-- one way and back, through a third
pub both : {A B C : Type 0} → A ↔ B → B ↔ C → A ↔ C
both f g = (λ a. g.0 (f.0 a), λ c. f.1 (g.1 c))

-- a test of two ids says whether they are the same
pub same_id : (r : Bool) (a b : EntityId) → r ≡ nat_eq a.index b.index → IsTrue r ↔ (a ≡ b)
same_id r a b e = (
  λ h. let same : a.index ≡ b.index = (let k = sym e ∙ h in grind (arith, nat_tests, k)) in ap entity_id same,
  λ h. let same : nat_eq b.index b.index ≡ true = grind (arith, nat_tests) in e ∙ ap (λ (x : EntityId). nat_eq x.index b.index) h ∙ same,
)

pub not_true : (b : Bool) → not b ≡ true → b ≡ false
not_true true h = sym h
not_true false h = refl

pub not_false : (b : Bool) → not b ≡ false → b ≡ true
not_false true h = refl
not_false false h = sym h

-- an entity that is another one is below it or not
pub below_by : (s : Schema) (a b : EntityId) (one : (x y : EntityId) → IsEntityOf s x → IsEntityOf s y → entity_name s x ≡ entity_name s y → x ≡ y) (r : Bool) → IsEntityOf s a → IsEntityOf s b → ¬ (a ≡ b) → IsTrue r ↔ IsA s a b → IsTrue r ↔ IsAncestor s (entity_name s a) (entity_name s b)
below_by s a b one r x y other h = (
  λ t. ⊎_elim (λ (e : entity_name s a ≡ entity_name s b). absurd (other (one a b x y e))) (λ (k : IsAncestor s (entity_name s a) (entity_name s b)). k) (h.0 t),
  λ k. h.1 (inr k),
)

-- no entity is below itself
pub not_below : (s : Schema) (a b : EntityId) → IsWellFormed s → a ≡ b → ¬ (IsAncestor s (entity_name s a) (entity_name s b))
not_below s a b w e k = w.cycles.entities (entity_name s b) (subst (λ (x : EntityId). IsAncestor s (entity_name s x) (entity_name s b)) e k)
