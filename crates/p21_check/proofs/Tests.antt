-- Tests that are joined, and what they say.
use Rattle.std.proofs.Common.{◌≡◌, ◌⊎◌, ◌↔◌, ⊎_elim, inl, inr, Bool, true, false, IsTrue, sym, ◌∙◌}
use Rattle.std.proofs.lemmas.Bool.{false≢true}

-- the other way round
pub turned : {A B : Type 0} → A ↔ B → B ↔ A
turned f = (f.1, f.0)

-- one way and back, through a third
pub both : {A B C : Type 0} → A ↔ B → B ↔ C → A ↔ C
both f g = (λ a. g.0 (f.0 a), λ c. f.1 (g.1 c))

pub either_true : {A B : Type 0} {a : Bool} → a ≡ true → IsTrue a ↔ A → IsTrue a ↔ (A ⊎ B)
either_true e f = (λ h. inl (f.0 h), λ _. e)

pub either_false : {A B : Type 0} {a b : Bool} → a ≡ false → IsTrue a ↔ A → IsTrue b ↔ B → IsTrue b ↔ (A ⊎ B)
either_false {A} {B} {a} {b} e f g = (λ h. inr (g.0 h), λ h. ⊎_elim (λ (x : A). absurd (false≢true (sym e ∙ f.1 x))) (λ (y : B). g.1 y) h)

pub each_true : {A B : Type 0} {a b : Bool} → a ≡ true → IsTrue a ↔ A → IsTrue b ↔ B → IsTrue b ↔ (A × B)
each_true e f g = (λ h. (f.0 e, g.0 h), λ h. g.1 h.1)

pub each_false : {A B : Type 0} {a : Bool} → a ≡ false → IsTrue a ↔ A → IsTrue a ↔ (A × B)
each_false e f = (λ h. absurd (false≢true (sym e ∙ h)), λ h. f.1 h.0)
