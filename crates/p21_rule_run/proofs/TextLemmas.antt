-- Texts one after the other.
use Rattle.std.proofs.Common.{◌≡◌, ℕ, zero, suc, List, [], ◌∷◌, ◌++◌, Option, sym, ap, subst, ◌∙◌, append_assoc, arith}
use Rattle.std.specs.Prelude.{All, IfSome, option_map, slice_get}
use Rattle.p21_express.specs.Schema.{Schema}
use Rattle.p21_schema.specs.Place.{IsEntityOf}
use Rattle.p21_schema.specs.declared.ids.EntityId.{EntityId}

-- seven texts after another
pub all_behind : (old a b c d e f g u v w x y z new : List ℕ) → u ≡ old ++ a → v ≡ u ++ b → w ≡ v ++ c → x ≡ w ++ d → y ≡ x ++ e → z ≡ y ++ f → new ≡ z ++ g → new ≡ old ++ (a ++ (b ++ (c ++ (d ++ (e ++ (f ++ g))))))
all_behind old a b c d e f g u v w x y z new p q r s k l m = rw (m, l, k, s, r, q, p) (simp append_assoc)

-- five texts after another
pub lines_behind : (old a b c d e u v w x new : List ℕ) → u ≡ old ++ a → v ≡ u ++ b → w ≡ v ++ c → x ≡ w ++ d → new ≡ x ++ e → new ≡ old ++ (a ++ (b ++ (c ++ (d ++ e))))
lines_behind old a b c d e u v w x new p q r s k = rw (k, s, r, q, p) (simp append_assoc)

-- ---- the entities of rules

-- what is so of each item is so of the one at a place, if there is one
if_there : {A B : Type 0} (P : B → Type 0) (f : A → B) (xs : List A) (k : ℕ) → All (λ x. P (f x)) xs → IfSome (option_map f (slice_get xs k)) P
if_there P f [] k all = tt
if_there P f (x ∷ xs) zero all = all zero x (omega arith)
if_there P f (x ∷ xs) (suc k) all = if_there P f xs k (λ i d less. all (suc i) d (omega arith))

pub entity_there : {R : Type 0} (s : Schema) (f : R → EntityId) (xs ys : List R) (k : ℕ) (o : Option EntityId) → o ≡ option_map f (slice_get ys k) → ys ≡ xs → All (λ x. IsEntityOf s (f x)) xs → IfSome o (IsEntityOf s)
entity_there {R} s f xs ys k o is same all = subst (λ (u : Option EntityId). IfSome u (IsEntityOf s)) (sym (is ∙ ap (λ (l : List R). option_map f (slice_get l k)) same)) (if_there (IsEntityOf s) f xs k all)
