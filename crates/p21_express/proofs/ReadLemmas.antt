-- Steps of reading that fail.
use Rattle.std.proofs.Common.{◌≡◌, ℕ, zero, suc, ◌-◌, List, Option, Some, None, refl, arith}
use Rattle.p21_express.specs.declared.refusal.Refusal.{Refusal}
use Rattle.p21_express.specs.declared.refusal.Refusal.TheVariants as refusal
use Rattle.p21_express.specs.declared.keywords.TypeWord.TheVariants as types
use Rattle.p21_express.specs.declared.keywords.SimpleWord.{SimpleWord}
use Rattle.p21_express.specs.declared.keywords.AggregateWord.{AggregateWord}
use Rattle.p21_express.specs.Keywords.{type_word_of}
use Rattle.p21_express.specs.Word.{Word}
use Rattle.p21_express.specs.Schema.{aggregate}
use Rattle.p21_express.specs.Reader.{◌>>=◌, Fails, name_at, simple_at, aggregate_at, expr_at}

pub fails_along : {A B : Type 0} (e : Refusal) (a : Option A) (b : Option B) → (a ≡ None → b ≡ None) → Fails e a → Fails e b
fails_along refusal.Memory a b f h = tt
fails_along (refusal.Refused k n) a b f h = f h

pub expr_none : (left : ℕ) (ws : List Word) → name_at ws ≡ None → expr_at left ws ≡ None
unfolding expr_at
expr_none zero ws h = rw h refl
expr_none (suc left) ws h = rw h refl

pub expr_simple : (left : ℕ) (ws : List Word) (n : List ℕ) (rest : List Word) (w : SimpleWord) → name_at ws ≡ Some (n, rest) → type_word_of n ≡ types.Simple w → expr_at left ws ≡ simple_at n w rest
unfolding expr_at
expr_simple zero ws n rest w h t = rw (h, t) refl
expr_simple (suc left) ws n rest w h t = rw (h, t) refl

pub expr_flat : (left : ℕ) (ws : List Word) (n : List ℕ) (rest : List Word) (w : AggregateWord) → left ≡ 0 → name_at ws ≡ Some (n, rest) → type_word_of n ≡ types.Aggregate w → expr_at left ws ≡ None
unfolding expr_at
expr_flat zero ws n rest w z h t = rw (h, t) refl
expr_flat (suc left) ws n rest w z h t = absurd (cc)

pub expr_nested : (left : ℕ) (ws : List Word) (n : List ℕ) (rest : List Word) (w : AggregateWord) → (left ≡ 0 → ⊥) → name_at ws ≡ Some (n, rest) → type_word_of n ≡ types.Aggregate w → expr_at left ws ≡ (aggregate_at w rest >>= λ a. expr_at (left - 1) a.1 >>= λ e. Some (aggregate a.0 e.0, e.1))
unfolding expr_at
expr_nested zero ws n rest w z h t = absurd (z refl)
expr_nested (suc left) ws n rest w z h t = let k : suc left - 1 ≡ left = omega arith in rw (k, h, t) refl
