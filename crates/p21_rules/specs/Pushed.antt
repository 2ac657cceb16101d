-- What is added for a parameter.
use Rattle.std.specs.Prelude.{◌≡◌, ℕ, Bool, true, false, List, [], ◌∷◌, ◌++◌}
use Rattle.p21_express.specs.Schema.{Schema, Expr}
use Rattle.p21_tree.specs.Tree.{Tree, Trees}
use Rattle.p21_rules.specs.Arranged.{AreArranged}
use Rattle.p21_rules.specs.Code.{value_code, elements_code}
use Rattle.p21_rules.specs.Means.{Means, MeanEach}
use Rattle.p21_rules.specs.Number.{real_of, IsNear}
use Rattle.p21_rules.specs.Value.{Value, listed}

-- the parameter's value was added, or the parameter has none
abbrev pub IsPushed : Schema → Expr → Tree → List ℕ → List ℕ → Bool → Type 0
IsPushed s x t old new true = (v : Value) × Means s x t v × (new ≡ old ++ value_code v)
IsPushed s x t old new false = (v : Value) → ¬ (Means s x t v)

-- the value of a real was added, or its exponent is not near
abbrev pub IsRealPushed : List ℕ → List ℕ → List ℕ → Bool → Type 0
IsRealPushed s old new true = IsNear s × (new ≡ old ++ value_code (real_of s))
IsRealPushed s old new false = ¬ (IsNear s)

-- the values of these elements, of one type
pub record HaveEach (s : Schema) (e : Expr) (ordered : Bool) (ts : Trees) (old new : List ℕ) : Type 0 where
  pub values : List Value
  pub arranged : List Value
  pub mean : MeanEach s e ts values
  pub order : AreArranged ordered values arranged
  pub added : new ≡ old ++ elements_code (listed arranged)

-- they and their end were added, or one of them has none
abbrev pub AreEachPushed : Schema → Expr → Bool → Trees → List ℕ → List ℕ → Bool → Type 0
AreEachPushed s e ordered ts old new true = HaveEach s e ordered ts old new
AreEachPushed s e ordered ts old new false = (vs : List Value) → ¬ (MeanEach s e ts vs)

-- codes one after the other, and their end
abbrev pub codes_code : List (List ℕ) → List ℕ
codes_code [] = 0 ∷ []
codes_code (c ∷ cs) = c ++ codes_code cs
