-- Which value a parameter is.
use Rattle.std.specs.Prelude.{ℕ, List, [], ◌∷◌}
use Rattle.p21_express.specs.Schema.{Schema, Expr, Aggregate, named}
use Rattle.p21_tree.specs.Tree.{Tree, Trees}
use Rattle.p21_tree.specs.Tree as tree
use Rattle.p21_rules.specs.Arranged.{AreArranged}
use Rattle.p21_rules.specs.Bits.{bits}
use Rattle.p21_rules.specs.Elements.{IsListOf, is_ordered}
use Rattle.p21_rules.specs.Number.{integer_of, real_of, IsNear}
use Rattle.p21_rules.specs.Text.{IsTextValue}
use Rattle.p21_rules.specs.Value.{Value, gathered, listed}
use Rattle.p21_rules.specs.Value as value

mutual
  -- A parameter of a type is a value. `$`, `*`, reals whose exponent is 10^17 or more, or -10^17 or less, and lists with such an element are none that is
  -- compared, nor is a list for which the type is no aggregate. A typed parameter is of the type that is its keyword.
  pub data Means (s : Schema) : Expr → Tree → Value → Type 0 where
    integer : {x : Expr} {t : List ℕ} → Means s x (tree.int t) (integer_of t)
    real : {x : Expr} {t : List ℕ} → IsNear t → Means s x (tree.real t) (real_of t)
    text : {x : Expr} {t : List ℕ} {v : Value} → IsTextValue t v → Means s x (tree.str t) v
    item : {x : Expr} {t : List ℕ} → Means s x (tree.enumeration t) (value.item t)
    instance : {x : Expr} {n : ℕ} → Means s x (tree.reference n) (value.instance n)
    binary : {x : Expr} {t : List ℕ} → Means s x (tree.binary t) (value.binary (bits t))
    list : {x e : Expr} {a : Aggregate} {ts : Trees} {vs : List Value} (us : List Value) → IsListOf s x a e → MeanEach s e ts vs → AreArranged (is_ordered a) vs us → Means s x (tree.items ts) (gathered (is_ordered a) (listed us))
    typed : {x : Expr} {k : List ℕ} {t : Tree} {v : Value} → Means s (named k) t v → Means s x (tree.typed k t) (value.typed k v)

  -- the elements of a list are these values, in their order
  pub data MeanEach (s : Schema) : Expr → Trees → List Value → Type 0 where
    none : {e : Expr} → MeanEach s e tree.nil []
    more : {e : Expr} {t : Tree} {ts : Trees} {v : Value} {vs : List Value} → Means s e t v → MeanEach s e ts vs → MeanEach s e (tree.cons t ts) (v ∷ vs)
