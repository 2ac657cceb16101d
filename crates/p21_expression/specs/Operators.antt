-- The operators of two operands, and how tightly they bind.
use Rattle.std.specs.Prelude.{ℕ, Bool, true, false, List, [], ◌∷◌, Option, Some, None, if◌then◌else◌, ◌==◌, codes, not}
use Rattle.std.specs.Str.{bytes_eq}
use Rattle.p21_express.specs.Word.{Word, name, integer, string, symbol, is_symbol, begins_symbol}
use Rattle.p21_express.specs.Reader.{◌>>=◌, symbol_at}
use Rattle.p21_expression.specs.declared.operators.Precedence.{Precedence}
use Rattle.p21_expression.specs.declared.operators.Precedence.TheVariants as precedence
use Rattle.p21_expression.specs.declared.tree.BinaryOperator.{BinaryOperator}
use Rattle.p21_expression.specs.declared.tree.BinaryOperator.TheVariants as operator

-- how many bind more loosely
abbrev pub rank_of : Precedence → ℕ
rank_of precedence.Relation = 0
rank_of precedence.Sum = 1
rank_of precedence.Product = 2
rank_of precedence.Power = 3

-- `**` binds most tightly, then what is like multiplication, then what is like addition, and the relations most loosely
abbrev pub precedence_of : BinaryOperator → Precedence
precedence_of operator.Power = precedence.Power
precedence_of operator.Times = precedence.Product
precedence_of operator.Divide = precedence.Product
precedence_of operator.Div = precedence.Product
precedence_of operator.Mod = precedence.Product
precedence_of operator.And = precedence.Product
precedence_of operator.Combine = precedence.Product
precedence_of operator.Plus = precedence.Sum
precedence_of operator.Minus = precedence.Sum
precedence_of operator.Or = precedence.Sum
precedence_of operator.Xor = precedence.Sum
precedence_of operator.Less = precedence.Relation
precedence_of operator.Greater = precedence.Relation
precedence_of operator.LessOrEqual = precedence.Relation
precedence_of operator.GreaterOrEqual = precedence.Relation
precedence_of operator.NotEqual = precedence.Relation
precedence_of operator.Equal = precedence.Relation
precedence_of operator.OtherInstance = precedence.Relation
precedence_of operator.SameInstance = precedence.Relation
precedence_of operator.In = precedence.Relation
precedence_of operator.Like = precedence.Relation

-- the longer operator where this symbol goes on, and else the shorter one, and the words after it
abbrev pub longer_at : ℕ → BinaryOperator → BinaryOperator → List Word → BinaryOperator × List Word
longer_at c long short [] = (short, [])
longer_at c long short (w ∷ ws) = if is_symbol c w then (long, ws) else (short, w ∷ ws)

-- `<>`, `<=` or `<`, after the `<`
abbrev pub less_at : List Word → BinaryOperator × List Word
less_at ws = if begins_symbol 62 ws then longer_at 62 operator.NotEqual operator.Less ws else longer_at 61 operator.LessOrEqual operator.Less ws

-- `:=:`, after the first colon
abbrev pub same_instance_at : List Word → Option (BinaryOperator × List Word)
same_instance_at ws = do
  equal ← symbol_at 61 ws
  rest ← symbol_at 58 equal
  Some (operator.SameInstance, rest)

-- `:<>:`, after the first colon
abbrev pub other_instance_at : List Word → Option (BinaryOperator × List Word)
other_instance_at ws = do
  less ← symbol_at 60 ws
  greater ← symbol_at 62 less
  rest ← symbol_at 58 greater
  Some (operator.OtherInstance, rest)

abbrev pub instance_operator_at : List Word → Option (BinaryOperator × List Word)
instance_operator_at ws = if begins_symbol 61 ws then same_instance_at ws else other_instance_at ws

-- `||`, after the first bar
abbrev pub combine_at : List Word → Option (BinaryOperator × List Word)
combine_at ws = do
  rest ← symbol_at 124 ws
  Some (operator.Combine, rest)

-- the operator that begins with this symbol, and the words after it: of two that begin alike the longer
unfoldable pub symbol_operator_at : ℕ → List Word → Option (BinaryOperator × List Word)
symbol_operator_at c ws =
    if c == 42 then Some (longer_at 42 operator.Power operator.Times ws) else
    (if c == 47 then Some (operator.Divide, ws) else
    (if c == 43 then Some (operator.Plus, ws) else
    (if c == 45 then Some (operator.Minus, ws) else
    (if c == 61 then Some (operator.Equal, ws) else
    (if c == 60 then Some (less_at ws) else
    (if c == 62 then Some (longer_at 61 operator.GreaterOrEqual operator.Greater ws) else
    (if c == 124 then combine_at ws else
    (if c == 58 then instance_operator_at ws else None))))))))

-- the operator that is this word
unfoldable pub word_operator_of : List ℕ → Option BinaryOperator
word_operator_of n =
    if bytes_eq n (codes "AND") then Some operator.And else
    (if bytes_eq n (codes "OR") then Some operator.Or else
    (if bytes_eq n (codes "IN") then Some operator.In else
    (if bytes_eq n (codes "LIKE") then Some operator.Like else
    (if bytes_eq n (codes "XOR") then Some operator.Xor else
    (if bytes_eq n (codes "DIV") then Some operator.Div else
    (if bytes_eq n (codes "MOD") then Some operator.Mod else None))))))

-- an operator and these words
abbrev pub with_words : Option BinaryOperator → List Word → Option (BinaryOperator × List Word)
with_words None ws = None
with_words (Some o) ws = Some (o, ws)

-- the operator with which words begin, and those after it
abbrev pub operator_at : List Word → Option (BinaryOperator × List Word)
operator_at [] = None
operator_at (name n ∷ ws) = with_words (word_operator_of n) ws
operator_at (integer v ∷ ws) = None
operator_at (string ∷ ws) = None
operator_at (symbol b ∷ ws) = symbol_operator_at b ws

abbrev pub is_other : Precedence → Option (BinaryOperator × List Word) → Bool
is_other p None = true
is_other p (Some x) = not (rank_of (precedence_of x.0) == rank_of p)

-- no operator of this precedence stands there
abbrev pub ends_operations : Precedence → List Word → Bool
ends_operations p ws = is_other p (operator_at ws)
