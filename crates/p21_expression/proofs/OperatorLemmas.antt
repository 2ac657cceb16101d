-- What the readers of operators and literals leave.
use Rattle.std.proofs.Common.{◌≡◌, ℕ, ◌<◌, ◌≤◌, Bool, true, false, cond, List, [], ◌∷◌, length, Option, Some, None, arith}
use Rattle.std.specs.Prelude.{codes, ◌==◌}
use Rattle.std.specs.Str.{bytes_eq}
use Rattle.p21_express.specs.Word.{Word, name, integer, string, symbol, is_symbol, begins_symbol}
use Rattle.p21_express.specs.Reader.{◌>>=◌, symbol_at}
use Rattle.p21_expression.specs.declared.tree.BinaryOperator.{BinaryOperator}
use Rattle.p21_expression.specs.declared.tree.BinaryOperator.TheVariants as operator
use Rattle.p21_expression.specs.Literals.{integer_at, if_integer_at, if_symbol, signed_integer_at, is_exponent, behind_exponent_at, real_at, number_at, binary_at, truth_of, truth_at, literal_at}
use Rattle.p21_expression.specs.Operators.{longer_at, less_at, same_instance_at, other_instance_at, instance_operator_at, combine_at, symbol_operator_at, word_operator_of, with_words, operator_at}
use Rattle.p21_expression.proofs.LengthLemmas.{Leaves, leaves_none, leaves_some, then, either, symbol_leaves}

-- ---- operators

longer_leaves : (c : ℕ) (long short : BinaryOperator) (n : ℕ) (ws : List Word) → length ws < n → length (longer_at c long short ws).1 < n
longer_leaves c long short n [] h = h
longer_leaves c long short n (w ∷ ws) h = elim (is_symbol c w) as (λ (b : Bool). length (cond {A = BinaryOperator × List Word} b (long, ws) (short, w ∷ ws)).1 < n) [ true ↦ omega arith | false ↦ h ]

less_leaves : (n : ℕ) (ws : List Word) → length ws < n → length (less_at ws).1 < n
less_leaves n ws h = elim (begins_symbol 62 ws) as (λ (b : Bool). length (cond {A = BinaryOperator × List Word} b (longer_at 62 operator.NotEqual operator.Less ws) (longer_at 61 operator.LessOrEqual operator.Less ws)).1 < n) [ true ↦ longer_leaves 62 operator.NotEqual operator.Less n ws h | false ↦ longer_leaves 61 operator.LessOrEqual operator.Less n ws h ]

same_leaves : (n : ℕ) (ws : List Word) → length ws < n → Leaves (λ x. x.1) n (same_instance_at ws)
same_leaves n ws h = then (symbol_at 61 ws) _ (symbol_leaves 61 n ws (omega arith)) (λ e he. then (symbol_at 58 e) _ (symbol_leaves 58 n e (omega arith)) (λ r hr. leaves_some _ hr))

other_leaves : (n : ℕ) (ws : List Word) → length ws < n → Leaves (λ x. x.1) n (other_instance_at ws)
other_leaves n ws h = then (symbol_at 60 ws) _ (symbol_leaves 60 n ws (omega arith)) (λ l hl. then (symbol_at 62 l) _ (symbol_leaves 62 n l (omega arith)) (λ g hg. then (symbol_at 58 g) _ (symbol_leaves 58 n g (omega arith)) (λ r hr. leaves_some _ hr)))

combine_leaves : (n : ℕ) (ws : List Word) → length ws < n → Leaves (λ x. x.1) n (combine_at ws)
combine_leaves n ws h = then (symbol_at 124 ws) _ (symbol_leaves 124 n ws (omega arith)) (λ r hr. leaves_some _ hr)

symbol_operator_leaves : (n c : ℕ) (ws : List Word) → length ws < n → Leaves (λ x. x.1) n (symbol_operator_at c ws)
unfolding symbol_operator_at
symbol_operator_leaves n c ws h =
    either (c == 42) _ _ (leaves_some _ (longer_leaves 42 operator.Power operator.Times n ws h))
    (either (c == 47) _ _ (leaves_some _ h)
    (either (c == 43) _ _ (leaves_some _ h)
    (either (c == 45) _ _ (leaves_some _ h)
    (either (c == 61) _ _ (leaves_some _ h)
    (either (c == 60) _ _ (leaves_some _ (less_leaves n ws h))
    (either (c == 62) _ _ (leaves_some _ (longer_leaves 61 operator.GreaterOrEqual operator.Greater n ws h))
    (either (c == 124) _ _ (combine_leaves n ws h)
    (either (c == 58) _ _ (either (begins_symbol 61 ws) _ _ (same_leaves n ws h) (other_leaves n ws h)) leaves_none))))))))

with_words_leaves : (o : Option BinaryOperator) (n : ℕ) (ws : List Word) → length ws < n → Leaves (λ x. x.1) n (with_words o ws)
with_words_leaves None n ws h = leaves_none
with_words_leaves (Some o) n ws h = leaves_some _ h

pub operator_leaves : (n : ℕ) (ws : List Word) → length ws ≤ n → Leaves (λ x. x.1) n (operator_at ws)
operator_leaves n [] h = leaves_none
operator_leaves n (name m ∷ ws) h = with_words_leaves (word_operator_of m) n ws (omega arith)
operator_leaves n (integer v ∷ ws) h = leaves_none
operator_leaves n (string ∷ ws) h = leaves_none
operator_leaves n (symbol b ∷ ws) h = symbol_operator_leaves n b ws (omega arith)

-- ---- literals

integer_leaves : (n : ℕ) (ws : List Word) → length ws ≤ n → Leaves (λ r. r) n (integer_at ws)
integer_leaves n [] h = leaves_none
integer_leaves n (name m ∷ ws) h = leaves_none
integer_leaves n (integer v ∷ ws) h = leaves_some ws (omega arith)
integer_leaves n (string ∷ ws) h = leaves_none
integer_leaves n (symbol b ∷ ws) h = leaves_none

if_integer_leaves : (n : ℕ) (ws : List Word) → length ws < n → length (if_integer_at ws).1 < n
if_integer_leaves n [] h = h
if_integer_leaves n (name m ∷ ws) h = h
if_integer_leaves n (integer v ∷ ws) h = omega arith
if_integer_leaves n (string ∷ ws) h = h
if_integer_leaves n (symbol b ∷ ws) h = h

if_symbol_leaves : (c n : ℕ) (ws : List Word) → length ws < n → length (if_symbol c ws).1 < n
if_symbol_leaves c n [] h = h
if_symbol_leaves c n (w ∷ ws) h = elim (is_symbol c w) as (λ (b : Bool). length (cond {A = Bool × List Word} b (true, ws) (false, w ∷ ws)).1 < n) [ true ↦ omega arith | false ↦ h ]

signed_leaves : (n : ℕ) (ws : List Word) → length ws < n → Leaves (λ r. r) n (signed_integer_at ws)
signed_leaves n ws h =
    either (begins_symbol 45 ws) _ _
    (let k = if_symbol_leaves 45 n ws h in integer_leaves n (if_symbol 45 ws).1 (omega arith))
    (let k = if_symbol_leaves 43 n ws h in integer_leaves n (if_symbol 43 ws).1 (omega arith))

exponent_leaves : (n : ℕ) (ws : List Word) → length ws < n → Leaves (λ r. r) n (behind_exponent_at ws)
unfolding behind_exponent_at
exponent_leaves n [] h = leaves_some [] h
exponent_leaves n (name m ∷ ws) h = either (bytes_eq m (codes "E")) _ _ (signed_leaves n ws (omega arith)) (either (is_exponent m) _ _ (leaves_some ws (omega arith)) (leaves_some (name m ∷ ws) h))
exponent_leaves n (integer v ∷ ws) h = leaves_some (integer v ∷ ws) h
exponent_leaves n (string ∷ ws) h = leaves_some (string ∷ ws) h
exponent_leaves n (symbol b ∷ ws) h = leaves_some (symbol b ∷ ws) h

number_leaves : (v : Option ℕ) (place n : ℕ) (ws : List Word) → length ws < n → Leaves (λ x. x.1) n (number_at v place ws)
unfolding number_at
number_leaves v place n ws h = either (begins_symbol 46 ws) _ _ (then (symbol_at 46 ws) _ (symbol_leaves 46 n ws (omega arith)) (λ f hf. then (behind_exponent_at (if_integer_at f).1) _ (exponent_leaves n (if_integer_at f).1 (if_integer_leaves n f hf)) (λ r hr. leaves_some _ hr))) (leaves_some _ h)

pub literal_leaves : (n : ℕ) (ws : List Word) → length ws ≤ n → Leaves (λ x. x.1) n (literal_at ws)
unfolding literal_at
literal_leaves n [] h = leaves_none
literal_leaves n (name m ∷ ws) h = then {first = λ t. ws} {m = n} (truth_of m) _ (record { fewer = λ x e. omega arith }) (λ t ht. leaves_some _ ht)
literal_leaves n (integer v ∷ ws) h = number_leaves v (length (integer v ∷ ws)) n ws (omega arith)
literal_leaves n (string ∷ ws) h = leaves_some _ (omega arith)
literal_leaves n (symbol b ∷ ws) h = either (b == 37) _ _ (then (integer_at ws) _ (integer_leaves n ws (omega arith)) (λ r hr. leaves_some _ hr)) leaves_none
