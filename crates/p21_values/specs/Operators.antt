-- The operators and functions of EXPRESS that need no model.
use Rattle.std.specs.Prelude.{ℕ, ℤ, pos, Bool, true, false, List, ◌++◌, length, Option, Some, None}
use Rattle.std.specs.Ordering.{is_ge, is_gt, is_le, is_lt}
use Rattle.p21_values.specs.Plain.{Val, Vals, nothing, truth, whole, number, text, bits, member, instance, typed, several, bare, listed}
use Rattle.p21_values.specs.Aggregates.{high_index_of, in_of, low_index_of, size_of}
use Rattle.p21_values.specs.Arithmetic.{absolute_of, arithmetic_of, division_of, negated_of, number_of, odd_of, root_of}
use Rattle.p21_values.specs.Ends.{Outcome, gives, not_computed}
use Rattle.p21_values.specs.Logic.{and_of, not_of, or_of, truth_of, xor_of}
use Rattle.p21_values.specs.Order.{by_order, order_of}
use Rattle.p21_values.specs.Same.{same_of}
use Rattle.p21_values.specs.Sets.{by_place, collected_of, elements_of, kind_of, subset_of}
use Rattle.p21_values.specs.declared.kind.Kind.{Kind}
use Rattle.p21_values.specs.declared.arithmetic.Arithmetic.{Arithmetic}
use Rattle.p21_values.specs.declared.truth.Truth.{Truth}
use Rattle.p21_values.specs.declared.truth.Truth.TheVariants.{False, Unknown, True}
use Rattle.p21_values.specs.declared.arithmetic.Arithmetic.TheVariants as arithmetic
use Rattle.p21_values.specs.declared.arithmetic.Division.TheVariants as division
use Rattle.std.specs.declared.cmp.Ordering.{Ordering}
use Rattle.p21_values.specs.declared.operators.Relation.{Relation}
use Rattle.p21_values.specs.declared.operators.Relation.TheVariants as relation
use Rattle.p21_values.specs.declared.operators.UnaryOperator.{UnaryOperator}
use Rattle.p21_values.specs.declared.operators.UnaryOperator.TheVariants as unary
use Rattle.p21_values.specs.declared.operators.BinaryOperator.{BinaryOperator}
use Rattle.p21_values.specs.declared.operators.BinaryOperator.TheVariants as binary

-- a value as a truth: UNKNOWN where it is none
abbrev pub logical_of : Val → Truth
logical_of (truth l) = l
logical_of _ = Unknown

-- EXISTS: whether a value is not `?`
abbrev pub exists_of : Val → Truth
exists_of nothing = False
exists_of _ = True

-- NVL: a value, or another in the place of `?`
abbrev pub value_or : Val → Val → Val → Val
value_or nothing v w = w
value_or _ v w = v

abbrev pub nvl_of : Val → Val → Val
nvl_of v w = value_or (bare v) v w

-- LENGTH: how many characters a text has
abbrev pub length_of : Val → Val
length_of (text t) = whole (pos (length t))
length_of _ = nothing

-- BLENGTH: how many bits a binary has
abbrev pub bit_length_of : Val → Val
bit_length_of (bits t) = whole (pos (length t))
bit_length_of _ = nothing

-- what an operator or function gives of a value without defined types
abbrev pub unary_bare : UnaryOperator → Val → Outcome Val
unary_bare unary.Not v = gives (truth (not_of (logical_of v)))
unary_bare unary.Negate v = negated_of v
unary_bare unary.Plus v = gives (number_of v)
unary_bare unary.Absolute v = absolute_of v
unary_bare unary.SquareRoot v = gives (root_of v)
unary_bare unary.Odd v = gives (truth (odd_of v))
unary_bare unary.Exists v = gives (truth (exists_of v))
unary_bare unary.SizeOf v = gives (size_of v)
unary_bare unary.LowIndex v = gives (low_index_of v)
unary_bare unary.HighIndex v = high_index_of v
unary_bare unary.Length v = gives (length_of v)
unary_bare unary.BitLength v = gives (bit_length_of v)

-- what an operator or function gives of a value: its defined types play no part
abbrev pub unary_of : UnaryOperator → Val → Outcome Val
unary_of op v = unary_bare op (bare v)

-- whether a relation holds of an order
abbrev pub holds_of : Relation → Ordering → Bool
holds_of relation.Less o = is_lt o
holds_of relation.LessOrEqual o = is_le o
holds_of relation.Greater o = is_gt o
holds_of relation.GreaterOrEqual o = is_ge o

-- `+` of texts and of binaries puts them together
abbrev pub text_plus : List ℕ → Val → Val
text_plus t (text u) = text (t ++ u)
text_plus t _ = nothing

abbrev pub bits_plus : List ℕ → Val → Val
bits_plus t (bits u) = bits (t ++ u)
bits_plus t _ = nothing

-- `+` of two values without defined types
abbrev pub plus_of : Val → Val → Outcome Val
plus_of (text t) w = gives (text_plus t w)
plus_of (bits t) w = gives (bits_plus t w)
plus_of v w = arithmetic_of arithmetic.Add v w

-- an operator of numbers, and `+` of texts and of binaries
abbrev pub scalar_of : Arithmetic → Val → Val → Outcome Val
scalar_of arithmetic.Add v w = plus_of v w
scalar_of op v w = arithmetic_of op v w

-- an operator where the first aggregate among the two values has a kind, or neither is an aggregate
abbrev pub combined_by : Option Kind → Arithmetic → Val → Val → Outcome Val
combined_by None op v w = scalar_of op v w
combined_by (Some k) op v w = gives (collected_of op k (elements_of v) (elements_of w))

-- an operator of numbers, texts, binaries or aggregates
abbrev pub combined_of : Arithmetic → Val → Val → Outcome Val
combined_of op v w = combined_by (kind_of v w) op v w

-- `<=` and `>=` of two values: of aggregates, whether the one is a subset of the other
abbrev pub related_of : Relation → Val → Val → Truth
related_of r v w = by_order (holds_of r) (order_of v w)

abbrev pub at_most : Val → Val → Truth
at_most (several k vs) (several l ws) = subset_of (listed vs) (listed ws)
at_most v w = related_of relation.LessOrEqual v w

abbrev pub at_least : Val → Val → Truth
at_least (several k vs) (several l ws) = subset_of (listed ws) (listed vs)
at_least v w = related_of relation.GreaterOrEqual v w

-- what an operator gives of two values without defined types, by a comparison of instances for `=`
abbrev pub binary_bare : (ℕ → ℕ → Truth) → BinaryOperator → Val → Val → Outcome Val
binary_bare e binary.And v w = gives (truth (and_of (logical_of v) (logical_of w)))
binary_bare e binary.Or v w = gives (truth (or_of (logical_of v) (logical_of w)))
binary_bare e binary.Xor v w = gives (truth (xor_of (logical_of v) (logical_of w)))
binary_bare e binary.Equal v w = gives (truth (same_of e v w))
binary_bare e binary.NotEqual v w = gives (truth (not_of (same_of e v w)))
binary_bare e binary.Same v w = gives (truth (same_of by_place v w))
binary_bare e binary.NotSame v w = gives (truth (not_of (same_of by_place v w)))
binary_bare e binary.In v w = gives (truth (in_of by_place v w))
binary_bare e binary.Less v w = gives (truth (related_of relation.Less v w))
binary_bare e binary.LessOrEqual v w = gives (truth (at_most v w))
binary_bare e binary.Greater v w = gives (truth (related_of relation.Greater v w))
binary_bare e binary.GreaterOrEqual v w = gives (truth (at_least v w))
binary_bare e binary.Add v w = combined_of arithmetic.Add v w
binary_bare e binary.Subtract v w = combined_of arithmetic.Subtract v w
binary_bare e binary.Multiply v w = combined_of arithmetic.Multiply v w
binary_bare e binary.Divide v w = combined_of arithmetic.Divide v w
binary_bare e binary.Quotient v w = division_of division.Quotient v w
binary_bare e binary.Remainder v w = division_of division.Remainder v w

-- what an operator gives of two values: their defined types play no part
abbrev pub binary_of : (ℕ → ℕ → Truth) → BinaryOperator → Val → Val → Outcome Val
binary_of e op v w = binary_bare e op (bare v) (bare w)
