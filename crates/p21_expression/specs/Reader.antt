-- Reading expressions from words: what is read first, and the words after it, or nothing. Each part is given how the expressions within it are read.
use Rattle.std.specs.Prelude.{ℕ, zero, suc, Bool, true, false, List, [], ◌∷◌, length, Option, Some, None, if◌then◌else◌, ◌||◌, codes, not}
use Rattle.p21_express.specs.Word.{Word, is_name, is_symbol, begins_symbol}
use Rattle.p21_express.specs.Reader.{◌>>=◌, many_at, name_at, symbol_at}
use Rattle.p21_expression.specs.declared.literals.OperandWord.{OperandWord}
use Rattle.p21_expression.specs.declared.literals.OperandWord.TheVariants as word
use Rattle.p21_expression.specs.declared.operators.Precedence.{Precedence}
use Rattle.p21_expression.specs.declared.operators.Precedence.TheVariants as precedence
use Rattle.p21_expression.specs.declared.reader.FactorWord.{FactorWord}
use Rattle.p21_expression.specs.declared.reader.FactorWord.TheVariants as factor
use Rattle.p21_expression.specs.declared.tree.Constant.TheVariants as constants
use Rattle.p21_expression.specs.declared.tree.IntervalOperator.{IntervalOperator}
use Rattle.p21_expression.specs.declared.tree.IntervalOperator.TheVariants as comparison
use Rattle.p21_expression.specs.declared.tree.UnaryOperator.{UnaryOperator}
use Rattle.p21_expression.specs.declared.tree.UnaryOperator.TheVariants as sign
use Rattle.p21_expression.specs.Literals.{literal_at, operand_word_of}
use Rattle.p21_expression.specs.Operators.{ends_operations, operator_at}
use Rattle.p21_expression.specs.Tree.{Name, Tree, Qualifier, Step, Element, constant, named, call, unary, aggregate, interval, query, attribute, group, index, range, step, once, repeated, trees, qualifiers, steps, elements, operations, qualified}

-- how operations of a precedence are read within an expression
abbrev pub Inner : Type 0
Inner = Precedence → List Word → Option (Tree × List Word)

-- a name, and where it stands
unfoldable pub named_at : List Word → Option (Name × List Word)
named_at ws = do
  n ← name_at ws
  Some (record { text = n.0; place = length ws }, n.1)

-- ---- operations

abbrev pub is_at_most_one : List Step → Bool
is_at_most_one [] = true
is_at_most_one (s ∷ []) = true
is_at_most_one (s ∷ t ∷ ss) = false

-- relations and powers do not follow one another
abbrev pub fits : Precedence → List Step → Bool
fits precedence.Relation ss = is_at_most_one ss
fits precedence.Power ss = is_at_most_one ss
fits precedence.Sum ss = true
fits precedence.Product ss = true

-- an operator and the operand after it
unfoldable pub operation_at : (List Word → Option (Tree × List Word)) → List Word → Option (Step × List Word)
operation_at operand ws = do
  operator ← operator_at ws
  right ← operand operator.1
  Some (step operator.0 (length ws) right.0, right.1)

-- the operations of a precedence that follow an operand
abbrev pub operations_at : (List Word → Option (Tree × List Word)) → Precedence → List Word → Option (List Step × List Word)
operations_at operand p ws = many_at (ends_operations p) (operation_at operand) ws

-- an operand and the operations of a precedence that follow it
unfoldable pub chain_by : (List Word → Option (Tree × List Word)) → Precedence → List Word → Option (Tree × List Word)
chain_by operand p ws = do
  first ← operand ws
  further ← operations_at operand p first.1
  if fits p further.0 then Some (operations first.0 (steps further.0), further.1) else None

-- ---- calls

-- ',' expression
unfoldable pub next_argument : Inner → List Word → Option (Tree × List Word)
next_argument inner ws = do
  behind ← symbol_at 44 ws
  inner precedence.Relation behind

-- expression { ',' expression }, up to a closing parenthesis
unfoldable pub some_arguments_at : Inner → List Word → Option (List Tree × List Word)
some_arguments_at inner ws = do
  first ← inner precedence.Relation ws
  others ← many_at (begins_symbol 41) (next_argument inner) first.1
  Some (first.0 ∷ others.0, others.1)

-- [ expression { ',' expression } ], up to a closing parenthesis
abbrev pub arguments_at : Inner → List Word → Option (List Tree × List Word)
arguments_at inner ws = if begins_symbol 41 ws then Some ([], ws) else some_arguments_at inner ws

-- '(' [ expression { ',' expression } ] ')'
unfoldable pub call_at : Inner → Name → List Word → Option (Tree × List Word)
call_at inner n ws = do
  behind ← symbol_at 40 ws
  arguments ← arguments_at inner behind
  rest ← symbol_at 41 arguments.1
  Some (call n (trees arguments.0), rest)

-- ---- aggregates

-- expression [ ':' simple_expression ]
unfoldable pub element_at : Inner → List Word → Option (Element × List Word)
element_at inner ws = do
  value ← inner precedence.Relation ws
  if begins_symbol 58 value.1 then (symbol_at 58 value.1 >>= λ behind. inner precedence.Sum behind >>= λ times. Some (repeated value.0 times.0, times.1)) else Some (once value.0, value.1)

-- ',' element
unfoldable pub next_element : Inner → List Word → Option (Element × List Word)
next_element inner ws = do
  behind ← symbol_at 44 ws
  element_at inner behind

-- element { ',' element }, up to a closing bracket
unfoldable pub some_elements_at : Inner → List Word → Option (List Element × List Word)
some_elements_at inner ws = do
  first ← element_at inner ws
  others ← many_at (begins_symbol 93) (next_element inner) first.1
  Some (first.0 ∷ others.0, others.1)

-- [ element { ',' element } ], up to a closing bracket
abbrev pub elements_at : Inner → List Word → Option (List Element × List Word)
elements_at inner ws = if begins_symbol 93 ws then Some ([], ws) else some_elements_at inner ws

-- [ element { ',' element } ] ']'
unfoldable pub aggregate_at : Inner → List Word → Option (Tree × List Word)
aggregate_at inner ws = do
  es ← elements_at inner ws
  rest ← symbol_at 93 es.1
  Some (aggregate (elements es.0), rest)

-- ---- qualifiers

-- no qualifier stands there
abbrev pub ends_qualifiers : List Word → Bool
ends_qualifiers ws = not (begins_symbol 46 ws || (begins_symbol 92 ws || begins_symbol 91 ws))

-- simple_expression [ ':' simple_expression ] ']'
unfoldable pub index_at : Inner → List Word → Option (Qualifier × List Word)
index_at inner ws = do
  low ← inner precedence.Sum ws
  if begins_symbol 58 low.1 then (symbol_at 58 low.1 >>= λ behind. inner precedence.Sum behind >>= λ high. symbol_at 93 high.1 >>= λ rest. Some (range low.0 high.0, rest)) else (symbol_at 93 low.1 >>= λ rest. Some (index low.0, rest))

-- '.' name
abbrev pub attribute_at : List Word → Option (Qualifier × List Word)
attribute_at ws = do
  behind ← symbol_at 46 ws
  n ← named_at behind
  Some (attribute n.0, n.1)

-- '\' name
abbrev pub entity_at : List Word → Option (Qualifier × List Word)
entity_at ws = do
  behind ← symbol_at 92 ws
  n ← named_at behind
  Some (group n.0, n.1)

-- '[' simple_expression [ ':' simple_expression ] ']'
abbrev pub bracket_at : Inner → List Word → Option (Qualifier × List Word)
bracket_at inner ws = do
  behind ← symbol_at 91 ws
  index_at inner behind

unfoldable pub qualifier_at : Inner → List Word → Option (Qualifier × List Word)
qualifier_at inner ws = if begins_symbol 46 ws then attribute_at ws else (if begins_symbol 92 ws then entity_at ws else bracket_at inner ws)

-- the qualifiers that follow a value
abbrev pub qualifiers_at : Inner → List Word → Option (List Qualifier × List Word)
qualifiers_at inner ws = many_at ends_qualifiers (qualifier_at inner) ws

-- ---- operands

-- the operand that begins with this name
abbrev pub operand_by : Inner → OperandWord → Name → List Word → Option (Tree × List Word)
operand_by inner (word.Constant c) n ws = Some (constant c, ws)
operand_by inner word.Reserved n ws = None
operand_by inner word.Plain n ws = if begins_symbol 40 ws then call_at inner n ws else Some (named n, ws)

abbrev pub word_operand_at : Inner → Name → List Word → Option (Tree × List Word)
word_operand_at inner n ws = operand_by inner (operand_word_of n.text) n ws

-- '?'
abbrev pub indeterminate_at : List Word → Option (Tree × List Word)
indeterminate_at ws = do
  rest ← symbol_at 63 ws
  Some (constant constants.Indeterminate, rest)

abbrev pub name_operand_at : Inner → List Word → Option (Tree × List Word)
name_operand_at inner ws = do
  n ← named_at ws
  word_operand_at inner n.0 n.1

-- '?' | constant | name | call
unfoldable pub qualifiable_at : Inner → List Word → Option (Tree × List Word)
qualifiable_at inner ws = if begins_symbol 63 ws then indeterminate_at ws else name_operand_at inner ws

-- a value and its qualifiers
unfoldable pub qualified_at : Inner → List Word → Option (Tree × List Word)
qualified_at inner ws = do
  of ← qualifiable_at inner ws
  by ← qualifiers_at inner of.1
  Some (qualified of.0 (qualifiers by.0), by.1)

-- the first of two readings that there is
abbrev pub first_of : Option (Tree × List Word) → Option (Tree × List Word) → Option (Tree × List Word)
first_of None other = other
first_of (Some x) other = Some x

-- literal | qualifiable { qualifier }
abbrev pub primary_at : Inner → List Word → Option (Tree × List Word)
primary_at inner ws = first_of (literal_at ws) (qualified_at inner ws)

-- '(' expression ')'
unfoldable pub group_at : Inner → List Word → Option (Tree × List Word)
group_at inner ws = do
  behind ← symbol_at 40 ws
  inside ← inner precedence.Relation behind
  rest ← symbol_at 41 inside.1
  Some (inside.0, rest)

-- '(' expression ')' | primary
abbrev pub operand_at : Inner → List Word → Option (Tree × List Word)
operand_at inner ws = if begins_symbol 40 ws then group_at inner ws else primary_at inner ws

-- ( '+' | '-' | NOT ) operand, after the first word
unfoldable pub sign_at : Inner → UnaryOperator → List Word → Option (Tree × List Word)
sign_at inner o ws = do
  of ← operand_at inner ws
  Some (unary o of.0, of.1)

-- '<' | '<='
unfoldable pub interval_operator_at : List Word → Option (IntervalOperator × List Word)
interval_operator_at ws = do
  behind ← symbol_at 60 ws
  if begins_symbol 61 behind then (symbol_at 61 behind >>= λ rest. Some (comparison.LessOrEqual, rest)) else Some (comparison.Less, behind)

-- simple_expression operator simple_expression operator simple_expression '}'
unfoldable pub interval_at : Inner → List Word → Option (Tree × List Word)
interval_at inner ws = do
  low ← inner precedence.Sum ws
  above ← interval_operator_at low.1
  item ← inner precedence.Sum above.1
  below ← interval_operator_at item.1
  high ← inner precedence.Sum below.1
  rest ← symbol_at 125 high.1
  Some (interval low.0 above.0 item.0 below.0 high.0, rest)

-- '(' name '<*' simple_expression '|' expression ')'
unfoldable pub query_at : Inner → List Word → Option (Tree × List Word)
query_at inner ws = do
  behind ← symbol_at 40 ws
  n ← named_at behind
  less ← symbol_at 60 n.1
  star ← symbol_at 42 less
  over ← inner precedence.Sum star
  bar ← symbol_at 124 over.1
  condition ← inner precedence.Relation bar
  rest ← symbol_at 41 condition.1
  Some (query n.0 over.0 condition.0, rest)

-- what a word says where a simple factor begins
unfoldable pub factor_word_of : Word → FactorWord
factor_word_of w =
    if is_symbol 91 w then factor.Aggregate else
    (if is_symbol 123 w then factor.Interval else
    (if is_symbol 45 w then factor.Unary sign.Minus else
    (if is_symbol 43 w then factor.Unary sign.Plus else
    (if is_name (codes "NOT") w then factor.Unary sign.Not else
    (if is_name (codes "QUERY") w then factor.Query else factor.Operand)))))

abbrev pub factor_by : Inner → FactorWord → Word → List Word → Option (Tree × List Word)
factor_by inner (factor.Unary o) w ws = sign_at inner o ws
factor_by inner factor.Aggregate w ws = aggregate_at inner ws
factor_by inner factor.Interval w ws = interval_at inner ws
factor_by inner factor.Query w ws = query_at inner ws
factor_by inner factor.Operand w ws = operand_at inner (w ∷ ws)

-- a simple factor
unfoldable pub factor_at : Inner → List Word → Option (Tree × List Word)
factor_at inner [] = None
factor_at inner (w ∷ ws) = factor_by inner (factor_word_of w) w ws

-- ---- expressions

-- simple_factor [ '**' simple_factor ]
abbrev pub power_at : Inner → List Word → Option (Tree × List Word)
power_at inner ws = chain_by (factor_at inner) precedence.Power ws

-- factor { multiplication_like_operator factor }
abbrev pub product_at : Inner → List Word → Option (Tree × List Word)
product_at inner ws = chain_by (power_at inner) precedence.Product ws

-- term { addition_like_operator term }
abbrev pub sum_at : Inner → List Word → Option (Tree × List Word)
sum_at inner ws = chain_by (product_at inner) precedence.Sum ws

-- the operands of operations of a precedence bind more tightly
abbrev pub operand_of : Inner → Precedence → List Word → Option (Tree × List Word)
operand_of inner precedence.Relation ws = sum_at inner ws
operand_of inner precedence.Sum ws = product_at inner ws
operand_of inner precedence.Product ws = power_at inner ws
operand_of inner precedence.Power ws = factor_at inner ws

abbrev pub chain_at : Inner → Precedence → List Word → Option (Tree × List Word)
chain_at inner p ws = chain_by (operand_of inner p) p ws

-- operations of a precedence and tighter ones, in which so many expressions stand within one another at most
abbrev pub reading : ℕ → Precedence → List Word → Option (Tree × List Word)
reading zero p ws = None
reading (suc left) p ws = chain_at (reading left) p ws

-- simple_expression [ relation simple_expression ]
abbrev pub expression_at : List Word → Option (Tree × List Word)
expression_at ws = reading 256 precedence.Relation ws

-- term { addition_like_operator term }
abbrev pub simple_at : List Word → Option (Tree × List Word)
simple_at ws = reading 256 precedence.Sum ws

-- { qualifier }
abbrev pub all_qualifiers_at : List Word → Option (List Qualifier × List Word)
all_qualifiers_at ws = qualifiers_at (reading 256) ws
