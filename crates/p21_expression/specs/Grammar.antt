-- The grammar of expressions, production by production: some words are such a thing, and others stand after it. What stands within an expression is given
-- by how deeply expressions stand within one another.
use Rattle.std.specs.Prelude.{◌≡◌, ℕ, zero, suc, Bool, true, false, List, [], ◌∷◌, length, Option, Some, codes}
use Rattle.std.specs.Str.{bytes_eq}
use Rattle.p21_express.specs.Word.{Word, name, integer, string, symbol}
use Rattle.p21_expression.specs.declared.literals.OperandWord.TheVariants as word
use Rattle.p21_expression.specs.declared.operators.Precedence.{Precedence}
use Rattle.p21_expression.specs.declared.operators.Precedence.TheVariants as precedence
use Rattle.p21_expression.specs.declared.tree.BinaryOperator.{BinaryOperator}
use Rattle.p21_expression.specs.declared.tree.BinaryOperator.TheVariants as operator
use Rattle.p21_expression.specs.declared.tree.Constant.TheVariants as constants
use Rattle.p21_expression.specs.declared.tree.IntervalOperator.{IntervalOperator}
use Rattle.p21_expression.specs.declared.tree.IntervalOperator.TheVariants as comparison
use Rattle.p21_expression.specs.declared.tree.Truth.{Truth}
use Rattle.p21_expression.specs.declared.tree.UnaryOperator.TheVariants as sign
use Rattle.p21_expression.specs.Literals.{is_exponent, operand_word_of, truth_of}
use Rattle.p21_expression.specs.Operators.{precedence_of, word_operator_of}
use Rattle.p21_expression.specs.Reader.{fits}
use Rattle.p21_expression.specs.Tree as tree
use Rattle.p21_expression.specs.Tree.{Name, Tree, Qualifier, Step, Element, trees, qualifiers, steps, elements, operations, qualified}

-- words that begin with such a thing, and the words after it
abbrev pub Form : Type 0 → Type 1
Form X = List Word → X → List Word → Type 0

-- the name at which these words begin
abbrev pub here : List ℕ → List Word → Name
here n ws = record { text = n; place = suc (length ws) }

-- such things, one after the other
pub data Several {X : Type 0} (Item : List Word → X → List Word → Type 0) : List Word → List X → List Word → Type 0 where
  none : {ws : List Word} → Several Item ws [] ws
  more : {ws mid rest : List Word} {x : X} {xs : List X} → Item ws x mid → Several Item mid xs rest → Several Item ws (x ∷ xs) rest

-- ',' and such a thing
pub data Next {X : Type 0} (Item : List Word → X → List Word → Type 0) : List Word → X → List Word → Type 0 where
  behind : {ws rest : List Word} {x : X} → Item ws x rest → Next Item (symbol 44 ∷ ws) x rest

-- [ item { ',' item } ]
pub data Listed {X : Type 0} (Item : List Word → X → List Word → Type 0) : List Word → List X → List Word → Type 0 where
  none : {ws : List Word} → Listed Item ws [] ws
  some : {ws mid rest : List Word} {x : X} {xs : List X} → Item ws x mid → Several (Next Item) mid xs rest → Listed Item ws (x ∷ xs) rest

-- an operator of two operands
pub data OperatorIs : List Word → BinaryOperator → List Word → Type 0 where
  power : {ws : List Word} → OperatorIs (symbol 42 ∷ symbol 42 ∷ ws) operator.Power ws
  times : {ws : List Word} → OperatorIs (symbol 42 ∷ ws) operator.Times ws
  divide : {ws : List Word} → OperatorIs (symbol 47 ∷ ws) operator.Divide ws
  plus : {ws : List Word} → OperatorIs (symbol 43 ∷ ws) operator.Plus ws
  minus : {ws : List Word} → OperatorIs (symbol 45 ∷ ws) operator.Minus ws
  combine : {ws : List Word} → OperatorIs (symbol 124 ∷ symbol 124 ∷ ws) operator.Combine ws
  equal : {ws : List Word} → OperatorIs (symbol 61 ∷ ws) operator.Equal ws
  less : {ws : List Word} → OperatorIs (symbol 60 ∷ ws) operator.Less ws
  greater : {ws : List Word} → OperatorIs (symbol 62 ∷ ws) operator.Greater ws
  not_equal : {ws : List Word} → OperatorIs (symbol 60 ∷ symbol 62 ∷ ws) operator.NotEqual ws
  less_or_equal : {ws : List Word} → OperatorIs (symbol 60 ∷ symbol 61 ∷ ws) operator.LessOrEqual ws
  greater_or_equal : {ws : List Word} → OperatorIs (symbol 62 ∷ symbol 61 ∷ ws) operator.GreaterOrEqual ws
  same_instance : {ws : List Word} → OperatorIs (symbol 58 ∷ symbol 61 ∷ symbol 58 ∷ ws) operator.SameInstance ws
  other_instance : {ws : List Word} → OperatorIs (symbol 58 ∷ symbol 60 ∷ symbol 62 ∷ symbol 58 ∷ ws) operator.OtherInstance ws
  spelled : {n : List ℕ} {o : BinaryOperator} {ws : List Word} → word_operator_of n ≡ Some o → OperatorIs (name n ∷ ws) o ws

-- [ 'E' [ sign ] digits ]: digits that follow the letter itself are one word with it
pub data ExponentIs : List Word → List Word → Type 0 where
  none : {ws : List Word} → ExponentIs ws ws
  joined : {n : List ℕ} {ws : List Word} → bytes_eq n (codes "E") ≡ false → is_exponent n ≡ true → ExponentIs (name n ∷ ws) ws
  apart : {v : Option ℕ} {ws : List Word} → ExponentIs (name (codes "E") ∷ integer v ∷ ws) ws
  plus : {v : Option ℕ} {ws : List Word} → ExponentIs (name (codes "E") ∷ symbol 43 ∷ integer v ∷ ws) ws
  minus : {v : Option ℕ} {ws : List Word} → ExponentIs (name (codes "E") ∷ symbol 45 ∷ integer v ∷ ws) ws

-- [ digits ] [ exponent ]
pub data FractionIs : List Word → List Word → Type 0 where
  without : {ws rest : List Word} → ExponentIs ws rest → FractionIs ws rest
  digits : {v : Option ℕ} {ws rest : List Word} → ExponentIs ws rest → FractionIs (integer v ∷ ws) rest

-- string | integer | digits '.' fraction | '%' digits | TRUE | FALSE | UNKNOWN
pub data LiteralIs : List Word → Tree → List Word → Type 0 where
  is_text : {ws : List Word} → LiteralIs (string ∷ ws) (tree.text (suc (length ws))) ws
  is_integer : {v : Option ℕ} {ws : List Word} → LiteralIs (integer v ∷ ws) (tree.integer v (suc (length ws))) ws
  is_real : {v : Option ℕ} {ws rest : List Word} → FractionIs ws rest → LiteralIs (integer v ∷ symbol 46 ∷ ws) (tree.real (suc (suc (length ws)))) rest
  is_binary : {v : Option ℕ} {ws : List Word} → LiteralIs (symbol 37 ∷ integer v ∷ ws) (tree.binary (suc (suc (length ws)))) ws
  is_truth : {n : List ℕ} {t : Truth} {ws : List Word} → truth_of n ≡ Some t → LiteralIs (name n ∷ ws) (tree.truth t) ws

-- expression [ ':' simple_expression ]
pub data ElementIs (Inner : Precedence → List Word → Tree → List Word → Type 0) : List Word → Element → List Word → Type 0 where
  once : {ws rest : List Word} {t : Tree} → Inner precedence.Relation ws t rest → ElementIs Inner ws (tree.once t) rest
  repeated : {ws mid rest : List Word} {t n : Tree} → Inner precedence.Relation ws t (symbol 58 ∷ mid) → Inner precedence.Sum mid n rest → ElementIs Inner ws (tree.repeated t n) rest

-- '.' name | '\' name | '[' simple_expression [ ':' simple_expression ] ']'
pub data QualifierIs (Inner : Precedence → List Word → Tree → List Word → Type 0) : List Word → Qualifier → List Word → Type 0 where
  attribute : {n : List ℕ} {ws : List Word} → QualifierIs Inner (symbol 46 ∷ name n ∷ ws) (tree.attribute (here n ws)) ws
  group : {n : List ℕ} {ws : List Word} → QualifierIs Inner (symbol 92 ∷ name n ∷ ws) (tree.group (here n ws)) ws
  index : {ws rest : List Word} {t : Tree} → Inner precedence.Sum ws t (symbol 93 ∷ rest) → QualifierIs Inner (symbol 91 ∷ ws) (tree.index t) rest
  range : {ws mid rest : List Word} {t u : Tree} → Inner precedence.Sum ws t (symbol 58 ∷ mid) → Inner precedence.Sum mid u (symbol 93 ∷ rest) → QualifierIs Inner (symbol 91 ∷ ws) (tree.range t u) rest

-- '?' | SELF | PI | CONST_E | name | name '(' [ expression { ',' expression } ] ')': a name is no word of the language
pub data QualifiableIs (Inner : Precedence → List Word → Tree → List Word → Type 0) : List Word → Tree → List Word → Type 0 where
  indeterminate : {ws : List Word} → QualifiableIs Inner (symbol 63 ∷ ws) (tree.constant constants.Indeterminate) ws
  constant : {n : List ℕ} {ws : List Word} {c : _} → operand_word_of n ≡ word.Constant c → QualifiableIs Inner (name n ∷ ws) (tree.constant c) ws
  named : {n : List ℕ} {ws : List Word} → operand_word_of n ≡ word.Plain → QualifiableIs Inner (name n ∷ ws) (tree.named (here n ws)) ws
  call : {n : List ℕ} {ws rest : List Word} {ts : List Tree} → operand_word_of n ≡ word.Plain → Listed (Inner precedence.Relation) ws ts (symbol 41 ∷ rest) → QualifiableIs Inner (name n ∷ symbol 40 ∷ ws) (tree.call (here n (symbol 40 ∷ ws)) (trees ts)) rest

-- literal | qualifiable { qualifier }
pub data PrimaryIs (Inner : Precedence → List Word → Tree → List Word → Type 0) : List Word → Tree → List Word → Type 0 where
  literal : {ws rest : List Word} {t : Tree} → LiteralIs ws t rest → PrimaryIs Inner ws t rest
  value : {ws mid rest : List Word} {t : Tree} {qs : List Qualifier} → QualifiableIs Inner ws t mid → Several (QualifierIs Inner) mid qs rest → PrimaryIs Inner ws (qualified t (qualifiers qs)) rest

-- '(' expression ')' | primary
pub data OperandIs (Inner : Precedence → List Word → Tree → List Word → Type 0) : List Word → Tree → List Word → Type 0 where
  group : {ws rest : List Word} {t : Tree} → Inner precedence.Relation ws t (symbol 41 ∷ rest) → OperandIs Inner (symbol 40 ∷ ws) t rest
  primary : {ws rest : List Word} {t : Tree} → PrimaryIs Inner ws t rest → OperandIs Inner ws t rest

-- '<' | '<='
pub data ComparisonIs : List Word → IntervalOperator → List Word → Type 0 where
  less : {ws : List Word} → ComparisonIs (symbol 60 ∷ ws) comparison.Less ws
  less_or_equal : {ws : List Word} → ComparisonIs (symbol 60 ∷ symbol 61 ∷ ws) comparison.LessOrEqual ws

-- [ '+' | '-' | NOT ] operand | '[' [ element { ',' element } ] ']'
-- | '{' simple_expression comparison simple_expression comparison simple_expression '}' | QUERY '(' name '<*' simple_expression '|' expression ')'
pub data FactorIs (Inner : Precedence → List Word → Tree → List Word → Type 0) : List Word → Tree → List Word → Type 0 where
  operand : {ws rest : List Word} {t : Tree} → OperandIs Inner ws t rest → FactorIs Inner ws t rest
  plus : {ws rest : List Word} {t : Tree} → OperandIs Inner ws t rest → FactorIs Inner (symbol 43 ∷ ws) (tree.unary sign.Plus t) rest
  minus : {ws rest : List Word} {t : Tree} → OperandIs Inner ws t rest → FactorIs Inner (symbol 45 ∷ ws) (tree.unary sign.Minus t) rest
  negated : {ws rest : List Word} {t : Tree} → OperandIs Inner ws t rest → FactorIs Inner (name (codes "NOT") ∷ ws) (tree.unary sign.Not t) rest
  aggregate : {ws rest : List Word} {es : List Element} → Listed (ElementIs Inner) ws es (symbol 93 ∷ rest) → FactorIs Inner (symbol 91 ∷ ws) (tree.aggregate (elements es)) rest
  interval : {a b c d e rest : List Word} {low item high : Tree} {above below : IntervalOperator} → Inner precedence.Sum a low b → ComparisonIs b above c → Inner precedence.Sum c item d → ComparisonIs d below e → Inner precedence.Sum e high (symbol 125 ∷ rest) → FactorIs Inner (symbol 123 ∷ a) (tree.interval low above item below high) rest
  query : {n : List ℕ} {ws mid rest : List Word} {over condition : Tree} → Inner precedence.Sum ws over (symbol 124 ∷ mid) → Inner precedence.Relation mid condition (symbol 41 ∷ rest) → FactorIs Inner (name (codes "QUERY") ∷ symbol 40 ∷ name n ∷ symbol 60 ∷ symbol 42 ∷ ws) (tree.query (here n (symbol 60 ∷ symbol 42 ∷ ws)) over condition) rest

-- an operator of a precedence and the operand after it
pub data OperationIs (p : Precedence) (Operand : List Word → Tree → List Word → Type 0) : List Word → Step → List Word → Type 0 where
  made : {ws mid rest : List Word} {o : BinaryOperator} {t : Tree} → OperatorIs ws o mid → precedence_of o ≡ p → Operand mid t rest → OperationIs p Operand ws (tree.step o (length ws) t) rest

-- operand { operator operand }, from the left; of relations and powers there is one at most
pub data ChainIs (p : Precedence) (Operand : List Word → Tree → List Word → Type 0) : List Word → Tree → List Word → Type 0 where
  made : {ws mid rest : List Word} {t : Tree} {ss : List Step} → Operand ws t mid → Several (OperationIs p Operand) mid ss rest → fits p ss ≡ true → ChainIs p Operand ws (operations t (steps ss)) rest

-- The operands of relations are simple expressions, those of these are terms, and those of these factors, whose operands are simple factors.
abbrev pub OperandOf : (Precedence → List Word → Tree → List Word → Type 0) → Precedence → List Word → Tree → List Word → Type 0
OperandOf Inner precedence.Power = FactorIs Inner
OperandOf Inner precedence.Product = ChainIs precedence.Power (FactorIs Inner)
OperandOf Inner precedence.Sum = ChainIs precedence.Product (ChainIs precedence.Power (FactorIs Inner))
OperandOf Inner precedence.Relation = ChainIs precedence.Sum (ChainIs precedence.Product (ChainIs precedence.Power (FactorIs Inner)))

-- Words that begin with operations of a precedence and tighter ones, the tree of these, and the words after them. So many expressions stand within one
-- another at most.
abbrev pub IsReading : ℕ → Precedence → List Word → Tree → List Word → Type 0
IsReading zero p ws t rest = ⊥
IsReading (suc left) p ws t rest = ChainIs p (OperandOf (IsReading left) p) ws t rest

-- the words begin with this expression
abbrev pub IsExpression : List Word → Tree → List Word → Type 0
IsExpression ws t rest = IsReading 256 precedence.Relation ws t rest

-- the words begin with this simple expression
abbrev pub IsSimple : List Word → Tree → List Word → Type 0
IsSimple ws t rest = IsReading 256 precedence.Sum ws t rest

-- the words begin with these qualifiers
abbrev pub AreQualifiers : List Word → List Qualifier → List Word → Type 0
AreQualifiers ws qs rest = Several (QualifierIs (IsReading 256)) ws qs rest
