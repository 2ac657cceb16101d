-- Literals, and the words that are no names.
use Rattle.std.specs.Prelude.{ℕ, Bool, true, false, List, [], ◌∷◌, length, Option, Some, None, if◌then◌else◌, ◌==◌, ◌&&◌, codes}
use Rattle.std.specs.List.{prefix_len}
use Rattle.std.specs.Str.{bytes_eq}
use Rattle.p21_express.specs.Word.{Word, name, integer, string, symbol, is_symbol, begins_symbol}
use Rattle.p21_express.specs.Lexer.{digit}
use Rattle.p21_express.specs.Reader.{◌>>=◌, symbol_at}
use Rattle.p21_expression.specs.declared.literals.OperandWord.{OperandWord}
use Rattle.p21_expression.specs.declared.literals.OperandWord.TheVariants as operand
use Rattle.p21_expression.specs.declared.tree.Constant.TheVariants as constants
use Rattle.p21_expression.specs.declared.tree.Truth.{Truth}
use Rattle.p21_expression.specs.declared.tree.Truth.TheVariants as truths
use Rattle.p21_expression.specs.Tree.{Tree, real, text, binary, truth}
use Rattle.p21_expression.specs.Reserved.{is_reserved}
use Rattle.p21_expression.specs.Tree as tree

-- what a word says where an operand begins: words of the language are no names
unfoldable pub operand_word_of : List ℕ → OperandWord
operand_word_of n =
    if bytes_eq n (codes "SELF") then operand.Constant constants.Itself else
    (if bytes_eq n (codes "PI") then operand.Constant constants.Pi else
    (if bytes_eq n (codes "CONST_E") then operand.Constant constants.Euler else
    (if is_reserved n then operand.Reserved else operand.Plain)))

-- the value of LOGICAL that a word is
unfoldable pub truth_of : List ℕ → Option Truth
truth_of n =
    if bytes_eq n (codes "TRUE") then Some truths.True else
    (if bytes_eq n (codes "FALSE") then Some truths.False else
    (if bytes_eq n (codes "UNKNOWN") then Some truths.Unknown else None))

-- the words after a whole number
abbrev pub integer_at : List Word → Option (List Word)
integer_at [] = None
integer_at (name n ∷ ws) = None
integer_at (integer v ∷ ws) = Some ws
integer_at (string ∷ ws) = None
integer_at (symbol b ∷ ws) = None

-- [ integer ]: whether one stands there
abbrev pub if_integer_at : List Word → Bool × List Word
if_integer_at [] = (false, [])
if_integer_at (name n ∷ ws) = (false, name n ∷ ws)
if_integer_at (integer v ∷ ws) = (true, ws)
if_integer_at (string ∷ ws) = (false, string ∷ ws)
if_integer_at (symbol b ∷ ws) = (false, symbol b ∷ ws)

-- [ symbol ]: whether it stands there
abbrev pub if_symbol : ℕ → List Word → Bool × List Word
if_symbol c [] = (false, [])
if_symbol c (w ∷ ws) = if is_symbol c w then (true, ws) else (false, w ∷ ws)

-- [ '+' | '-' ] integer
abbrev pub signed_integer_at : List Word → Option (List Word)
signed_integer_at ws = if begins_symbol 45 ws then integer_at (if_symbol 45 ws).1 else integer_at (if_symbol 43 ws).1

-- the letter E and digits
abbrev pub is_exponent : List ℕ → Bool
is_exponent [] = false
is_exponent (c ∷ cs) = c == 69 && (prefix_len digit cs == length cs)

-- [ 'E' [ sign ] digits ]: digits that follow the letter itself are one word with it
unfoldable pub behind_exponent_at : List Word → Option (List Word)
behind_exponent_at [] = Some []
behind_exponent_at (name n ∷ ws) = if bytes_eq n (codes "E") then signed_integer_at ws else (if is_exponent n then Some ws else Some (name n ∷ ws))
behind_exponent_at (integer v ∷ ws) = Some (integer v ∷ ws)
behind_exponent_at (string ∷ ws) = Some (string ∷ ws)
behind_exponent_at (symbol b ∷ ws) = Some (symbol b ∷ ws)

-- '.' [ digits ] [ exponent ]
abbrev pub real_at : ℕ → List Word → Option (Tree × List Word)
real_at place ws = do
  fraction ← symbol_at 46 ws
  rest ← behind_exponent_at (if_integer_at fraction).1
  Some (real place, rest)

-- a number that stands at this place, after its first digits, whose value is this: a real number goes on with a point
unfoldable pub number_at : Option ℕ → ℕ → List Word → Option (Tree × List Word)
number_at v place ws = if begins_symbol 46 ws then real_at place ws else Some (tree.integer v place, ws)

-- '%' digits
abbrev pub binary_at : ℕ → List Word → Option (Tree × List Word)
binary_at place ws = do
  rest ← integer_at ws
  Some (binary place, rest)

-- TRUE | FALSE | UNKNOWN
abbrev pub truth_at : List ℕ → List Word → Option (Tree × List Word)
truth_at n ws = do
  t ← truth_of n
  Some (truth t, ws)

-- a literal, which stands where these words begin, and the words after it
unfoldable pub literal_at : List Word → Option (Tree × List Word)
literal_at [] = None
literal_at (name n ∷ ws) = truth_at n ws
literal_at (integer v ∷ ws) = number_at v (length (integer v ∷ ws)) ws
literal_at (string ∷ ws) = Some (text (length (string ∷ ws)), ws)
literal_at (symbol b ∷ ws) = if b == 37 then binary_at (length (symbol b ∷ ws)) ws else None
