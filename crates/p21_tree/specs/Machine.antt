-- One token at a time: what stands open, and what is expected next.
use Rattle.std.specs.Prelude.{ℕ, zero, suc, List, [], ◌∷◌}
use Rattle.p21_text.specs.Spelling.{Symbol}
use Rattle.p21_text.specs.Spelling as token
use Rattle.p21_tree.specs.Tree.{Tree, Trees, nil, trees_append}
use Rattle.p21_tree.specs.Tree as tree

-- what a token may do in a parameter
pub data Class : Type 0 where
  leaf : Tree → Class
  key : List ℕ → Class
  open_ : Class
  close_ : Class
  comma : Class
  other : Class

abbrev pub class_of : Symbol → Class
class_of token.iso = other
class_of token.end_iso = other
class_of (token.keyword k) = key k
class_of (token.user_keyword k) = key k
class_of (token.int s) = leaf (tree.int s)
class_of (token.real s) = leaf (tree.real s)
class_of (token.str s) = leaf (tree.str s)
class_of (token.name n) = leaf (tree.reference n)
class_of (token.enumeration s) = leaf (tree.enumeration s)
class_of (token.binary s) = leaf (tree.binary s)
class_of token.dollar = leaf tree.absent
class_of token.star = leaf tree.derived
class_of token.lparen = open_
class_of token.rparen = close_
class_of token.comma = comma
class_of token.equals = other
class_of token.semi = other
class_of token.end = other
class_of token.bad = other

-- What stands open, the innermost first: a list, with the parameters before its last comma, or a
-- parenthesis after a KEY. The outermost is the list of a record.
pub data Stack : Type 0 where
  base : Trees → Stack
  list : Trees → Stack → Stack
  typed : List ℕ → Stack → Stack

pub data Mode : Type 0 where
  first : Mode
  want : Mode
  behind_key : List ℕ → Mode
  after : Tree → Mode

pub record State : Type 0 where
  pub mode : Mode
  pub stack : Stack
  pub room : ℕ

pub data Step : Type 0 where
  go : State → Step
  closed : Trees → Step
  refused : Step
  deep : Step

-- a parameter begins
abbrev pub begin : Stack → ℕ → Class → Step
begin stack room (leaf t) = go (record { mode = after t; stack = stack; room = room })
begin stack zero (key k) = refused
begin stack (suc room) (key k) = go (record { mode = behind_key k; stack = stack; room = suc room })
begin stack zero open_ = deep
begin stack (suc room) open_ = go (record { mode = first; stack = list nil stack; room = room })
begin stack room close_ = refused
begin stack room comma = refused
begin stack room other = refused

-- a list ends with no parameter
abbrev pub close_empty : Stack → ℕ → Step
close_empty (base nil) room = closed nil
close_empty (list nil below) room = go (record { mode = after (tree.items nil); stack = below; room = suc room })
close_empty stack room = refused

abbrev pub begin_first : Stack → ℕ → Class → Step
begin_first stack room close_ = close_empty stack room
begin_first stack room c = begin stack room c

abbrev pub open_typed : List ℕ → Stack → ℕ → Class → Step
open_typed k stack (suc room) open_ = go (record { mode = want; stack = typed k stack; room = room })
open_typed k stack room c = refused

abbrev pub go_on : Tree → Stack → ℕ → Class → Step
go_on t (base before) room comma = go (record { mode = want; stack = base (trees_append before t); room = room })
go_on t (base before) room close_ = closed (trees_append before t)
go_on t (list before below) room comma = go (record { mode = want; stack = list (trees_append before t) below; room = room })
go_on t (list before below) room close_ = go (record { mode = after (tree.items (trees_append before t)); stack = below; room = suc room })
go_on t (typed k below) room close_ = go (record { mode = after (tree.typed k t); stack = below; room = suc room })
go_on t stack room c = refused

abbrev pub by_mode : Mode → Stack → ℕ → Class → Step
by_mode first stack room c = begin_first stack room c
by_mode want stack room c = begin stack room c
by_mode (behind_key k) stack room c = open_typed k stack room c
by_mode (after t) stack room c = go_on t stack room c

abbrev pub step : State → Symbol → Step
step s t = by_mode s.mode s.stack s.room (class_of t)

-- where some tokens lead
pub data Answer : Type 0 where
  going : State → Answer
  ended : Trees → List Symbol → Answer
  fault : State → Symbol → List Symbol → Answer

abbrev pub next : State → Symbol → List Symbol → Step → (State → Answer) → Answer
next s t ts (go s') again = again s'
next s t ts (closed found) again = ended found ts
next s t ts refused again = fault s t ts
next s t ts deep again = fault s t ts

unfoldable pub run : List Symbol → State → Answer
run [] s = going s
run (t ∷ ts) s = next s t ts (step s t) (run ts)

-- after the parenthesis of a record, where `left` more may be opened
abbrev pub start : ℕ → State
start left = record { mode = first; stack = base nil; room = left }
