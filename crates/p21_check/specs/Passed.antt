-- What a walk over the tokens of a text passes.
use Rattle.std.specs.Prelude.{◌≡◌, ℕ, Bool, List, length}
use Rattle.p21_text.specs.Spelling.{Symbol}
use Rattle.p21_text.specs.Tokens.{Placed, TokensUpTo, symbols}
use Rattle.p21_express.specs.Schema.{Schema, Expr}
use Rattle.p21_tree.specs.Bodies.{HasBodies, HaveBodies}
use Rattle.p21_tree.specs.Grammar.{IsLeaf, IsParam, IsParams}
use Rattle.p21_tree.specs.Plain.{plain, plain_all}
use Rattle.p21_tree.specs.declared.params.Param.{Param}
use Rattle.p21_check.specs.declared.leaf.Leaf.{Leaf}
use Rattle.p21_check.specs.declared.leaf.Passed.{Passed}
use Rattle.p21_check.specs.declared.referred.Reference.{Reference}
use Rattle.p21_check.specs.declared.wanted.Wanted.{Wanted}
use Rattle.p21_check.specs.Conforms.{AreElements}
use Rattle.p21_check.specs.Known.{IsElement}
use Rattle.p21_check.specs.References.{name_count, names_count}
use Rattle.p21_check.specs.Referred.{Adds, Somewhere}
use Rattle.p21_check.specs.Wanted.{Asks, AsksAmong}

-- the parameter that a token is by itself, with the number of instance names in it
pub record IsLeafOf (s : Symbol) (l : Leaf) : Type 0 where
  pub is_leaf : IsLeaf s (plain l.param)
  pub written : l.written ≡ name_count (plain l.param)

-- A parameter stands in a text from a place on, with so many instance names in it, where `left` parentheses may be opened.
pub record Stands (left : ℕ) (text : List ℕ) (at : ℕ) (r : Passed) (p : Param) : Type 0 where
  pub tokens : List Placed
  pub up_to : TokensUpTo text at tokens r.after
  pub is_param : IsParam left (symbols tokens) (plain p)
  pub bodies : HasBodies (plain p)
  pub written : r.written ≡ name_count (plain p)

-- the same of parameters with commas between them
pub record StandInRow (left : ℕ) (text : List ℕ) (at : ℕ) (r : Passed) (ps : List Param) : Type 0 where
  pub tokens : List Placed
  pub up_to : TokensUpTo text at tokens r.after
  pub are_params : IsParams left (symbols tokens) (plain_all ps)
  pub bodies : HaveBodies (plain_all ps)
  pub written : r.written ≡ names_count (plain_all ps)

-- A parameter stands there that conforms, or is `$` and may be left out, and what is asked of the references in it came after others.
pub record WalksValue (s : Schema) (optional : Bool) (e : Expr) (w : Wanted) (left : ℕ) (text : List ℕ) (at : ℕ) (old new : List Reference) (r : Passed) : Type 0 where
  pub param : Param
  pub stands : Stands left text at r param
  pub fits : IsElement s optional e (plain param)
  pub refers : Adds s (Somewhere (Asks s w (plain param))) old new

-- so many such elements with commas between them
pub record WalksElements (s : Schema) (optional : Bool) (e : Expr) (w : Wanted) (left : ℕ) (text : List ℕ) (at : ℕ) (count : ℕ) (old new : List Reference) (r : Passed) : Type 0 where
  pub params : List Param
  pub stand : StandInRow left text at r params
  pub counted : length params ≡ count
  pub fit : AreElements s optional e (plain_all params)
  pub refer : Adds s (Somewhere (AsksAmong s w (plain_all params))) old new
