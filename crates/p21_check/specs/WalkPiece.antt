-- What a walk over a piece of a file found.
use Rattle.std.specs.Prelude.{◌≡◌, ℕ, List, [], ◌∷◌, None}
use Rattle.p21_express.specs.Schema.{Schema}
use Rattle.p21_text.specs.Spelling as token
use Rattle.p21_text.specs.Tokens.{Placed, First}
use Rattle.p21_schema.specs.Place.{entity_name, IsEntityOf}
use Rattle.p21_tree.specs.Grammar.{Entry}
use Rattle.p21_tree.specs.Texts.{IsPieceText}
use Rattle.p21_tree.specs.Views.{plain_instance}
use Rattle.p21_tree.specs.declared.instances.RawInstance.{RawInstance}
use Rattle.p21_tree.specs.declared.pieces.Piece.{Piece}
use Rattle.p21_check.specs.declared.piece_walk.Head.{Head}
use Rattle.p21_check.specs.declared.piece_walk.Walked.{Walked}
use Rattle.p21_check.specs.EntityOf.{IsSimpleOf}
use Rattle.p21_check.specs.LocalFault.{IsAbstract, IsLocalFault}
use Rattle.p21_check.specs.References.{names_count}
use Rattle.p21_check.specs.Referred.{AreReferencesOf}

-- A name, an equals sign, the keyword of an entity that is not abstract, and an opening parenthesis stand at the beginning of the text.
pub record IsHead (s : Schema) (text : List ℕ) (h : Head) : Type 0 where
  pub name : Placed
  pub equals : Placed
  pub keyword : Placed
  pub open_ : Placed
  pub name_first : First text 0 name
  pub name_is : name.token ≡ token.name h.name
  pub start_is : name.start ≡ h.start
  pub equals_first : First text name.after equals
  pub equals_is : equals.token ≡ token.equals
  pub keyword_first : First text equals.after keyword
  pub keyword_is : keyword.token ≡ token.keyword h.keyword.now
  pub open_first : First text keyword.after open_
  pub open_is : open_.token ≡ token.lparen
  pub after_is : open_.after ≡ h.after
  pub known_ : IsEntityOf s h.entity
  pub named : entity_name s h.entity ≡ h.keyword.now
  pub concrete : ¬ (IsAbstract s h.keyword.now)

-- A closing parenthesis, a semicolon and the end of the text stand there.
pub record IsClosed (text : List ℕ) (at : ℕ) : Type 0 where
  pub close : Placed
  pub semi : Placed
  pub end : Placed
  pub close_first : First text at close
  pub close_is : close.token ≡ token.rparen
  pub semi_first : First text close.after semi
  pub semi_is : semi.token ≡ token.semi
  pub end_first : First text semi.after end
  pub end_is : end.token ≡ token.end

-- The piece is this simple instance, which has no fault by itself; these are its name, its place, its entity, its references, and the number
-- of instance names in its parameters.
pub record IsWalked (s : Schema) (p : Piece) (i : RawInstance) (w : Walked) : Type 0 where
  pub text : IsPieceText p (plain_instance i)
  pub name_is : i.name ≡ w.name
  pub at_is : i.at ≡ w.at
  pub own : IsSimpleOf s (plain_instance i) w.entity
  pub sound : IsLocalFault s (plain_instance i) None
  pub refers : AreReferencesOf s (plain_instance i) w.references.items
  pub entry : Entry
  pub records_are : (plain_instance i).records ≡ entry ∷ []
  pub written : w.written ≡ names_count entry.params
