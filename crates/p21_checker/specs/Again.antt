-- The instances of a file, by their texts in it.
use Rattle.std.specs.Prelude.{◌≡◌, ℕ, List, Some}
use Rattle.std.specs.List.{AllZip}
use Rattle.p21_express.specs.Schema.{Schema}
use Rattle.p21_text.specs.Tokens.{Placed, Tokens}
use Rattle.p21_tree.specs.declared.faults.Fault.{Fault}
use Rattle.p21_tree.specs.Sentence.{Instance, IsPiece, deepest}
use Rattle.p21_tree.specs.Texts.{shifted}
use Rattle.p21_cut.specs.Pieces.{Piece, PiecesAre}
use Rattle.p21_check.specs.References.{IsReferenceFault, named_in}

-- the piece is the text of the instance
abbrev pub IsTextOf : Piece → Instance → Type 0
IsTextOf p i = (ts : List Placed) × Tokens p.bytes 0 ts × IsPiece deepest (shifted p.at ts) i

-- The pieces of a file from a place on, with this number and further ones, are the texts of these instances.
pub record AreTexts (file : List ℕ) (at number : ℕ) (is : List Instance) : Type 0 where
  pub pieces : List Piece
  pub tail : ℕ
  pub are : PiecesAre file at number pieces tail
  pub texts : AllZip IsTextOf pieces is

-- the reference fault of an instance among these, at its name
abbrev pub IsFaultOf : Schema → List Instance → Instance → Fault → Type 0
IsFaultOf s all i f = IsReferenceFault s (named_in all) i (Some f.kind) × (f.at ≡ i.at)
