-- Lists of pieces, and how they are dealt.
use Rattle.std.specs.Prelude.{◌≡◌, ◌≤◌, ◌*◌, ◌++◌, ◌∷◌, ℕ, All, List, [], length, map, min, replicate, None}
use Rattle.std.specs.List.{flat_map}
use Rattle.p21_express.specs.Schema.{Schema}
use Rattle.p21_tree.specs.declared.faults.Fault.{Fault}
use Rattle.p21_tree.specs.declared.pieces.Piece.{Piece}
use Rattle.p21_tree.specs.Sentence.{Opening}
use Rattle.p21_tree.specs.Texts.{BeginsPreface}
use Rattle.p21_cut.specs.Cutter.{plain_piece}
use Rattle.p21_check.specs.Header.{IsHeaderFault}
use Rattle.p21_lanes.specs.declared.receipt.Receipt.{Receipt}
use Rattle.p21_lanes.specs.Receipt.{passed, IsEnded}
use Rattle.p21_desk.specs.Dealing.{share, IsDealing}
use Rattle.p21_crew.specs.Each.{EachAt}
use Rattle.p21_reader.specs.LocalFault.{IsOpeningFault}
use Rattle.p21_reader.specs.Pieces.{AreGiven}
use Rattle.p21_reader.specs.PiecesOf.{ArePiecesOf}
use Rattle.p21_checker.specs.declared.lists.PieceList.{PieceList}
use Rattle.p21_checker.specs.declared.lists.PieceLists.{PieceLists}

-- the pieces of a list, in order
abbrev pub pieces_of : PieceList → List Piece
pieces_of l = l.first ∷ l.others.items

-- the pieces of several lists, in order
abbrev pub pieces_in : List PieceList → List Piece
pieces_in ls = flat_map pieces_of ls

-- the list has so many pieces at most after its first
abbrev pub HasAtMost : ℕ → PieceList → Type 0
HasAtMost most l = length l.others.items ≤ most

-- These lists are given from now on, none longer than it may be, and then the tail, which begins at a place of the file.
abbrev pub ListsAreGiven : PieceLists → List PieceList → ℕ → Type 0
ListsAreGiven l ls tail = AreGiven l.pieces (pieces_in ls) tail × All (HasAtMost l.most_others) ls

-- how many lists may be out on a lane of this capacity
abbrev pub lists_out : ℕ → ℕ
lists_out capacity = min capacity 4

-- As many such lists as may be out on a lane of this capacity have together no more pieces than the capacity.
abbrev pub FitsWindow : ℕ → PieceList → Type 0
FitsWindow capacity l = lists_out capacity * length (pieces_of l) ≤ capacity

-- the lane of each piece, where lists were dealt to these lanes, each whole
abbrev pub lanes_of : List ℕ → List PieceList → List ℕ
lanes_of [] ls = []
lanes_of (lane ∷ dealt) [] = []
lanes_of (lane ∷ dealt) (l ∷ ls) = replicate (length (pieces_of l)) lane ++ lanes_of dealt ls

-- Each list, and so each piece, was dealt to exactly one lane. Each lane received exactly its lists, and so exactly its pieces, once, in file
-- order, and then its end and nothing after it.
pub record AreDealt (lanes : ℕ) (lists : List PieceList) (dealt : List ℕ) (receipts : List (Receipt PieceList)) : Type 0 where
  pub dealing : IsDealing lanes dealt lists
  pub pieces_dealing : IsDealing lanes (lanes_of dealt lists) (pieces_in lists)
  pub one_each : length receipts ≡ lanes
  pub shares : EachAt (λ lane receipt. passed receipt ≡ share dealt lane lists) 0 receipts
  pub pieces_shares : EachAt (λ lane receipt. pieces_in (passed receipt) ≡ share (lanes_of dealt lists) lane (pieces_in lists)) 0 receipts
  pub ended : All IsEnded receipts

-- How these lists of the pieces of a file were dealt: where a fault stands before the instances there are none, and no receipts; else
-- they were dealt to the lanes.
pub data AreDealtIn (s : Schema) (file : List ℕ) (lanes : ℕ) (dealt : List ℕ) (receipts : List (Receipt PieceList)) : List PieceList → Type 0 where
  none : {f : Fault} → IsOpeningFault s file f → dealt ≡ [] → receipts ≡ [] → AreDealtIn s file lanes dealt receipts []
  all : {o : Opening} {lists : List PieceList} → BeginsPreface file o → IsHeaderFault s o None → AreDealt lanes lists dealt receipts → AreDealtIn s file lanes dealt receipts lists

-- The pieces of the file against the schema were dealt, in lists that fit the window of a lane of this capacity.
pub record PiecesAreDealt (s : Schema) (file : List ℕ) (lanes capacity : ℕ) (dealt : List ℕ) (receipts : List (Receipt PieceList)) : Type 0 where
  pub lists : List PieceList
  pub of_file : ArePiecesOf s file (map plain_piece (pieces_in lists))
  pub window : All (FitsWindow capacity) lists
  pub as_dealt : AreDealtIn s file lanes dealt receipts lists
