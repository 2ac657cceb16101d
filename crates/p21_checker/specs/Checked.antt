-- What a worker says of a list of pieces, without where it lies in memory.
use Rattle.std.specs.Prelude.{◌≡◌, ◌++◌, ◌∷◌, List, [], map, None}
use Rattle.std.specs.List.{AllZip, flat_map}
use Rattle.p21_express.specs.Schema.{Schema}
use Rattle.p21_tree.specs.declared.instances.RawInstance.{RawInstance}
use Rattle.p21_tree.specs.declared.pieces.Piece.{Piece}
use Rattle.p21_tree.specs.Texts.{IsPieceText}
use Rattle.p21_tree.specs.Views.{plain_instance}
use Rattle.p21_outline.specs.declared.outline_list.OutlineList.{OutlineList}
use Rattle.p21_outline.specs.OutlineList.{AreListed, listed_instances}
use Rattle.p21_reader.specs.Values.{Value, grammar, whole, IsJudged}
use Rattle.p21_checker.specs.declared.checked.Checked.{Checked}
use Rattle.p21_checker.specs.declared.checked.Checked.TheVariants as checked
use Rattle.p21_checker.specs.declared.checked_list.CheckedList.{CheckedList}
use Rattle.p21_checker.specs.declared.lists.PieceList.{PieceList}
use Rattle.p21_checker.specs.Lists.{pieces_of}

-- The value of a piece that is meant: its grammar fault; or the instance whose tree was let go, and the fault that it has by itself, if it has one.
abbrev pub value_of : Checked → Value
value_of (checked.Grammar f) = grammar f
value_of (checked.Whole i) = whole (record { instance = plain_instance i.gone.value; own = i.own })

-- the value of an instance that has no fault by itself
abbrev pub sound_value : RawInstance → Value
sound_value i = whole (record { instance = plain_instance i; own = None })

-- the values that are meant of the pieces of a list, in order
abbrev pub values_in : CheckedList → List Value
values_in c = map sound_value (listed_instances c.sound) ++ map value_of c.rest.items

-- the same of several lists
abbrev pub values_of : List CheckedList → List Value
values_of cs = flat_map values_in cs

-- the outlines in several lists
abbrev pub outlines_of : List CheckedList → List OutlineList
outlines_of cs = map (λ c. c.sound) cs

-- What may be said of pieces: what each is by itself, with outlines that are those of their instances.
pub record AreStated (s : Schema) (ps : List Piece) (c : CheckedList) : Type 0 where
  pub judged : AllZip (IsJudged s) ps (values_in c)
  pub kept : AreListed s c.sound

-- the same of the pieces of a list
-- Each piece is its grammar fault; or an instance, with the fault that it has by itself, if any. Those before the
-- first that has a fault are outlined by the schema.
abbrev pub IsStated : Schema → PieceList → CheckedList → Type 0
IsStated s l c = AreStated s (pieces_of l) c

-- where the piece is said to be an instance, that is the one whose text it is
abbrev pub IsOfText : Piece → Value → Type 0
IsOfText p (grammar f) = Unit {0}
IsOfText p (whole w) = IsPieceText p w.instance

-- The instances that are meant are those whose texts the pieces of the list are, and what is outlined of the first of them is so by the schema.
pub record IsOfTexts (s : Schema) (l : PieceList) (c : CheckedList) : Type 0 where
  pub texts : AllZip IsOfText (pieces_of l) (values_in c)
  pub kept : AreListed s c.sound

-- what is stated of lists is of their texts, whatever else it is
abbrev pub StatesTexts : (PieceList → CheckedList → Type 0) → Schema → Type 0
StatesTexts states s = (l : PieceList) (c : CheckedList) → states l c → IsOfTexts s l c

-- what is stated of lists is what their pieces are by themselves, and nothing else
abbrev pub StatesLocally : (PieceList → CheckedList → Type 0) → Schema → Type 0
StatesLocally states s = (l : PieceList) (c : CheckedList) → states l c → IsStated s l c

-- nothing is said yet
pub record IsEmpty (c : CheckedList) : Type 0 where
  pub values : values_in c ≡ []
  pub kept : (s : Schema) → AreListed s c.sound

-- a value comes after the others, and the outlines are still those of their instances
pub record Adds (s : Schema) (old : CheckedList) (v : Value) (new : CheckedList) : Type 0 where
  pub values : values_in new ≡ values_in old ++ v ∷ []
  pub kept : AreListed s old.sound → AreListed s new.sound
