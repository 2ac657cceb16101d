-- Values that are the same but for how they are spelled.
use Rattle.std.specs.Prelude.{◌≡◌, ℕ, List, [], ◌∷◌}
use Rattle.p21_text.specs.Items.{Item, ItemsOf}
use Rattle.p21_tree.specs.Tree.{Tree, Trees, nil, cons}
use Rattle.p21_tree.specs.Tree as tree
use Rattle.p21_tree.specs.Grammar.{Entry}
use Rattle.p21_tree.specs.Sentence.{Instance}
use Rattle.p21_json.specs.Numerals.{numeral_of}
use Rattle.p21_json.specs.Characters.{text_of_items}

-- the same but for `+` and zeros in front, and a zero after a point that no digit follows
abbrev pub IsSameNumeral : List ℕ → List ℕ → Type 0
IsSameNumeral v w = numeral_of v ≡ numeral_of w

-- bodies of strings of the same characters, whatever directives spell them
pub record IsSameString (v w : List ℕ) : Type 0 where
  pub found : List Item
  pub other : List Item
  pub of_first : ItemsOf v found
  pub of_second : ItemsOf w other
  pub same : text_of_items found ≡ text_of_items other

mutual
  -- Two parameters are the same but for spelling: of numbers, and of the characters of strings.
  -- Numbers are the same without `+` and zeros in front and with a digit after the point; strings have the same text;
  -- all else is the same.
  pub data IsSame : Tree → Tree → Type 0 where
    absent : IsSame tree.absent tree.absent
    derived : IsSame tree.derived tree.derived
    int : {v w : List ℕ} → IsSameNumeral v w → IsSame (tree.int v) (tree.int w)
    real : {v w : List ℕ} → IsSameNumeral v w → IsSame (tree.real v) (tree.real w)
    str : {v w : List ℕ} → IsSameString v w → IsSame (tree.str v) (tree.str w)
    enumeration : {v : List ℕ} → IsSame (tree.enumeration v) (tree.enumeration v)
    binary : {v : List ℕ} → IsSame (tree.binary v) (tree.binary v)
    reference : {n : ℕ} → IsSame (tree.reference n) (tree.reference n)
    items : {ts us : Trees} → AreSame ts us → IsSame (tree.items ts) (tree.items us)
    typed : {k : List ℕ} {t u : Tree} → IsSame t u → IsSame (tree.typed k t) (tree.typed k u)

  -- the same one by one
  pub data AreSame : Trees → Trees → Type 0 where
    none : AreSame nil nil
    more : {t u : Tree} {ts us : Trees} → IsSame t u → AreSame ts us → AreSame (cons t ts) (cons u us)

-- records of the same entities whose parameters are the same but for spelling
pub data AreSameRecords : List Entry → List Entry → Type 0 where
  none : AreSameRecords [] []
  more : {e f : Entry} {es fs : List Entry} → e.keyword ≡ f.keyword → AreSame e.params f.params → AreSameRecords es fs → AreSameRecords (e ∷ es) (f ∷ fs)

-- Two instances are the same but for spelling, and where they stand in the file.
pub record IsSameInstance (i j : Instance) : Type 0 where
  pub name : i.name ≡ j.name
  pub complex : i.complex ≡ j.complex
  pub records : AreSameRecords i.records j.records
