-- What holds of every list of tokens.
use Rattle.std.specs.Prelude.{◌≡◌, ◌⊎◌, ℕ, List, [], ◌∷◌, ◌++◌}
use Rattle.p21_text.specs.Tokens.{Placed, IsLast, Tokens}
use Rattle.p21_tree.specs.declared.faults.Fault.{Fault}
use Rattle.p21_tree.specs.declared.pieces.Piece.{Piece}
use Rattle.p21_tree.specs.Sentence.{File, Opening, Instance, IsFile, IsPreface, IsPiece, deepest}
use Rattle.p21_tree.specs.Fault.{Kind, IsFault, files, pieces}
use Rattle.p21_tree.specs.Texts.{shifted, fault_kind, HasFault, HasPieceFault, HasPrefaceFault}

-- End or Bad stands last, and nowhere else
pub data IsTokenList : List Placed → Type 0 where
  last : {t : Placed} → IsLast t.token → IsTokenList (t ∷ [])
  more : {t : Placed} {ts : List Placed} → ¬ (IsLast t.token) → IsTokenList ts → IsTokenList (t ∷ ts)

-- A fault of a list of tokens, for a language.
pub record FaultOf (L : ℕ → List Placed → Type 0) (ts : List Placed) : Type 0 where
  pub before : List Placed
  pub token : Placed
  pub behind : List Placed
  pub kind : Kind
  pub at : ℕ
  pub parts : ts ≡ before ++ token ∷ behind
  pub is_fault : IsFault L before token kind at

-- it is the same fault
abbrev pub SameFault : (L : ℕ → List Placed → Type 0) (ts : List Placed) → FaultOf L ts → FaultOf L ts → Type 0
SameFault L ts f g = (f.before ≡ g.before) × (f.token ≡ g.token) × (f.kind ≡ g.kind) × (f.at ≡ g.at)

-- a sentence has no fault, and what is none has one fault at most
abbrev pub HasOneFaultAtMost : (ℕ → List Placed → Type 0) → Type 0
HasOneFaultAtMost L = (ts : List Placed) → (L deepest ts → FaultOf L ts → ⊥) × ((f g : FaultOf L ts) → SameFault L ts f g)

-- a list of tokens that is whole is a sentence, or has a fault
abbrev pub HasAnswer : (ℕ → List Placed → Type 0) → Type 0
HasAnswer L = (ts : List Placed) → IsTokenList ts → L deepest ts ⊎ FaultOf L ts

-- no sentence is a proper beginning of another
abbrev pub NoneBeginsAnother : (ℕ → List Placed → Type 0) → Type 0
NoneBeginsAnother L = (ts rest : List Placed) → L deepest ts → L deepest (ts ++ rest) → rest ≡ []

-- a list of tokens is one file, one preface, one instance at most
abbrev pub HasOneTree : Type 0
HasOneTree = (ts : List Placed) → ((f g : File) → IsFile deepest ts f → IsFile deepest ts g → f ≡ g) × ((o p : Opening) → IsPreface deepest ts o → IsPreface deepest ts p → o ≡ p) × ((i j : Instance) → IsPiece deepest ts i → IsPiece deepest ts j → i ≡ j)

-- a list of tokens has this fault
abbrev pub FoundIn : (ℕ → List Placed → Type 0) → List Placed → Fault → Type 0
FoundIn L ts f = (g : FaultOf L ts) × (g.at ≡ f.at) × (f.kind ≡ fault_kind g.kind)

-- a fault that is found in a text is that of its tokens
abbrev pub FaultsAreOfTokens : (ℕ → List Placed → Type 0) → Type 0
FaultsAreOfTokens L = (text : List ℕ) (at : ℕ) (ts : List Placed) (f : Fault) → Tokens text at ts → HasFault L text at f → FoundIn L ts f

-- one that is found in a file's preface is that of the file's tokens
abbrev pub PrefaceFaultsAreOfTokens : Type 0
PrefaceFaultsAreOfTokens = (text : List ℕ) (ts : List Placed) (f : Fault) → Tokens text 0 ts → HasPrefaceFault text f → FoundIn files ts f

-- one that is found in a piece is that of its tokens, with their places in the file
abbrev pub PieceFaultsAreOfTokens : Type 0
PieceFaultsAreOfTokens = (piece : Piece) (ts : List Placed) (f : Fault) → Tokens piece.bytes.now 0 ts → HasPieceFault piece f → FoundIn pieces (shifted piece.at ts) f
