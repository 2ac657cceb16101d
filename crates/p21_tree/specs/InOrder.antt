-- The parts of a file by their tokens, its preface, its pieces and its tail, and what reading them in order gives.
use Rattle.std.specs.Prelude.{◌≡◌, ◌≢◌, ◌⊎◌, ℕ, List, [], ◌∷◌, ◌++◌, All}
use Rattle.p21_text.specs.Spelling as token
use Rattle.p21_text.specs.Tokens.{Placed, IsLast}
use Rattle.p21_tree.specs.Sentence.{Instance, Opening, IsFile, IsPreface, IsPiece, IsInstance, IsInstances, IsTail, deepest}
use Rattle.p21_tree.specs.Fault.{Kind, IsFault, files, prefaces, pieces, tails}
use Rattle.p21_tree.specs.Laws.{IsTokenList, FaultOf}

-- the first token is an instance name
abbrev pub BeginsWithName : List Placed → Type 0
BeginsWithName [] = ⊥
BeginsWithName (t ∷ ts) = (n : ℕ) × (t.token ≡ token.name n)

-- no token is a semicolon
abbrev pub HasNoSemi : List Placed → Type 0
HasNoSemi ts = All (λ t. t.token ≢ token.semi) ts

-- The tokens of a file from after its preface on, up to its first Bad, are those of its pieces in turn, without
-- their Ends, and of its tail.
-- A piece begins with a name and has its one semicolon before its End, or goes up to the End or the first Bad of the
-- file. The tail begins with no name.
pub data Joined : List (List Placed) → List Placed → List Placed → Type 0 where
  -- the tail begins with no name
  tail : {tail : List Placed} → IsTokenList tail → ¬ (BeginsWithName tail) → Joined [] tail tail
  -- a piece begins with a name, and its one semicolon stands before its End
  piece : {ps : List (List Placed)} {tail rest : List Placed} (body : List Placed) (semi end : Placed) → BeginsWithName body → HasNoSemi body → semi.token ≡ token.semi → end.token ≡ token.end → Joined ps tail rest → Joined ((body ++ semi ∷ end ∷ []) ∷ ps) tail (body ++ semi ∷ rest)
  -- one without a semicolon goes up to the End of the file, which is the tail
  cut : (body : List Placed) (end : Placed) → BeginsWithName body → HasNoSemi body → end.token ≡ token.end → Joined ((body ++ end ∷ []) ∷ []) (end ∷ []) (body ++ end ∷ [])
  -- or up to the first Bad, which may be its first token; what stands after it is of no account
  bad : {ps : List (List Placed)} {tail : List Placed} (body : List Placed) (last : Placed) → BeginsWithName body ⊎ (body ≡ []) → HasNoSemi body → last.token ≡ token.bad → Joined ((body ++ last ∷ []) ∷ ps) tail (body ++ last ∷ [])

-- all instances, or a fault and the instances before it
pub data Outcome : Type 0 where
  read : List Instance → Outcome
  stopped : List Instance → Kind → ℕ → Outcome

-- with one instance more before the others
abbrev pub behind : Instance → Outcome → Outcome
behind i (read is) = read (i ∷ is)
behind i (stopped is kind at) = stopped (i ∷ is) kind at

-- Reading pieces in order and then the tail gives their instances, or the first fault and the instances before it.
pub data ReadsInOrder : List (List Placed) → List Placed → Outcome → Type 0 where
  done : {tail : List Placed} → IsTail tail → ReadsInOrder [] tail (read [])
  tail_fault : {tail : List Placed} (f : FaultOf tails tail) → ReadsInOrder [] tail (stopped [] f.kind f.at)
  piece_fault : {ps : List (List Placed)} {p tail : List Placed} (f : FaultOf pieces p) → ReadsInOrder (p ∷ ps) tail (stopped [] f.kind f.at)
  next : {ps : List (List Placed)} {p tail : List Placed} {i : Instance} {o : Outcome} → IsPiece deepest p i → ReadsInOrder ps tail o → ReadsInOrder (p ∷ ps) tail (behind i o)

-- The fault of a file, and the instances that stand whole before it.
pub record StopsBehind (ts : List Placed) (o : Opening) (is : List Instance) (kind : Kind) (at : ℕ) : Type 0 where
  pub opening : List Placed
  pub body : List Placed
  pub front : List Placed
  pub fault : FaultOf files ts
  pub parts : fault.before ≡ opening ++ (body ++ front)
  pub is_opening : IsPreface deepest opening o
  pub are_instances : IsInstances deepest body is
  pub no_more : (a b : List Placed) (i : Instance) → front ≡ a ++ b → ¬ (IsInstance deepest a i)
  pub kind_is : fault.kind ≡ kind
  pub place_is : fault.at ≡ at

-- the tokens of a file with this preface are the file of these instances, or have this fault after them
abbrev pub IsOutcome : List Placed → Opening → Outcome → Type 0
IsOutcome ts o (read is) = IsFile deepest ts (record { opening = o; instances = is })
IsOutcome ts o (stopped is kind at) = StopsBehind ts o is kind at

-- no front of the tokens is a preface
abbrev pub BeginsNoPreface : List Placed → Type 0
BeginsNoPreface ts = (front rest : List Placed) → ts ≡ front ++ rest → ¬ (prefaces deepest front)

-- A list of tokens begins with a preface, or it begins with none and has a fault that is the preface's and the file's.
abbrev pub PrefaceOrFault : Type 0
PrefaceOrFault = (ts : List Placed) → IsTokenList ts → ((front : List Placed) × (rest : List Placed) × (ts ≡ front ++ rest) × prefaces deepest front) ⊎ ((f : FaultOf files ts) × IsFault prefaces f.before f.token f.kind f.at × BeginsNoPreface ts)

-- after the preface, reading the parts of a file in order gives the tree or the fault of the file
abbrev pub PartsGiveFile : Type 0
PartsGiveFile = (ts rest : List Placed) (o : Opening) (ps : List (List Placed)) (tail : List Placed) (found : Outcome) → IsPreface deepest ts o → Joined ps tail rest → ReadsInOrder ps tail found → IsOutcome (ts ++ rest) o found

-- the fault of a preface is the file's, unless the preface is whole before it
abbrev pub PrefaceFaultIsOfFile : Type 0
PrefaceFaultIsOfFile = (before : List Placed) (t : Placed) (kind : Kind) (at : ℕ) → ¬ (prefaces deepest before) → IsFault prefaces before t kind at → IsFault files before t kind at

-- Behind a preface and whole instances stand some tokens, and the next one is the fault of the file; no further
-- instance stands whole before it.
pub record StopsAt (opening body front : List Placed) (t : Placed) (kind : Kind) (at : ℕ) : Type 0 where
  pub is_fault : IsFault files (opening ++ (body ++ front)) t kind at
  pub no_more : (a b : List Placed) (i : Instance) → front ≡ a ++ b → ¬ (IsInstance deepest a i)

-- after a preface and whole instances, the fault of a piece that stands before its semicolon is the file's
abbrev pub PieceFaultIsOfFile : Type 0
PieceFaultIsOfFile = (opening body front : List Placed) (o : Opening) (is : List Instance) (t : Placed) (kind : Kind) (at : ℕ) → IsPreface deepest opening o → IsInstances deepest body is → HasNoSemi front → BeginsWithName (front ++ t ∷ []) ⊎ (t.token ≡ token.bad) → IsFault pieces front t kind at → StopsAt opening body front t kind at

-- after a preface and whole instances, the fault of a tail is the file's
abbrev pub TailFaultIsOfFile : Type 0
TailFaultIsOfFile = (opening body front : List Placed) (o : Opening) (is : List Instance) (t : Placed) (kind : Kind) (at : ℕ) → IsPreface deepest opening o → IsInstances deepest body is → All (λ u. ¬ (IsLast u.token)) front → ¬ (BeginsWithName (front ++ t ∷ [])) → IsFault tails front t kind at → StopsAt opening body front t kind at

-- a piece without its End is an instance, and has a semicolon
abbrev pub PieceIsInstance : Type 0
PieceIsInstance = (front : List Placed) (end : Placed) (i : Instance) → IsPiece deepest (front ++ end ∷ []) i → IsInstance deepest front i × ¬ (HasNoSemi front)

-- an End after the first semicolon is no fault of a piece
abbrev pub NoFaultBehindSemi : Type 0
NoFaultBehindSemi = (body : List Placed) (semi end : Placed) (kind : Kind) (at : ℕ) → HasNoSemi body → semi.token ≡ token.semi → end.token ≡ token.end → ¬ (IsFault pieces (body ++ semi ∷ []) end kind at)

-- an instance begins with a name, and of its tokens the last, and no other, is a semicolon
abbrev pub InstanceHasOneSemi : Type 0
InstanceHasOneSemi = (ts : List Placed) (i : Instance) → IsInstance deepest ts i → (body : List Placed) × (semi : Placed) × (ts ≡ body ++ semi ∷ []) × BeginsWithName body × HasNoSemi body × (semi.token ≡ token.semi)
