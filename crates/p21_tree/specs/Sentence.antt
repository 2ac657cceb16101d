-- Whole sentences: what token lists are a file, and what file they are.
use Rattle.std.specs.Prelude.{◌≡◌, ◌≢◌, ℕ, suc, Bool, true, false, List, [], ◌∷◌, ◌++◌}
use Rattle.p21_text.specs.Spelling.{Symbol}
use Rattle.p21_text.specs.Spelling as token
use Rattle.p21_text.specs.Tokens.{Placed, symbols}
use Rattle.p21_tree.specs.Grammar.{Entry, IsRecord}

-- HEADER, ENDSEC and DATA
abbrev pub header_word : List ℕ
header_word = 72 ∷ 69 ∷ 65 ∷ 68 ∷ 69 ∷ 82 ∷ []

abbrev pub endsec_word : List ℕ
endsec_word = 69 ∷ 78 ∷ 68 ∷ 83 ∷ 69 ∷ 67 ∷ []

abbrev pub data_word : List ℕ
data_word = 68 ∷ 65 ∷ 84 ∷ 65 ∷ []

pub record Instance : Type 0 where
  pub name : ℕ
  pub at : ℕ
  pub complex : Bool
  pub records : List Entry

pub record Opening : Type 0 where
  pub header_at : ℕ
  pub entities : List Entry
  pub data_at : ℕ

pub record File : Type 0 where
  pub opening : Opening
  pub instances : List Instance

-- the first token is not this one
abbrev pub BeginsWithNo : Symbol → List Symbol → Type 0
BeginsWithNo s [] = ⊥
BeginsWithNo s (t ∷ ts) = t ≢ s

-- entity = KEY '(' [ params ] ')' ';', where KEY is not ENDSEC; at most `limit` parentheses are open
pub data IsEntities (limit : ℕ) : List Placed → List Entry → Type 0 where
  none : IsEntities limit [] []
  more : (ts : List Placed) (s : Placed) {rest : List Placed} {e : Entry} {es : List Entry} → IsRecord limit (symbols ts) e → BeginsWithNo (token.keyword endsec_word) (symbols ts) → s.token ≡ token.semi → IsEntities limit rest es → IsEntities limit (ts ++ s ∷ rest) (e ∷ es)

-- rec { rec }
pub data IsRecords (limit : ℕ) : List Placed → List Entry → Type 0 where
  one : (ts : List Placed) {r : Entry} → IsRecord limit (symbols ts) r → IsRecords limit ts (r ∷ [])
  more : (ts : List Placed) {rest : List Placed} {r : Entry} {rs : List Entry} → IsRecord limit (symbols ts) r → IsRecords limit rest rs → IsRecords limit (ts ++ rest) (r ∷ rs)

-- instance = Name '=' ( rec | '(' rec { rec } ')' ) ';'
pub data IsInstance : ℕ → List Placed → Instance → Type 0 where
  simple : {limit name : ℕ} (n e : Placed) (ts : List Placed) (s : Placed) {r : Entry} → n.token ≡ token.name name → e.token ≡ token.equals → IsRecord limit (symbols ts) r → s.token ≡ token.semi
      → IsInstance limit (n ∷ e ∷ (ts ++ s ∷ [])) (record { name = name; at = n.start; complex = false; records = r ∷ [] })
  complex : {left name : ℕ} {ts : List Placed} (n e o c s : Placed) {rs : List Entry} → n.token ≡ token.name name → e.token ≡ token.equals → o.token ≡ token.lparen → IsRecords left ts rs → c.token ≡ token.rparen → s.token ≡ token.semi
      → IsInstance (suc left) (n ∷ e ∷ o ∷ (ts ++ c ∷ s ∷ [])) (record { name = name; at = n.start; complex = true; records = rs })

pub data IsInstances (limit : ℕ) : List Placed → List Instance → Type 0 where
  none : IsInstances limit [] []
  more : (ts : List Placed) {rest : List Placed} {i : Instance} {is : List Instance} → IsInstance limit ts i → IsInstances limit rest is → IsInstances limit (ts ++ rest) (i ∷ is)

-- preface = Iso ';' HEADER ';' { entity } ENDSEC ';' DATA ';'
pub data IsPreface (limit : ℕ) : List Placed → Opening → Type 0 where
  made : (iso s1 header s2 : Placed) (ts : List Placed) (endsec s3 data_ s4 : Placed) {es : List Entry} → iso.token ≡ token.iso → s1.token ≡ token.semi → header.token ≡ token.keyword header_word → s2.token ≡ token.semi → IsEntities limit ts es
      → endsec.token ≡ token.keyword endsec_word → s3.token ≡ token.semi → data_.token ≡ token.keyword data_word → s4.token ≡ token.semi
      → IsPreface limit (iso ∷ s1 ∷ header ∷ s2 ∷ (ts ++ endsec ∷ s3 ∷ data_ ∷ s4 ∷ [])) (record { header_at = header.start; entities = es; data_at = s4.after })

-- tail = ENDSEC ';' EndIso ';' End
pub data IsTail : List Placed → Type 0 where
  made : (endsec s1 end_iso s2 end : Placed) → endsec.token ≡ token.keyword endsec_word → s1.token ≡ token.semi → end_iso.token ≡ token.end_iso → s2.token ≡ token.semi → end.token ≡ token.end → IsTail (endsec ∷ s1 ∷ end_iso ∷ s2 ∷ end ∷ [])

-- an instance by itself, up to the end of its text
pub record IsPiece (limit : ℕ) (tokens : List Placed) (i : Instance) : Type 0 where
  pub body : List Placed
  pub end : Placed
  pub parts : tokens ≡ body ++ end ∷ []
  pub is_instance : IsInstance limit body i
  pub is_end : end.token ≡ token.end

-- file = preface { instance } tail
pub record IsFile (limit : ℕ) (tokens : List Placed) (f : File) : Type 0 where
  pub opening : List Placed
  pub body : List Placed
  pub tail : List Placed
  pub parts : tokens ≡ opening ++ (body ++ tail)
  pub is_opening : IsPreface limit opening f.opening
  pub are_instances : IsInstances limit body f.instances
  pub is_tail : IsTail tail

-- the most parentheses that may be open at once
abbrev pub deepest : ℕ
deepest = 64
