-- The parts of a file as languages, put together as the grammar puts them together.
use Rattle.std.specs.Prelude.{◌≡◌, ◌≢◌, ℕ, suc, Bool, List, [], ◌∷◌, ◌++◌}
use Rattle.p21_text.specs.Spelling.{Symbol}
use Rattle.p21_text.specs.Spelling as token
use Rattle.p21_text.specs.Tokens.{Placed, symbols}
use Rattle.p21_tree.specs.Tree.{Trees}
use Rattle.p21_tree.specs.Grammar.{Entry, IsKey, IsOptional, IsRecord}
use Rattle.p21_tree.specs.Sentence.{Instance, IsRecords, IsInstance, IsInstances, IsEntities, IsTail, deepest, header_word, endsec_word, data_word}
use Rattle.p21_tree.specs.Languages.{Just, Then, Either, Within, Many}

-- the tokens are parameters and the parenthesis that closes them
pub record IsClosed (left : ℕ) (ts : List Symbol) (found : Trees) : Type 0 where
  pub inner : List Symbol
  pub parts : ts ≡ inner ++ token.rparen ∷ []
  pub params : IsOptional left inner found

-- [ params ] ')'
abbrev pub Closed : ℕ → List Placed → Type 0
Closed left ts = (found : Trees) × IsClosed left (symbols ts) found

-- this very token
abbrev pub Is : Symbol → Symbol → Type 0
Is s t = t ≡ s

abbrev pub Terminal : Symbol → ℕ → List Placed → Type 0
Terminal s = Just (Is s)

-- KEY
abbrev pub KeyToken : Symbol → Type 0
KeyToken s = (k : List ℕ) × IsKey s k

-- KEY, but not ENDSEC
abbrev pub EntityKey : Symbol → Type 0
EntityKey s = KeyToken s × (s ≢ token.keyword endsec_word)

-- '(' [ params ] ')', where its own parenthesis is not counted
abbrev pub Arguments : ℕ → List Placed → Type 0
Arguments = Then (Terminal token.lparen) Closed

-- the tokens are such parameters in their parentheses
pub record IsArguments (left : ℕ) (ts : List Placed) (found : Trees) : Type 0 where
  pub open_ : Placed
  pub rest : List Placed
  pub parts : ts ≡ open_ ∷ rest
  pub is_open : open_.token ≡ token.lparen
  pub closed : IsClosed left (symbols rest) found

-- KEY '(' [ params ] ')', for some of the KEYs
abbrev pub Keyed : (Symbol → Type 0) → ℕ → List Placed → Type 0
Keyed K = Within (Then (Just K) Arguments)

-- such tokens after a keyword make a record
abbrev pub IsKeyed : ℕ → List ℕ → Entry → List Placed → Type 0
IsKeyed left k e ts = (t : Placed) → IsKey t.token k → IsRecord (suc left) (symbols (t ∷ ts)) e

-- rec
abbrev pub Records : ℕ → List Placed → Type 0
Records = Keyed KeyToken

-- { rec } ')'
abbrev pub MoreRecords : ℕ → List Placed → Type 0
MoreRecords = Many Records (Terminal token.rparen)

-- rec { rec } ')'
abbrev pub SomeRecords : ℕ → List Placed → Type 0
SomeRecords = Then Records MoreRecords

-- the tokens are such records and the parenthesis that closes them
pub record IsSomeRecords (limit : ℕ) (ts : List Placed) (rs : List Entry) : Type 0 where
  pub body : List Placed
  pub close : Placed
  pub parts : ts ≡ body ++ close ∷ []
  pub is_close : close.token ≡ token.rparen
  pub are_records : IsRecords limit body rs

-- '(' rec { rec } ')'
abbrev pub Complex : ℕ → List Placed → Type 0
Complex = Within (Then (Terminal token.lparen) SomeRecords)

-- rec | '(' rec { rec } ')'
abbrev pub Form : ℕ → List Placed → Type 0
Form = Either Records Complex

-- such tokens, between a name, an equals terminal and a semicolon, make an instance
abbrev pub IsForm : ℕ → List Placed → Bool → List Entry → Type 0
IsForm limit ts complex rs = (n e s : Placed) (name : ℕ) → n.token ≡ token.name name → e.token ≡ token.equals → s.token ≡ token.semi → IsInstance limit (n ∷ e ∷ (ts ++ s ∷ [])) (record { name = name; at = n.start; complex = complex; records = rs })

-- the tokens are the form of an instance
pub record IsFormOf (limit : ℕ) (ts : List Placed) (complex : Bool) (rs : List Entry) : Type 0 where
  pub makes : IsForm limit ts complex rs
  pub form : Form limit ts

abbrev pub NameToken : Symbol → Type 0
NameToken s = (n : ℕ) × (s ≡ token.name n)

-- ( rec | '(' rec { rec } ')' ) ';'
abbrev pub FormOn : ℕ → List Placed → Type 0
FormOn = Then Form (Terminal token.semi)

-- '=' ( rec | '(' rec { rec } ')' ) ';'
abbrev pub EqualsOn : ℕ → List Placed → Type 0
EqualsOn = Then (Terminal token.equals) FormOn

-- Name '=' ( rec | '(' rec { rec } ')' ) ';'
abbrev pub Instances : ℕ → List Placed → Type 0
Instances = Then (Just NameToken) EqualsOn

-- such tokens, after a name at a place, make an instance
abbrev pub IsBehindName : ℕ → ℕ → Instance → List Placed → Type 0
IsBehindName name at i ts = (n : Placed) → n.token ≡ token.name name → n.start ≡ at → IsInstance deepest (n ∷ ts) i

-- KEY '(' [ params ] ')', but not ENDSEC
abbrev pub EntityRecords : ℕ → List Placed → Type 0
EntityRecords = Keyed EntityKey

-- entity = KEY '(' [ params ] ')' ';'
abbrev pub Entities : ℕ → List Placed → Type 0
Entities = Then EntityRecords (Terminal token.semi)

-- the rest of a header entity after its keyword, where its own parenthesis is not counted
abbrev pub EntityRest : ℕ → List Placed → Type 0
EntityRest = Then Arguments (Terminal token.semi)

-- such tokens after a keyword make a header entity
pub record IsBehindKey (k : List ℕ) (e : Entry) (ts : List Placed) : Type 0 where
  pub rest : List Placed
  pub semi : Placed
  pub parts : ts ≡ rest ++ semi ∷ []
  pub is_semi : semi.token ≡ token.semi
  pub makes : (t : Placed) → IsKey t.token k → IsRecord deepest (symbols (t ∷ rest)) e

-- the tokens are header entities and the ENDSEC after them
pub record IsHeaderBody (ts : List Placed) (es : List Entry) : Type 0 where
  pub body : List Placed
  pub close : Placed
  pub parts : ts ≡ body ++ close ∷ []
  pub is_close : close.token ≡ token.keyword endsec_word
  pub are_entities : IsEntities deepest body es

-- DATA ';'
abbrev pub DataOn : ℕ → List Placed → Type 0
DataOn = Then (Terminal (token.keyword data_word)) (Terminal token.semi)

-- ';' DATA ';'
abbrev pub EndsecOn : ℕ → List Placed → Type 0
EndsecOn = Then (Terminal token.semi) DataOn

-- ENDSEC ';' DATA ';'
abbrev pub HeaderEnd : ℕ → List Placed → Type 0
HeaderEnd = Then (Terminal (token.keyword endsec_word)) EndsecOn

-- { entity } ENDSEC ';' DATA ';'
abbrev pub HeaderRest : ℕ → List Placed → Type 0
HeaderRest = Many Entities HeaderEnd

-- ';' { entity } ENDSEC ';' DATA ';'
abbrev pub HeaderOn : ℕ → List Placed → Type 0
HeaderOn = Then (Terminal token.semi) HeaderRest

-- HEADER ';' { entity } ENDSEC ';' DATA ';'
abbrev pub Headers : ℕ → List Placed → Type 0
Headers = Then (Terminal (token.keyword header_word)) HeaderOn

-- ';' HEADER ';' { entity } ENDSEC ';' DATA ';'
abbrev pub IsoOn : ℕ → List Placed → Type 0
IsoOn = Then (Terminal token.semi) Headers

-- the tokens are Iso ';' HEADER ';'
pub record IsOpening (ts : List Placed) (header_at : ℕ) : Type 0 where
  pub iso : Placed
  pub s1 : Placed
  pub header : Placed
  pub s2 : Placed
  pub parts : ts ≡ iso ∷ s1 ∷ header ∷ s2 ∷ []
  pub is_iso : iso.token ≡ token.iso
  pub is_s1 : s1.token ≡ token.semi
  pub is_header : header.token ≡ token.keyword header_word
  pub is_s2 : s2.token ≡ token.semi
  pub place : header_at ≡ header.start

-- the tokens are ';' DATA ';'
pub record IsDataStart (ts : List Placed) (data_at : ℕ) : Type 0 where
  pub s3 : Placed
  pub data_ : Placed
  pub s4 : Placed
  pub parts : ts ≡ s3 ∷ data_ ∷ s4 ∷ []
  pub is_s3 : s3.token ≡ token.semi
  pub is_data : data_.token ≡ token.keyword data_word
  pub is_s4 : s4.token ≡ token.semi
  pub place : data_at ≡ s4.after

-- Iso ';' HEADER ';' { entity } ENDSEC ';' DATA ';'
abbrev pub Prefaces : ℕ → List Placed → Type 0
Prefaces = Then (Terminal token.iso) IsoOn

-- ';' End
abbrev pub EndIsoOn : ℕ → List Placed → Type 0
EndIsoOn = Then (Terminal token.semi) (Terminal token.end)

-- EndIso ';' End
abbrev pub EndIsos : ℕ → List Placed → Type 0
EndIsos = Then (Terminal token.end_iso) EndIsoOn

-- ';' EndIso ';' End
abbrev pub TailOn : ℕ → List Placed → Type 0
TailOn = Then (Terminal token.semi) EndIsos

-- ENDSEC ';' EndIso ';' End
abbrev pub Tails : ℕ → List Placed → Type 0
Tails = Then (Terminal (token.keyword endsec_word)) TailOn

-- such tokens after ENDSEC make a tail
abbrev pub IsBehindEndsec : List Placed → Type 0
IsBehindEndsec ts = (e : Placed) → e.token ≡ token.keyword endsec_word → IsTail (e ∷ ts)

-- the tokens are instances and a tail
pub record IsBody (ts : List Placed) (is : List Instance) : Type 0 where
  pub body : List Placed
  pub rest : List Placed
  pub parts : ts ≡ body ++ rest
  pub are_instances : IsInstances deepest body is
  pub is_tail : IsTail rest

-- { instance } tail
abbrev pub Bodies : ℕ → List Placed → Type 0
Bodies = Many Instances Tails

abbrev pub Files : ℕ → List Placed → Type 0
Files = Then Prefaces Bodies

-- an instance up to the end of its text
abbrev pub Pieces : ℕ → List Placed → Type 0
Pieces = Then Instances (Terminal token.end)
