-- The grammar of parameters, records and instances, as a relation between tokens and trees.
use Rattle.std.specs.Prelude.{ℕ, suc, List, [], ◌∷◌, ◌++◌}
use Rattle.p21_text.specs.Spelling.{Symbol}
use Rattle.p21_text.specs.Spelling as token
use Rattle.p21_tree.specs.Tree.{Tree, Trees, nil, cons}
use Rattle.p21_tree.specs.Tree as tree

-- KEY is a Keyword or a UserKeyword
pub data IsKey : Symbol → List ℕ → Type 0 where
  standard : {k : List ℕ} → IsKey (token.keyword k) k
  user : {k : List ℕ} → IsKey (token.user_keyword k) k

-- a parameter of one token
pub data IsLeaf : Symbol → Tree → Type 0 where
  absent : IsLeaf token.dollar tree.absent
  derived : IsLeaf token.star tree.derived
  int : {s : List ℕ} → IsLeaf (token.int s) (tree.int s)
  real : {s : List ℕ} → IsLeaf (token.real s) (tree.real s)
  str : {s : List ℕ} → IsLeaf (token.str s) (tree.str s)
  reference : {n : ℕ} → IsLeaf (token.name n) (tree.reference n)
  enumeration : {s : List ℕ} → IsLeaf (token.enumeration s) (tree.enumeration s)
  binary : {s : List ℕ} → IsLeaf (token.binary s) (tree.binary s)

-- Parameters, where `left` more parentheses may be opened.
mutual
  -- param = leaf | '(' [ params ] ')' | KEY '(' param ')'
  pub data IsParam : ℕ → List Symbol → Tree → Type 0 where
    leaf : {left : ℕ} {s : Symbol} {t : Tree} → IsLeaf s t → IsParam left (s ∷ []) t
    list : {left : ℕ} {tokens : List Symbol} {ts : Trees} → IsOptional left tokens ts → IsParam (suc left) (token.lparen ∷ (tokens ++ token.rparen ∷ [])) (tree.items ts)
    typed : {left : ℕ} {key : Symbol} {k : List ℕ} {tokens : List Symbol} {t : Tree} → IsKey key k → IsParam left tokens t → IsParam (suc left) (key ∷ token.lparen ∷ (tokens ++ token.rparen ∷ [])) (tree.typed k t)

  -- [ params ]
  pub data IsOptional : ℕ → List Symbol → Trees → Type 0 where
    empty : {left : ℕ} → IsOptional left [] nil
    params : {left : ℕ} {tokens : List Symbol} {ts : Trees} → IsParams left tokens ts → IsOptional left tokens ts

  -- params = param { ',' param }
  pub data IsParams : ℕ → List Symbol → Trees → Type 0 where
    one : {left : ℕ} {tokens : List Symbol} {t : Tree} → IsParam left tokens t → IsParams left tokens (cons t nil)
    comma : {left : ℕ} {tokens others : List Symbol} {t : Tree} {ts : Trees} → IsParam left tokens t → IsParams left others ts → IsParams left (tokens ++ token.comma ∷ others) (cons t ts)

-- a record, without where its parameters lie in memory
pub record Entry : Type 0 where
  pub keyword : List ℕ
  pub params : Trees

-- rec = KEY '(' [ params ] ')'
pub data IsRecord : ℕ → List Symbol → Entry → Type 0 where
  made : {left : ℕ} {key : Symbol} {k : List ℕ} {tokens : List Symbol} {ts : Trees} → IsKey key k → IsOptional left tokens ts → IsRecord (suc left) (key ∷ token.lparen ∷ (tokens ++ token.rparen ∷ [])) (record { keyword = k; params = ts })
