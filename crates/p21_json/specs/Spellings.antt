-- Parameters whose parts are spelled as those of tokens are.
use Rattle.std.specs.Prelude.{◌≡◌, ◌<◌, ◌^◌, ◌⊎◌, ℕ, Bool, true, false, List, [], ◌∷◌}
use Rattle.std.specs.List.{AllByRecursion}
use Rattle.p21_text.specs.Spelling.{IsInt, IsReal, IsName, IsBinary, bits_of}
use Rattle.p21_tree.specs.Grammar.{Entry}
use Rattle.p21_tree.specs.Sentence.{Instance}
use Rattle.p21_tree.specs.Tree.{Tree, Trees, absent, derived, int, real, str, enumeration, binary, reference, items, typed, nil, cons}

-- a name, or `!` and a name
abbrev pub IsKeyword : List ℕ → Type 0
IsKeyword k = IsName k ⊎ ((n : List ℕ) × (k ≡ 33 ∷ n) × IsName n)

abbrev mutual
  -- each number, name and binary of a parameter is spelled as one; a binary has fewer than 2 ^ 64 bits
  pub HasSpellings : Tree → Type 0
  HasSpellings absent = Unit {0}
  HasSpellings derived = Unit {0}
  HasSpellings (int v) = IsInt v
  HasSpellings (real v) = IsReal v
  HasSpellings (str v) = Unit {0}
  HasSpellings (enumeration v) = IsName v
  HasSpellings (binary v) = IsBinary v × (bits_of v < 2 ^ 64)
  HasSpellings (reference n) = n < 2 ^ 64
  HasSpellings (items ts) = HaveSpellings ts
  HasSpellings (typed k t) = IsKeyword k × HasSpellings t

  -- the same of each
  pub HaveSpellings : Trees → Type 0
  HaveSpellings nil = Unit {0}
  HaveSpellings (cons t ts) = HasSpellings t × HaveSpellings ts

abbrev pub RecordHasSpellings : Entry → Type 0
RecordHasSpellings e = IsKeyword e.keyword × HaveSpellings e.params

-- a simple instance has one record
abbrev pub HasItsRecords : Bool → List Entry → Type 0
HasItsRecords true es = Unit {0}
HasItsRecords false [] = ⊥
HasItsRecords false (e ∷ []) = Unit {0}
HasItsRecords false (e ∷ f ∷ es) = ⊥

-- an instance as a file spells it
pub record IsSpelledInstance (i : Instance) : Type 0 where
  pub name : i.name < 2 ^ 64
  pub one : HasItsRecords i.complex i.records
  pub records : AllByRecursion RecordHasSpellings i.records
