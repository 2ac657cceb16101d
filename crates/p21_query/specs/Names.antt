-- Which parameters refer to an instance.
use Rattle.std.specs.Prelude.{◌≡◌, ◌⊎◌, ℕ, List}
use Rattle.p21_express.specs.WellFormed.{IsIn}
use Rattle.p21_tree.specs.Grammar.{Entry}
use Rattle.p21_tree.specs.Tree.{Tree, Trees, absent, derived, int, real, str, enumeration, binary, reference, items, typed, nil, cons}

abbrev mutual
  -- the parameter is the name, or has it in it
  pub HasName : ℕ → Tree → Type 0
  HasName n absent = ⊥
  HasName n derived = ⊥
  HasName n (int s) = ⊥
  HasName n (real s) = ⊥
  HasName n (str s) = ⊥
  HasName n (enumeration s) = ⊥
  HasName n (binary s) = ⊥
  HasName n (reference m) = m ≡ n
  HasName n (items ts) = HasNameIn n ts
  HasName n (typed k t) = HasName n t

  -- one of a list has
  pub HasNameIn : ℕ → Trees → Type 0
  HasNameIn n nil = ⊥
  HasNameIn n (cons t ts) = HasName n t ⊎ HasNameIn n ts

-- a record of some has it among its parameters
pub record AnyHasName (n : ℕ) (records : List Entry) : Type 0 where
  pub entry : Entry
  pub among : IsIn records entry
  pub named : HasNameIn n entry.params
