-- The instances to which a parameter refers.
use Rattle.std.specs.Prelude.{ℕ, List, [], ◌∷◌, ◌++◌}
use Rattle.p21_tree.specs.Tree.{Tree, Trees, absent, derived, int, real, str, enumeration, binary, reference, items, typed, nil, cons}

abbrev mutual
  -- the instance names in a parameter in their order, those in lists and in typed values too
  pub mentions : Tree → List ℕ
  mentions absent = []
  mentions derived = []
  mentions (int s) = []
  mentions (real s) = []
  mentions (str s) = []
  mentions (enumeration s) = []
  mentions (binary s) = []
  mentions (reference n) = n ∷ []
  mentions (items ts) = all_mentions ts
  mentions (typed k t) = mentions t

  -- those in some parameters
  pub all_mentions : Trees → List ℕ
  all_mentions nil = []
  all_mentions (cons t ts) = mentions t ++ all_mentions ts
