-- How far a parameter goes down.
use Rattle.std.proofs.Common.{ℕ, zero, suc, ◌+◌, ◌<◌, ◌≤◌, List, [], ◌∷◌, length, get_or, arith}
use Rattle.p21_tree.specs.Tree.{Tree, Trees, absent, derived, int, real, str, enumeration, binary, reference, items, typed, nil, cons}
use Rattle.p21_tree.specs.declared.params.Param.{Param}
use Rattle.p21_tree.specs.Plain.{plain, plain_all}

abbrev mutual
  pub tree_size : Tree → ℕ
  tree_size absent = 0
  tree_size derived = 0
  tree_size (int s) = 0
  tree_size (real s) = 0
  tree_size (str s) = 0
  tree_size (enumeration s) = 0
  tree_size (binary s) = 0
  tree_size (reference n) = 0
  tree_size (items ts) = 1 + trees_size ts
  tree_size (typed k t) = 1 + tree_size t

  pub trees_size : Trees → ℕ
  trees_size nil = 0
  trees_size (cons t ts) = 1 + (tree_size t + trees_size ts)

-- each element is smaller than all
pub element_size : (ps : List Param) (i : ℕ) (d : Param) → i < length ps → 1 + tree_size (plain (get_or ps i d)) ≤ trees_size (plain_all ps)
element_size [] i d h = absurd (omega arith)
element_size (p ∷ ps) zero d h = omega arith
element_size (p ∷ ps) (suc i) d h = let more = element_size ps i d (omega arith) in omega arith
