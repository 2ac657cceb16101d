-- How far a parameter goes down.
use Rattle.std.proofs.Common.{◌≡◌, ℕ, zero, suc, ◌+◌, ◌<◌, ◌≤◌, List, [], ◌∷◌, Option, Some, None, length, get_or, refl, arith}
use Rattle.p21_express.specs.Schema.{Expr}
use Rattle.p21_express.specs.Schema as type
use Rattle.p21_tree.specs.Tree.{Tree, Trees, absent, derived, int, real, str, enumeration, binary, reference, items, typed, nil, cons}
use Rattle.p21_tree.specs.declared.params.Param.{Param}
use Rattle.p21_tree.specs.Plain.{plain, plain_all}

abbrev mutual
  pub tree_size : Tree → ℕ
  tree_size absent = 0
  tree_size derived = 0
  tree_size (int s) = 0
  tree_size (real s) = 0
  tree_size (str s) = 0
  tree_size (enumeration s) = 0
  tree_size (binary s) = 0
  tree_size (reference n) = 0
  tree_size (items ts) = 1 + trees_size ts
  tree_size (typed k t) = 1 + tree_size t

  pub trees_size : Trees → ℕ
  trees_size nil = 0
  trees_size (cons t ts) = 1 + (tree_size t + trees_size ts)

-- a name comes before what stands under it
abbrev pub rank : Option Expr → ℕ
rank None = 1
rank (Some type.integer) = 1
rank (Some type.number) = 1
rank (Some type.boolean) = 1
rank (Some type.logical) = 1
rank (Some type.real) = 1
rank (Some (type.text w)) = 1
rank (Some (type.binary w)) = 1
rank (Some (type.aggregate a e)) = 1
rank (Some (type.named n)) = 4

-- each element is smaller than all
pub element_size : (ps : List Param) (i : ℕ) (d : Param) → i < length ps → 1 + tree_size (plain (get_or ps i d)) ≤ trees_size (plain_all ps)
element_size [] i d h = absurd (omega arith)
element_size (p ∷ ps) zero d h = omega arith
element_size (p ∷ ps) (suc i) d h = let more = element_size ps i d (omega arith) in omega arith

-- what is no name has the low rank
pub low_rank : (e : Expr) → ((n : List ℕ) → ¬ (e ≡ type.named n)) → rank (Some e) ≡ 1
low_rank type.integer h = refl
low_rank type.number h = refl
low_rank type.boolean h = refl
low_rank type.logical h = refl
low_rank type.real h = refl
low_rank (type.text w) h = refl
low_rank (type.binary w) h = refl
low_rank (type.aggregate a e) h = refl
low_rank (type.named n) h = absurd (h n refl)

pub low : (o : Option Expr) → 1 ≤ rank o
low None = omega arith
low (Some type.integer) = omega arith
low (Some type.number) = omega arith
low (Some type.boolean) = omega arith
low (Some type.logical) = omega arith
low (Some type.real) = omega arith
low (Some (type.text w)) = omega arith
low (Some (type.binary w)) = omega arith
low (Some (type.aggregate a e)) = omega arith
low (Some (type.named n)) = omega arith
