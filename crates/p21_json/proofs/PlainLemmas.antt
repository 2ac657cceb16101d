-- A parameter as a plain tree, variant by variant.
use Rattle.std.proofs.Common.{◌≡◌, ◌<◌, ◌≤◌, ◌+◌, ℕ, zero, suc, List, [], ◌∷◌, length, get_or, sym, ap, ◌∙◌, Vec, Bor, Global, arith}
use Rattle.std.proofs.lemmas.List.Elements.{All-nil, All-cons}
use Rattle.p21_tree.specs.declared.params.Param.{Param, Param-F, out-Param, roll-Param, fold-roll-Param, roll-out-Param}
use Rattle.p21_tree.specs.declared.params.Param.TheOpen as level
use Rattle.p21_tree.specs.declared.params.Param.TheVariants.{Derived, Enumeration, rolls-Derived, rolls-Enumeration}
use Rattle.p21_tree.specs.declared.params.Param.TheViews.{Items, rolls-Items}
use Rattle.p21_tree.specs.Tree.{Tree, Trees}
use Rattle.p21_tree.specs.Tree as tree
use Rattle.p21_tree.specs.Plain.{plain, plain_all, plain_level}
use Rattle.p21_tree.specs.Bodies.{HasBodies, HaveBodies, AllHaveBodies}

pub plain_enumeration : {p : Param} (v : Bor (List ℕ)) → p ≡ Enumeration v → plain p ≡ tree.enumeration v.now
plain_enumeration {p} v e = ap plain e ∙ ap plain (sym (rolls-Enumeration v)) ∙ fold-roll-Param Tree plain_level (level.Enumeration v)

pub plain_items : {p : Param} (v : Vec Param Global) → p ≡ Items v → plain p ≡ tree.items (plain_all v.items)
plain_items {p} v e = ap plain e ∙ ap plain (sym (rolls-Items v)) ∙ fold-roll-Param Tree plain_level (level.Items v)

rolled_derived : (l : Param-F Param) → plain (roll-Param l) ≡ tree.derived → roll-Param l ≡ Derived
rolled_derived level.Derived e = rolls-Derived
rolled_derived other e = absurd (let f = sym (fold-roll-Param Tree plain_level other) ∙ e in cc)

-- what is plainly derived is so
pub derived_param : (p : Param) → plain p ≡ tree.derived → p ≡ Derived
derived_param p e = sym (roll-out-Param p) ∙ rolled_derived (out-Param p) (ap plain (roll-out-Param p) ∙ e)

-- the strings and binaries in a list are those of its elements
pub items_have : (ps : List Param) → HaveBodies (plain_all ps) → AllHaveBodies ps
items_have [] h = All-nil (λ p. HasBodies (plain p))
items_have (p ∷ ps) h = All-cons (λ q. HasBodies (plain q)) p ps h.0 (items_have ps h.1)

abbrev mutual
  -- how far a parameter goes down
  pub tree_size : Tree → ℕ
  tree_size tree.absent = 0
  tree_size tree.derived = 0
  tree_size (tree.int s) = 0
  tree_size (tree.real s) = 0
  tree_size (tree.str s) = 0
  tree_size (tree.enumeration s) = 0
  tree_size (tree.binary s) = 0
  tree_size (tree.reference n) = 0
  tree_size (tree.items ts) = 1 + trees_size ts
  tree_size (tree.typed k t) = 1 + tree_size t

  pub trees_size : Trees → ℕ
  trees_size tree.nil = 0
  trees_size (tree.cons t ts) = 1 + (tree_size t + trees_size ts)

-- each element is smaller than all
pub element_size : (ps : List Param) (i : ℕ) (d : Param) → i < length ps → 1 + tree_size (plain (get_or ps i d)) ≤ trees_size (plain_all ps)
element_size [] i d h = absurd (omega arith)
element_size (p ∷ ps) zero d h = omega arith
element_size (p ∷ ps) (suc i) d h = let more = element_size ps i d (omega arith) in omega arith
