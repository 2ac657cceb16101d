-- A parameter as a plain tree, variant by variant.
use Rattle.std.proofs.Common.{◌≡◌, ◌<◌, ◌≤◌, ◌+◌, ℕ, zero, suc, List, [], ◌∷◌, length, get_or, sym, ap, ◌∙◌, Vec, Box, Bor, Global, arith}
use Rattle.std.proofs.lemmas.List.Elements.{All-nil, All-cons}
use Rattle.p21_tree.specs.declared.params.Param.{Param, fold-roll-Param}
use Rattle.p21_tree.specs.declared.params.Param.TheOpen as level
use Rattle.p21_tree.specs.declared.params.Param.TheVariants.{Absent, Derived, Int, Real, Str, Enumeration, Binary, Ref, rolls-Absent, rolls-Derived, rolls-Int, rolls-Real, rolls-Str, rolls-Enumeration, rolls-Binary, rolls-Ref}
use Rattle.p21_tree.specs.declared.params.Param.TheViews.{Items, Typed, rolls-Items, rolls-Typed}
use Rattle.p21_tree.specs.Tree.{Tree, Trees}
use Rattle.p21_tree.specs.Tree as tree
use Rattle.p21_tree.specs.Plain.{plain, plain_all, plain_level}
use Rattle.p21_tree.specs.Bodies.{HasBodies, HaveBodies, AllHaveBodies}

pub plain_absent : {p : Param} → p ≡ Absent → plain p ≡ tree.absent
plain_absent {p} e = ap plain e ∙ ap plain (sym rolls-Absent) ∙ fold-roll-Param Tree plain_level level.Absent

pub plain_derived : {p : Param} → p ≡ Derived → plain p ≡ tree.derived
plain_derived {p} e = ap plain e ∙ ap plain (sym rolls-Derived) ∙ fold-roll-Param Tree plain_level level.Derived

pub plain_int : {p : Param} (v : Bor (List ℕ)) → p ≡ Int v → plain p ≡ tree.int v.now
plain_int {p} v e = ap plain e ∙ ap plain (sym (rolls-Int v)) ∙ fold-roll-Param Tree plain_level (level.Int v)

pub plain_real : {p : Param} (v : Bor (List ℕ)) → p ≡ Real v → plain p ≡ tree.real v.now
plain_real {p} v e = ap plain e ∙ ap plain (sym (rolls-Real v)) ∙ fold-roll-Param Tree plain_level (level.Real v)

pub plain_str : {p : Param} (v : Bor (List ℕ)) → p ≡ Str v → plain p ≡ tree.str v.now
plain_str {p} v e = ap plain e ∙ ap plain (sym (rolls-Str v)) ∙ fold-roll-Param Tree plain_level (level.Str v)

pub plain_enumeration : {p : Param} (v : Bor (List ℕ)) → p ≡ Enumeration v → plain p ≡ tree.enumeration v.now
plain_enumeration {p} v e = ap plain e ∙ ap plain (sym (rolls-Enumeration v)) ∙ fold-roll-Param Tree plain_level (level.Enumeration v)

pub plain_binary : {p : Param} (v : Bor (List ℕ)) → p ≡ Binary v → plain p ≡ tree.binary v.now
plain_binary {p} v e = ap plain e ∙ ap plain (sym (rolls-Binary v)) ∙ fold-roll-Param Tree plain_level (level.Binary v)

pub plain_reference : {p : Param} (n : ℕ) → p ≡ Ref n → plain p ≡ tree.reference n
plain_reference {p} n e = ap plain e ∙ ap plain (sym (rolls-Ref n)) ∙ fold-roll-Param Tree plain_level (level.Ref n)

pub plain_items : {p : Param} (v : Vec Param Global) → p ≡ Items v → plain p ≡ tree.items (plain_all v.items)
plain_items {p} v e = ap plain e ∙ ap plain (sym (rolls-Items v)) ∙ fold-roll-Param Tree plain_level (level.Items v)

pub plain_typed : {p : Param} (k : Bor (List ℕ)) (inner : Box Param Global) → p ≡ Typed k inner → plain p ≡ tree.typed k.now (plain inner.value)
plain_typed {p} k inner e = ap plain e ∙ ap plain (sym (rolls-Typed k inner)) ∙ fold-roll-Param Tree plain_level (level.Typed k inner)

-- the strings and binaries in a list are those of its elements
pub items_have : (ps : List Param) → HaveBodies (plain_all ps) → AllHaveBodies ps
items_have [] h = All-nil (λ p. HasBodies (plain p))
items_have (p ∷ ps) h = All-cons (λ q. HasBodies (plain q)) p ps h.0 (items_have ps h.1)

abbrev mutual
  -- how far a parameter goes down
  pub tree_size : Tree → ℕ
  tree_size tree.absent = 0
  tree_size tree.derived = 0
  tree_size (tree.int s) = 0
  tree_size (tree.real s) = 0
  tree_size (tree.str s) = 0
  tree_size (tree.enumeration s) = 0
  tree_size (tree.binary s) = 0
  tree_size (tree.reference n) = 0
  tree_size (tree.items ts) = 1 + trees_size ts
  tree_size (tree.typed k t) = 1 + tree_size t

  pub trees_size : Trees → ℕ
  trees_size tree.nil = 0
  trees_size (tree.cons t ts) = 1 + (tree_size t + trees_size ts)

-- each element is smaller than all
pub element_size : (ps : List Param) (i : ℕ) (d : Param) → i < length ps → 1 + tree_size (plain (get_or ps i d)) ≤ trees_size (plain_all ps)
element_size [] i d h = absurd (omega arith)
element_size (p ∷ ps) zero d h = omega arith
element_size (p ∷ ps) (suc i) d h = let more = element_size ps i d (omega arith) in omega arith
