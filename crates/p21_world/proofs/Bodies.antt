-- Parameters as trees, and the bodies in them.
use Rattle.std.proofs.Common.{◌≡◌, ◌∙◌, ℕ, List, [], ◌∷◌, ap, sym, Vec, Bor, Box, Global}
use Rattle.std.proofs.lemmas.List.Elements.{All-nil, All-cons}
use Rattle.p21_tree.specs.declared.params.Param.{Param, fold-roll-Param}
use Rattle.p21_tree.specs.declared.params.Param.TheOpen as level
use Rattle.p21_tree.specs.declared.params.Param.TheViews.{Items, Typed, rolls-Items, rolls-Typed}
use Rattle.p21_tree.specs.Bodies.{HasBodies, HaveBodies, AllHaveBodies}
use Rattle.p21_tree.specs.Plain.{plain, plain_all, plain_level}
use Rattle.p21_tree.specs.Tree.{Tree}
use Rattle.p21_tree.specs.Tree as tree

-- a list of parameters is the list of their trees
pub plain_items : {p : Param} (v : Vec Param Global) → p ≡ Items v → plain p ≡ tree.items (plain_all v.items)
plain_items {p} v e = ap plain e ∙ ap plain (sym (rolls-Items v)) ∙ fold-roll-Param Tree plain_level (level.Items v)

-- a typed parameter is that of the tree in it
pub plain_typed : {p : Param} (k : Bor (List ℕ)) (inner : Box Param Global) → p ≡ Typed k inner → plain p ≡ tree.typed k.now (plain inner.value)
plain_typed {p} k inner e = ap plain e ∙ ap plain (sym (rolls-Typed k inner)) ∙ fold-roll-Param Tree plain_level (level.Typed k inner)

-- the strings and binaries in a list are those of its elements
pub items_have : (ps : List Param) → HaveBodies (plain_all ps) → AllHaveBodies ps
items_have [] h = All-nil (λ p. HasBodies (plain p))
items_have (p ∷ ps) h = All-cons (λ q. HasBodies (plain q)) p ps h.0 (items_have ps h.1)
