-- The cells of parameters that are of one form.
use Rattle.std.proofs.Common.{◌≡◌, List, ℕ, Result, IfOk, sym, ap, subst, ◌∙◌, Vec, Box, Bor, Global}
use Rattle.p21_tree.specs.declared.params.Param.{Param, fold-roll-Param}
use Rattle.p21_tree.specs.declared.params.Param.TheOpen as level
use Rattle.p21_tree.specs.declared.params.Param.TheVariants.{Enumeration, Binary, rolls-Enumeration, rolls-Binary}
use Rattle.p21_tree.specs.declared.params.Param.TheViews.{Items, Typed, rolls-Items, rolls-Typed}
use Rattle.p21_tree.specs.Tree.{Tree}
use Rattle.p21_tree.specs.Tree as tree
use Rattle.p21_tree.specs.Plain.{plain, plain_all, plain_level}
use Rattle.p21_express.specs.Schema.{Schema}
use Rattle.p21_json.specs.Parts.{value_parts}
use Rattle.p21_json.specs.Values.{IsTextOf}
use Rattle.p21_json.specs.Where.{Where}
use Rattle.p21_rows.specs.declared.cell.Cell.{Cell}
use Rattle.p21_rows.specs.Cells.{IsCell, IsItemCell, IsText}

plain_enumeration : {p : Param} (v : Bor (List ℕ)) → p ≡ Enumeration v → plain p ≡ tree.enumeration v.now
plain_enumeration {p} v e = ap plain e ∙ ap plain (sym (rolls-Enumeration v)) ∙ fold-roll-Param Tree plain_level (level.Enumeration v)

plain_binary : {p : Param} (v : Bor (List ℕ)) → p ≡ Binary v → plain p ≡ tree.binary v.now
plain_binary {p} v e = ap plain e ∙ ap plain (sym (rolls-Binary v)) ∙ fold-roll-Param Tree plain_level (level.Binary v)

plain_items : {p : Param} (v : Vec Param Global) → p ≡ Items v → plain p ≡ tree.items (plain_all v.items)
plain_items {p} v e = ap plain e ∙ ap plain (sym (rolls-Items v)) ∙ fold-roll-Param Tree plain_level (level.Items v)

plain_typed : {p : Param} (k : Bor (List ℕ)) (inner : Box Param Global) → p ≡ Typed k inner → plain p ≡ tree.typed k.now (plain inner.value)
plain_typed {p} k inner e = ap plain e ∙ ap plain (sym (rolls-Typed k inner)) ∙ fold-roll-Param Tree plain_level (level.Typed k inner)

-- what is made of a value as JSON
abbrev IsMade : {E : Type 0} → Schema → Where → Result Cell E → Tree → Type 0
IsMade s w r t = IfOk r (IsText (IsTextOf s (value_parts w t)))

abbrev IsCellOf : {E : Type 0} → Schema → Where → Result Cell E → Tree → Type 0
IsCellOf s w r t = IfOk r (IsCell s w t)

pub of_item : {E : Type 0} (s : Schema) (w : Where) (r : Result Cell E) (p : Param) (v : Bor (List ℕ)) → p ≡ Enumeration v → IfOk r (IsItemCell s w v.now) → IfOk r (IsCell s w (plain p))
of_item s w r p v e h = subst (IsCellOf s w r) (sym (plain_enumeration v e)) h

pub of_binary : {E : Type 0} (s : Schema) (w : Where) (r : Result Cell E) (p : Param) (v : Bor (List ℕ)) → p ≡ Binary v → IfOk r (IsText (IsTextOf s (value_parts w (plain p)))) → IfOk r (IsCell s w (plain p))
of_binary s w r p v e h =
    let at : IsCellOf s w r (tree.binary v.now) = subst (IsMade s w r) (plain_binary v e) h in
    subst (IsCellOf s w r) (sym (plain_binary v e)) at

pub of_items : {E : Type 0} (s : Schema) (w : Where) (r : Result Cell E) (p : Param) (v : Vec Param Global) → p ≡ Items v → IfOk r (IsText (IsTextOf s (value_parts w (plain p)))) → IfOk r (IsCell s w (plain p))
of_items s w r p v e h =
    let at : IsCellOf s w r (tree.items (plain_all v.items)) = subst (IsMade s w r) (plain_items v e) h in
    subst (IsCellOf s w r) (sym (plain_items v e)) at

pub of_typed : {E : Type 0} (s : Schema) (w : Where) (r : Result Cell E) (p : Param) (k : Bor (List ℕ)) (inner : Box Param Global) → p ≡ Typed k inner → IfOk r (IsText (IsTextOf s (value_parts w (plain p)))) → IfOk r (IsCell s w (plain p))
of_typed s w r p k inner e h =
    let at : IsCellOf s w r (tree.typed k.now (plain inner.value)) = subst (IsMade s w r) (plain_typed k inner e) h in
    subst (IsCellOf s w r) (sym (plain_typed k inner e)) at
