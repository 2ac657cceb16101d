-- The strings and binaries in a list are those of its elements.
use Rattle.std.proofs.Common.{List, [], ◌∷◌}
use Rattle.std.proofs.lemmas.List.Elements.{All-nil, All-cons}
use Rattle.p21_tree.specs.declared.params.Param.{Param}
use Rattle.p21_tree.specs.Plain.{plain, plain_all}
use Rattle.p21_tree.specs.Bodies.{HasBodies, HaveBodies, AllHaveBodies}

pub items_have : (ps : List Param) → HaveBodies (plain_all ps) → AllHaveBodies ps
items_have [] h = All-nil (λ p. HasBodies (plain p))
items_have (p ∷ ps) h = All-cons (λ q. HasBodies (plain q)) p ps h.0 (items_have ps h.1)
