use Rattle.std.proofs.Common.{Some, ap, sym, ◌∙◌}
use Rattle.p21_join.proofs.PlaceBlockLemmas.{same_number}
use Rattle.p21_join.proofs.place_blocks.PlaceBlocks.is_latest.Goals as goal

pub returns-in-Some : goal.returns-in-Some
returns-in-Some c same =
    let numbers = c.in-Some.field-0-1.now in
    (numbers, sym c.in-Some.ensures.entry ∙ ap (λ k. Some (k, numbers)) (same_number c.in-Some.latest.now c.args.number same))
