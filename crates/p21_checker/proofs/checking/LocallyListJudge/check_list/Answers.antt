use Rattle.std.proofs.Common.{◌∷◌, ◌++◌, [], take, sym, ap, subst, ◌∙◌}
use Rattle.std.proofs.lemmas.List.{take_more}
use Rattle.p21_checker.specs.Checked.{AreStated}
use Rattle.p21_checker.proofs.ListLemmas.{nothing_stated}
use Rattle.p21_checker.proofs.checking.LocallyListJudge.check_list.Goals as goal

pub loop-piece-init : goal.loop-piece-init
loop-piece-init c = c.in_ok-check.ensures [] (nothing_stated c.args.self.now.schema.now c.in_ok-checked.checked c.in_ok-checked.ensures)

pub loop-piece-preserved : goal.loop-piece-preserved
loop-piece-preserved c =
    let s = c.args.self.now.schema.now in
    let first = c.args.list.first in
    let items = c.as_slice-piece-items.result.now in
    let piece = c.piece-item.result in
    let k = c.loop-piece.piece-index in
    let taken = take_more items k piece c.loop-piece-test.true ∙ ap (λ p. take k items ++ p ∷ []) (sym c.piece-item.is) in
    subst (λ ps. AreStated s (first ∷ ps) c.check-in-loop-piece.new.checked) (sym taken) (c.in_ok-check-2.ensures (first ∷ take k items) c.loop-piece.invariant)
