use Rattle.std.proofs.Common.{◌∷◌, ◌++◌, [], length, sym, ap, subst, ◌∙◌, append_assoc, arith}
use Rattle.std.proofs.lemmas.List.{length-append}
use Rattle.p21_reader.specs.Pieces.{AreGiven}
use Rattle.p21_checker.proofs.lists.PieceLists.fill.Goals as goal

pub loop-self-preserved : goal.loop-self-preserved
loop-self-preserved c =
    let before = c.loop-self.invariant in
    let piece = c.in-Piece.piece in
    let less = c.in-Piece.ensures.less in
    let left = before.1 in
    let room = before.2 in
    let few = c.loop-self-test.true in
    let count = c.loop-self.others.ok.0 in
    let more = ap length c.push_reserved.ensures.items ∙ length-append c.loop-self.others.items (piece ∷ []) in
    let same = c.push_reserved.ensures.capacity in (
      λ ps tail h.
          let put = ap (λ l. l ++ ps) c.push_reserved.ensures.items ∙ append_assoc c.loop-self.others.items (piece ∷ []) ps in
          subst (λ l. AreGiven c.args.self.now.pieces l tail) (sym put) (before.0 (piece ∷ ps) tail (c.in-Piece.ensures.next ps tail h)),
      omega (arith, less, left),
      omega (arith, room, same),
      omega (arith, few, count, more),
      before.4,
    )
