use Rattle.p21_printed.proofs.PaintedLemmas.{at_first, at_last}
use Rattle.p21_printed.proofs.paint.painted.Goals as goal

pub returns : goal.returns
returns c =
    let whole = c.args.paragraph.now in
    let none = at_first whole _ c.new-made.ensures.items in
    let head = c.in_ok-rest.ensures whole none in
    let line_end = c.in_ok-rest-2.ensures whole head in
    let margin = c.in_ok-rest-3.ensures whole line_end in
    let line = c.in_ok-rest-4.ensures whole margin in
    let margin_below = c.in_ok-rest-5.ensures whole line in
    let caret = c.in_ok-rest-6.ensures whole margin_below in
    at_last whole _ _ _ caret (λ t painted. c.in_ok-push_part.ensures t painted)
