use Rattle.p21_printed.proofs.PaintedLemmas.{with_bytes}
use Rattle.p21_printed.proofs.paint.push_bytes.Goals as goal

pub returns : goal.returns
returns c = λ text painted. with_bytes c.extend_from_slice.result _ _ _ _ painted c.extend_from_slice.ensures.items
