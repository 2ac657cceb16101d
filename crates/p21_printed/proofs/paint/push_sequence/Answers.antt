use Rattle.p21_printed.proofs.PaintedLemmas.{with_sequence}
use Rattle.p21_printed.proofs.paint.push_sequence.Goals as goal

pub returns : goal.returns
returns c = λ text painted. with_sequence c.extend_from_slice.result _ _ _ _ painted c.sequence.ensures c.extend_from_slice.ensures.items
