use Rattle.p21_cut.proofs.MarkLemmas.{mask_of_marks}
use Rattle.p21_cut.proofs.marks.marks.Goals as goal

pub returns : goal.returns
returns c = mask_of_marks c.args.bytes c.fits-bytes.0
