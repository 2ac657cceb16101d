use Rattle.p21_express.proofs.ReadingLemmas.{form_once}
use Rattle.p21_express.proofs.reading.one_form.Goals as goal

pub returns : goal.returns
returns c = form_once
