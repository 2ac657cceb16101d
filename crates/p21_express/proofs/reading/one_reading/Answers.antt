use Rattle.p21_express.proofs.ReadingLemmas.{reading_once}
use Rattle.p21_express.proofs.reading.one_reading.Goals as goal

pub returns : goal.returns
returns c = reading_once
