use Rattle.p21_express.proofs.ScanLemmas.{words_once}
use Rattle.p21_express.proofs.reading.one_word_list.Goals as goal

pub returns : goal.returns
returns c = λ text vs ws u v. words_once u v
