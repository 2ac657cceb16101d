use Rattle.p21_cut.proofs.HoldingLemmas.{piece_in_file, tail_in_file}
use Rattle.p21_cut.proofs.laws.first_tokens_of_file.Goals as goal

pub returns-clause-of_pieces : goal.returns-clause-of_pieces
returns-clause-of_pieces c = piece_in_file c.one_string.ensures

pub returns-clause-of_tails : goal.returns-clause-of_tails
returns-clause-of_tails c = tail_in_file
