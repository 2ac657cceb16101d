use Rattle.p21_cut.proofs.NextPieceLemmas.{of_piece, begins_with_name, of_tail}
use Rattle.p21_cut.proofs.laws.tokens_of_next_piece.Goals as goal

pub returns : goal.returns
returns c = record { whole = of_piece c.one_string.ensures; first = begins_with_name; of_tail = of_tail }
