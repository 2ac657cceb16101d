use Rattle.p21_reader.proofs.ReadLemmas.{part_laws, pieces_give_file}
use Rattle.p21_reader.proofs.laws.pieces_in_order.Goals as goal

pub returns : goal.returns
returns c = pieces_give_file (part_laws c.first_tokens_of_file.ensures.of_pieces c.first_tokens_of_file.ensures.of_tails c.parts_up_to_fault.ensures.of_pieces c.parts_up_to_fault.ensures.of_tails c.parts_up_to_fault.ensures.whole c.parts_up_to_fault.ensures.behind)
