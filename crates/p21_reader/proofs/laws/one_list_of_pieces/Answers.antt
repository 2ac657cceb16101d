use Rattle.p21_reader.proofs.PieceLemmas.{pieces_of_file_once}
use Rattle.p21_reader.proofs.laws.one_list_of_pieces.Goals as goal

pub returns : goal.returns
returns c = pieces_of_file_once (record { firsts = c.first_is_unique.ensures; trees = c.one_tree.ensures; prefaces_end = c.one_beginning.ensures.of_prefaces; instances_end = c.one_beginning.ensures.of_instances }) c.one_header_fault.ensures c.pieces_are_unique.ensures.all
