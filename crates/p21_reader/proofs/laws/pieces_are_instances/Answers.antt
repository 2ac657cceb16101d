use Rattle.p21_reader.proofs.FrontLemmas.{TreeLaws}
use Rattle.p21_reader.proofs.PieceLemmas.{NextLaws, are_instances, of_file_are_instances}
use Rattle.p21_reader.proofs.laws.pieces_are_instances.Goals as goal

pub returns : goal.returns
returns c =
    let laws : NextLaws = record { of_piece = c.tokens_of_next_piece.ensures.whole; first = c.tokens_of_next_piece.ensures.first; of_tail = c.tokens_of_next_piece.ensures.of_tail; one_semi = c.one_semicolon.ensures } in
    let trees : TreeLaws = record { firsts = c.first_is_unique.ensures; trees = c.one_tree.ensures; prefaces_end = c.one_beginning.ensures.of_prefaces; instances_end = c.one_beginning.ensures.of_instances } in
    record { behind_preface = are_instances laws; of_file = of_file_are_instances laws trees }
