use Rattle.p21_tree.proofs.FileVerdict.{file_answer, preface_answer, piece_answer, tail_answer}
use Rattle.p21_tree.proofs.laws.one_answer.Goals as goal

pub returns : goal.returns
returns c = record { of_files = file_answer; of_prefaces = preface_answer; of_pieces = piece_answer; of_tails = tail_answer }
