use Rattle.p21_tree.specs.Fault.{files, tails}
use Rattle.p21_tree.proofs.TextFaults.{text_faults, piece_faults, preface_faults}
use Rattle.p21_tree.proofs.laws.faults_of_tokens.Goals as goal

pub returns : goal.returns
returns c =
    let one = c.first_is_unique.ensures in
    record { of_files = text_faults one files; of_prefaces = preface_faults one; of_pieces = piece_faults one; of_tails = text_faults one tails }
