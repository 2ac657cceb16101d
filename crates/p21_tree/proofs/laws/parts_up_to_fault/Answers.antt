use Rattle.p21_tree.proofs.UpToFault as law
use Rattle.p21_tree.proofs.laws.parts_up_to_fault.Goals as goal

pub returns : goal.returns
returns c = record { of_prefaces = law.preface_fault; of_pieces = law.piece_fault; of_tails = law.tail_fault; whole = law.piece_is_instance; behind = law.no_fault_behind_semi }
