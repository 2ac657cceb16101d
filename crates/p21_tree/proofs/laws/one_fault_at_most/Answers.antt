use Rattle.p21_tree.specs.Fault.{files, pieces, prefaces, tails}
use Rattle.p21_tree.proofs.LawLemmas as law
use Rattle.p21_tree.proofs.laws.one_fault_at_most.Goals as goal

pub returns : goal.returns
returns c = record { of_files = law.one_fault_at_most files; of_prefaces = law.one_fault_at_most prefaces; of_pieces = law.one_fault_at_most pieces; of_tails = law.one_fault_at_most tails }
