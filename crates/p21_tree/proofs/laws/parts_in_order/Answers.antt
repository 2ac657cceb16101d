use Rattle.p21_tree.proofs.InOrder as law
use Rattle.p21_tree.proofs.UpToFault.{preface_or_fault}
use Rattle.p21_tree.proofs.laws.parts_in_order.Goals as goal

pub returns : goal.returns
returns c = record { of_preface = preface_or_fault; behind_preface = law.parts_give_file }
