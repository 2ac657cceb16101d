use Rattle.std.proofs.Common.{drop}
use Rattle.p21_cut.proofs.OneCuttingLemmas.{one_next, pieces_once}
use Rattle.p21_cut.proofs.laws.pieces_are_unique.Goals as goal

pub returns-clause-all : goal.returns-clause-all
returns-clause-all c = λ file at number ps qs end other. pieces_once file at number ps qs end other (λ k. c.one_string.ensures (drop k file))

pub returns-clause-next : goal.returns-clause-next
returns-clause-next c = λ file at. one_next file at (λ k. c.one_string.ensures (drop k file))
