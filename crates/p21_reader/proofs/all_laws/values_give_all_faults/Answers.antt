use Rattle.p21_reader.proofs.ReadLemmas.{part_laws}
use Rattle.p21_reader.proofs.AllValueLemmas.{values_give_all}
use Rattle.p21_reader.proofs.all_laws.values_give_all_faults.Goals as goal

pub returns : goal.returns
returns c = values_give_all (part_laws c.first_tokens_of_file.ensures.of_pieces c.first_tokens_of_file.ensures.of_tails c.parts_up_to_fault.ensures.of_pieces c.parts_up_to_fault.ensures.of_tails c.parts_up_to_fault.ensures.whole c.parts_up_to_fault.ensures.behind)
