use Rattle.p21_reader.proofs.ReadLemmas.{PartLaws, part_laws}
use Rattle.p21_reader.proofs.ValueLemmas.{values_read, local_reading}
use Rattle.p21_reader.proofs.laws.values_give_reading.Goals as goal

pub returns : goal.returns
returns c =
    let laws : PartLaws = part_laws c.first_tokens_of_file.ensures.of_pieces c.first_tokens_of_file.ensures.of_tails c.parts_up_to_fault.ensures.of_pieces c.parts_up_to_fault.ensures.of_tails c.parts_up_to_fault.ensures.whole c.parts_up_to_fault.ensures.behind in
    record { of_values = values_read laws; of_judged = local_reading laws }
