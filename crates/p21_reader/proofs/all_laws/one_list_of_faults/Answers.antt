use Rattle.p21_reader.proofs.OneListLemmas.{list_once}
use Rattle.p21_reader.proofs.all_laws.one_list_of_faults.Goals as goal

pub returns : goal.returns
returns c = list_once (record {
  lists = c.tokens_are_unique.ensures;
  sentences = record { firsts = c.first_is_unique.ensures; trees = c.one_tree.ensures; prefaces_end = c.one_beginning.ensures.of_prefaces; instances_end = c.one_beginning.ensures.of_instances };
  faults = c.one_fault_at_most.ensures.of_files;
  of_tokens = c.faults_of_tokens.ensures.of_files;
  header = c.one_header_fault.ensures;
  alone = c.one_local_fault.ensures;
  references = c.one_reference_fault.ensures;
})
