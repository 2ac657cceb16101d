-- What is compared of an answer: its instances, without where they lie in memory, or its fault.
use Rattle.std.specs.Prelude.{List, Result, Ok, Err}
use Rattle.p21_tree.specs.declared.faults.Fault.{Fault}
use Rattle.p21_tree.specs.Sentence.{Instance}
use Rattle.p21_join.specs.declared.model.Model.{Model}
use Rattle.p21_join.specs.Model.{instances_of, plain_instances}

abbrev pub plain_answer : Result Model Fault → Result (List Instance) Fault
plain_answer (Ok model) = Ok (plain_instances (instances_of model))
plain_answer (Err fault) = Err fault
