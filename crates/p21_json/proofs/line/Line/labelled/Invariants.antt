use Rattle.std.proofs.Common.{drop}
use Rattle.p21_tree.specs.Plain.{plain_all}
use Rattle.p21_json.specs.Header.{labelled_parts}
use Rattle.p21_json.proofs.HeaderLemmas.{words}
use Rattle.p21_json.proofs.WrittenLemmas.{Underway}
use Rattle.p21_json.proofs.line.Line.labelled.Given as goal

abbrev pub invariant-loop-position : goal.invariant-loop-position
invariant-loop-position l = Underway l.terms l.initial.self.out l.self.out (labelled_parts (words l.keys) (plain_all l.params)) (labelled_parts (words (drop l.position l.keys)) (plain_all (drop l.position l.params)))
