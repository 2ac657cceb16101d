use Rattle.p21_tree.specs.declared.instances.RawInstance.{RawInstance}
use Rattle.p21_tree.specs.Views.{plain_instance}
use Rattle.p21_query.specs.Names.{AnyHasName}
use Rattle.p21_query.proofs.FirstLemmas.{Passed}
use Rattle.p21_query.proofs.references.next_naming.Given as goal

-- none that was passed has the name
abbrev pub invariant-loop-place : goal.invariant-loop-place
invariant-loop-place l = Passed (λ (i : RawInstance). ¬ (AnyHasName l.name (plain_instance i).records)) l.instances l.from l.place
