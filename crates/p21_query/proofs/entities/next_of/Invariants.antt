use Rattle.p21_tree.specs.declared.instances.RawInstance.{RawInstance}
use Rattle.p21_tree.specs.Views.{plain_instance}
use Rattle.p21_schema.specs.Place.{entity_name}
use Rattle.p21_query.specs.Wanted.{IsWanted}
use Rattle.p21_query.proofs.FirstLemmas.{Passed}
use Rattle.p21_query.proofs.entities.next_of.Given as goal

-- none that was passed is wanted
abbrev pub invariant-loop-place : goal.invariant-loop-place
invariant-loop-place l = Passed (λ (i : RawInstance). ¬ (IsWanted l.schema l.subtypes (entity_name l.schema l.entity) (plain_instance i))) l.instances l.from l.place
