-- What was gathered of the pieces of a file.
use Rattle.std.specs.Prelude.{◌≡◌, List, Option, Some, None}
use Rattle.p21_schema.specs.declared.ids.EntityId.{EntityId}
use Rattle.p21_tree.specs.declared.faults.Fault.{Fault}
use Rattle.p21_tree.specs.Sentence.{Instance}
use Rattle.p21_join.specs.Joined.{joined}
use Rattle.p21_join.specs.Model.{plain_instances}
use Rattle.p21_reader.specs.Judged.{entities_of, values_of}
use Rattle.p21_reader.specs.Values.{HaveInstances, IsFirstValueFault}
use Rattle.p21_reader.specs.declared.judged.Judgement.{Judgement}
use Rattle.p21_reader.specs.declared.first_fault.Gathering.{Gathering}

-- the first fault that was gathered
abbrev pub fault_of : Gathering → Option Fault
fault_of g = g.fault

-- The judged pieces have no fault, and these are their instances, and the entity of each; or this is their first fault.
abbrev pub Gathers : List Judgement → List Instance → List (Option EntityId) → Option Fault → Type 0
Gathers js is entities None = HaveInstances (values_of js) is × (entities ≡ entities_of js)
Gathers js is entities (Some f) = IsFirstValueFault (values_of js) f

-- this was gathered of these judged pieces, in their order
abbrev pub IsGathered : Gathering → List Judgement → Type 0
IsGathered g js = Gathers js (plain_instances (joined g.joiner)) g.entities.items (fault_of g)
