-- What was gathered of the pieces of a file, with all faults.
use Rattle.std.specs.Prelude.{◌≡◌, Bool, true, false, List, [], ◌∷◌, ◌++◌, map, Option}
use Rattle.p21_schema.specs.declared.ids.EntityId.{EntityId}
use Rattle.p21_tree.specs.declared.faults.Fault.{Fault}
use Rattle.p21_tree.specs.Sentence.{Instance}
use Rattle.p21_join.specs.declared.instance_names.InstanceNames.{InstanceNames}
use Rattle.p21_join.specs.InstanceNames.{IsAmong}
use Rattle.p21_join.specs.Joined.{joined}
use Rattle.p21_join.specs.Model.{plain_instances}
use Rattle.p21_reader.specs.Judged.{entities_of, values_of}
use Rattle.p21_reader.specs.Values.{Value, Whole, grammar, whole, instances_in, HaveInstances}
use Rattle.p21_reader.specs.AllByValues.{AreCarriedFaults}
use Rattle.p21_reader.specs.Names.{AreNames}
use Rattle.p21_reader.specs.declared.judged.Judgement.{Judgement}
use Rattle.p21_reader.specs.declared.every_fault.FaultGathering.{FaultGathering}

-- The values are whole up to the first grammar fault, and the last of these faults is that.
pub record EndWithGrammar (vs : List Value) (found : List Fault) : Type 0 where
  pub wholes : List Whole
  pub fault : Fault
  pub later : List Value
  pub earlier : List Fault
  pub are : vs ≡ map whole wholes ++ grammar fault ∷ later
  pub faults : AreCarriedFaults wholes earlier
  pub found_are : found ≡ earlier ++ fault ∷ []

-- The values are whole, and these are their faults and the names of their instances.
pub record HaveFaults (vs : List Value) (names : InstanceNames) (found : List Fault) : Type 0 where
  pub wholes : List Whole
  pub are : vs ≡ map whole wholes
  pub faults : AreCarriedFaults wholes found
  pub names_are : AreNames (IsAmong names) (instances_in wholes)

-- The judged pieces have no fault, and these are their instances, and the entity of each; or these are their faults, of which the
-- last is one of the grammar, or none is.
abbrev pub GathersFaults : List Judgement → List Instance → List (Option EntityId) → InstanceNames → List Fault → Bool → Type 0
GathersFaults js is entities names found true = EndWithGrammar (values_of js) found
GathersFaults js is entities names [] false = HaveInstances (values_of js) is × (entities ≡ entities_of js)
GathersFaults js is entities names (f ∷ found) false = HaveFaults (values_of js) names (f ∷ found)

-- this was gathered of these judged pieces, in their order
abbrev pub AreFaultsGathered : FaultGathering → List Judgement → Type 0
AreFaultsGathered g js = GathersFaults js (plain_instances (joined g.joiner)) g.entities.items g.names g.faults.items g.ended
