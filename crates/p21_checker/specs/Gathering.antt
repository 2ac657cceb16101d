-- What was gathered of the pieces of a file.
use Rattle.std.specs.Prelude.{◌≢◌, ◌⊎◌, Bool, true, false, List, [], ◌∷◌, All, None}
use Rattle.p21_express.specs.Schema.{Schema}
use Rattle.p21_tree.specs.declared.faults.Fault.{Fault}
use Rattle.p21_tree.specs.Sentence.{Instance}
use Rattle.p21_join.specs.declared.instance_names.InstanceNames.{InstanceNames}
use Rattle.p21_join.specs.Model.{plain_instances}
use Rattle.p21_outline.specs.Outline.{AreOutlined, outlined_instances}
use Rattle.p21_outline.specs.declared.outline_list.OutlineList.{OutlineList}
use Rattle.p21_outline.specs.OutlineList.{AreListed}
use Rattle.p21_reader.specs.EveryFault.{EndWithGrammar, HaveFaults}
use Rattle.p21_reader.specs.Values.{Value, Whole, HaveInstances}
use Rattle.p21_checker.specs.Checked.{outlines_of, values_of}
use Rattle.p21_checker.specs.declared.checked_list.CheckedList.{CheckedList}
use Rattle.p21_checker.specs.declared.gathering.Gathering.{Gathering}

-- The values have no fault, and these are their instances; or these are their faults, of which the last is one of the grammar, or none
-- is.
abbrev pub GathersFaults : List Value → List Instance → InstanceNames → List Fault → Bool → Type 0
GathersFaults vs is names found true = EndWithGrammar vs found
GathersFaults vs is names [] false = HaveInstances vs is
GathersFaults vs is names (f ∷ found) false = HaveFaults vs names (f ∷ found)

-- where there is no fault, the outlines are those of the instances, for each schema for which those in these lists were
abbrev pub FitsWith : List Fault → Gathering → List OutlineList → Type 0
FitsWith [] g ls = (s : Schema) → All (AreListed s) ls → AreOutlined s g.outline
FitsWith (f ∷ found) g ls = Unit {0}

-- this was gathered of pieces of which these values are meant, and of these lists of outlines
pub record HasGathered (g : Gathering) (vs : List Value) (ls : List OutlineList) : Type 0 where
  pub faults : GathersFaults vs (plain_instances (outlined_instances g.outline)) g.names g.faults.items g.ended
  pub fits : FitsWith g.faults.items g ls

-- this was gathered of these lists of pieces, in their order
abbrev pub IsGathered : Gathering → List CheckedList → Type 0
IsGathered g cs = HasGathered g (values_of cs) (outlines_of cs)

-- where nothing has a fault so far, this instance has one by itself
abbrev pub HasFaultBehind : Gathering → Whole → Type 0
HasFaultBehind g w = (g.faults.items ≢ []) ⊎ (w.own ≢ None)
