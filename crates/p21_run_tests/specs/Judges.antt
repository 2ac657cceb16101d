-- What the judges of the tests may say of a piece.
use Rattle.std.specs.Prelude.{Some, None}
use Rattle.p21_express.specs.Schema.{Schema}
use Rattle.p21_tree.specs.Views.{plain_instance}
use Rattle.p21_check.specs.LocalFault.{IsLocalFault}
use Rattle.p21_reader.specs.declared.judged.Judged.{Judged}
use Rattle.p21_reader.specs.declared.judged.Judged.TheVariants as judged

-- an instance that is said to have no fault by itself has none
abbrev pub MissesNoFault : Schema → Judged → Type 0
MissesNoFault s (judged.Grammar f) = Unit {0}
MissesNoFault s (judged.Whole i None) = IsLocalFault s (plain_instance i) None
MissesNoFault s (judged.Whole i (Some kind)) = Unit {0}
