-- What a worker says of a list of pieces may go to another thread. Each part is shown by itself, as it lies in another type: all of it is too
-- much for one search.
use denote.Param.Send.{IsSend, sendable}
use denote.RattleType.{RattleType}
use denote.Ref.{NamedLft}
use Rattle.std.proofs.Crossing.{crosses}
use Rattle.p21_tree.proofs.params.Param.TheLaws.TheKnot as param
use Rattle.p21_tree.specs.contracts.instances.RawInstance as RawInstance
use Rattle.p21_outline.specs.contracts.columns.Columns as Columns
use Rattle.p21_outline.specs.contracts.columns.Row as Row
use Rattle.p21_outline.specs.contracts.let_go.LetGo as LetGo
use Rattle.p21_outline.specs.contracts.outline_list.OutlineList as OutlineList
use Rattle.p21_checker.specs.contracts.checked.Checked as Checked
use Rattle.p21_checker.specs.contracts.checked.CheckedInstance as CheckedInstance
use Rattle.p21_checker.specs.contracts.checked_list.CheckedList as CheckedList

RawInstance-send : (α : NamedLft) → IsSend (RawInstance.the_field α).row
RawInstance-send α = search (sendable, crosses, param.crosses) depth 80 fits 20000

-- what was let go owns nothing
LetGo-send : (Y : RattleType) → IsSend (LetGo.the_row Y)
LetGo-send Y = record { owned = λ d vs. ((λ vss. (tt, ((λ uss. (tt, tt)), tt))), tt); leaving = λ k f vs. tt }

Row-send : (α : NamedLft) → IsSend (Row.the_field α).row
Row-send α = search (sendable, crosses, LetGo-send) depth 80 fits 20000

Columns-send : (α : NamedLft) → IsSend (Columns.the_field α).row
Columns-send α = search (sendable, crosses, Row-send, RawInstance-send) depth 80 fits 20000

OutlineList-send : (α : NamedLft) → IsSend (OutlineList.the_field α).row
OutlineList-send α = search (sendable, crosses, Columns-send) depth 80 fits 20000

CheckedInstance-send : (α : NamedLft) → IsSend (CheckedInstance.the_field α).row
CheckedInstance-send α = search (sendable, crosses) depth 80 fits 20000

Checked-send : (α : NamedLft) → IsSend (Checked.the_field α).row
Checked-send α = search (sendable, crosses, CheckedInstance-send) depth 80 fits 20000

pub CheckedList-send : (α : NamedLft) → IsSend (CheckedList.the_row α)
CheckedList-send α = search (sendable, crosses, OutlineList-send, Checked-send) depth 80 fits 20000
