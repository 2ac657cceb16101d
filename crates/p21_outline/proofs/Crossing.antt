-- An outline may be looked at by several threads at once. What was let go owns nothing, so it may go to any thread, and any thread may share it.
use denote.Param.Send.{IsSend, IsSync, part_keyless, sendable}
use denote.RattleType.{RattleType}
use denote.Ref.{NamedLft}
use Rattle.std.proofs.Crossing.{crosses}
use Rattle.p21_outline.specs.contracts.let_go.LetGo as LetGo
use Rattle.p21_outline.specs.contracts.outline.Outline as Outline
use Rattle.p21_tree.proofs.Crossing.{RawInstance-sync}

pub LetGo-send : (Y : RattleType) → IsSend (LetGo.the_row Y)
LetGo-send Y = record { owned = λ d vs. ((λ vss. (tt, ((λ uss. (tt, tt)), tt))), tt); leaving = λ k f vs. tt }

pub LetGo-sync : (Y : RattleType) → IsSync (LetGo.the_row Y)
LetGo-sync Y = record { shared = λ d b o κ q. part_keyless (LetGo.the_row Y) (LetGo-send Y) q d b o }

pub Outline-sync : (α : NamedLft) → IsSync (Outline.the_row α)
Outline-sync α = search (sendable, crosses, RawInstance-sync, LetGo-sync) depth 80 fits 20000
