-- An instance may be looked at by several threads at once.
use denote.Param.Send.{IsSync, sendable}
use denote.Ref.{NamedLft}
use Rattle.std.proofs.Crossing.{crosses}
use Rattle.p21_tree.proofs.params.Param.TheLaws.TheKnot as param
use Rattle.p21_tree.specs.contracts.instances.RawInstance as RawInstance

pub RawInstance-sync : (α : NamedLft) → IsSync (RawInstance.the_row α)
RawInstance-sync α = search (sendable, crosses, param.crosses) depth 80 fits 20000
