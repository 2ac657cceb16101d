-- A model may be looked at by several threads at once.
use denote.Param.Send.{IsSync, sendable}
use denote.Ref.{NamedLft}
use Rattle.std.proofs.Crossing.{crosses}
use Rattle.p21_join.specs.contracts.model.Model as Model
use Rattle.p21_tree.proofs.Crossing.{RawInstance-sync}

pub Model-sync : (α : NamedLft) → IsSync (Model.the_row α)
Model-sync α = search (sendable, crosses, RawInstance-sync) depth 80 fits 20000
