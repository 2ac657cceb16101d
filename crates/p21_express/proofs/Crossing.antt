-- What a schema declares may be looked at by several threads at once.
use denote.Param.Send.{IsSync, sendable}
use Rattle.std.proofs.Crossing.{crosses}
use Rattle.p21_express.proofs.declarations.TypeExpr.TheLaws.TheKnot as expr
use Rattle.p21_express.specs.contracts.declarations.Declarations as Declarations

-- as it lies in another
pub Declarations-sync : IsSync Declarations.the_field.row
Declarations-sync = search (sendable, crosses, expr.crosses) depth 80 fits 20000
