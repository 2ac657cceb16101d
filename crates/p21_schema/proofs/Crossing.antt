-- A schema may be looked at by several threads at once. Each part is shown by itself: all of it is too much for one search.
use denote.Param.Send.{IsSync, sendable}
use Rattle.std.proofs.Crossing.{crosses}
use Rattle.p21_express.proofs.Crossing.{Declarations-sync}
use Rattle.p21_graph.specs.contracts.bits.Bits as Bits
use Rattle.p21_schema.proofs.resolved.ResolvedExpr.TheLaws.TheKnot as expr
use Rattle.p21_schema.specs.contracts.declarations.Declaration as Declaration
use Rattle.p21_schema.specs.contracts.names.Names as Names
use Rattle.p21_schema.specs.contracts.resolved.Resolved as Resolved
use Rattle.p21_schema.specs.contracts.rows.Rows as Rows
use Rattle.p21_schema.specs.contracts.schema.Schema as Schema
use Rattle.p21_schema.specs.contracts.schema.Schema.TheInside as Inside

-- as they lie in another type
Names-sync : IsSync Names.the_field.row
Names-sync = search (sendable, crosses) depth 80 fits 20000

Bits-sync : IsSync Bits.the_field.row
Bits-sync = search (sendable, crosses) depth 80 fits 20000

Rows-sync : IsSync Rows.the_field.row
Rows-sync = search (sendable, crosses) depth 80 fits 20000

-- as they lie in a list
Declaration-sync : IsSync Declaration.the_row
Declaration-sync = search (sendable, crosses, expr.crosses) depth 80 fits 20000

Resolved-sync : IsSync Resolved.the_row
Resolved-sync = search (sendable, crosses, expr.crosses) depth 80 fits 20000

Inside-sync : IsSync Inside.the_row
Inside-sync = search (sendable, crosses, Declarations-sync, Names-sync, Bits-sync, Rows-sync, Declaration-sync, Resolved-sync) depth 80 fits 20000

pub Schema-sync : IsSync Schema.the_row
Schema-sync = search (sendable, Inside-sync) depth 10
