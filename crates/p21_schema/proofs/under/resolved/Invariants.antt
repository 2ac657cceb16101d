use Rattle.std.proofs.Common.{map, take}
use Rattle.p21_express.specs.Plain.{plain_type}
use Rattle.p21_schema.specs.Under.{AreResolved}
use Rattle.p21_schema.proofs.under.resolved.Given as goal

abbrev pub invariant-loop-decl : goal.invariant-loop-decl
invariant-loop-decl l = AreResolved l.entities l.types l.found.items (take l.decl-index (map plain_type l.decls))
