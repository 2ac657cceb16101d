use Rattle.std.proofs.Common.{List, map, take}
use Rattle.p21_express.specs.Again.{plain_again, HasOrigins, Origins}
use Rattle.p21_express.specs.Plain.{plain_schema}
use Rattle.p21_express.specs.WellFormed.{Origin}
use Rattle.p21_express.proofs.checks.redeclared.entity.Given as goal

abbrev pub invariant-loop-again : goal.invariant-loop-again
invariant-loop-again l = (os : List Origin) × Origins (plain_schema l.known.declarations.now) l.decl.name.items (map plain_again (take l.again-index l.again-items)) os × HasOrigins (plain_schema l.known.declarations.now) l.origins os
