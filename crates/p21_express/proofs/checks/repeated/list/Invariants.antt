use Rattle.std.proofs.Common.{take}
use Rattle.p21_express.specs.Naming.{texts}
use Rattle.p21_express.specs.Checks.{HasMet}
use Rattle.p21_express.proofs.checks.repeated.list.Given as goal

abbrev pub invariant-loop-i : goal.invariant-loop-i
invariant-loop-i l = HasMet l.fn.first.found l.first.found l.met.places (texts (take l.i l.names))
