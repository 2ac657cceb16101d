use Rattle.std.proofs.Common.{map, take, ◌++◌}
use Rattle.p21_express.specs.WellFormed.{new_explicit, new_derived}
use Rattle.p21_express.specs.Plain.{plain_attribute, plain_derived}
use Rattle.p21_express.specs.Checks.{HasMet}
use Rattle.p21_express.proofs.checks.repeated.attributes.Given as goal

abbrev pub invariant-loop-i : goal.invariant-loop-i
invariant-loop-i l = HasMet l.fn.first.found l.first.found l.met.places (new_explicit (map plain_attribute (take l.i l.entity.attributes.items)))

abbrev pub invariant-loop-i-2 : goal.invariant-loop-i-2
invariant-loop-i-2 l = HasMet l.fn.first.found l.first.found l.met.places (new_explicit (map plain_attribute l.entity.attributes.items) ++ new_derived (map plain_derived (take l.i l.entity.derived.items)))
