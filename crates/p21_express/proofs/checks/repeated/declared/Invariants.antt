use Rattle.std.proofs.Common.{map, take, ◌++◌}
use Rattle.p21_express.specs.Plain.{plain_entity, plain_type}
use Rattle.p21_express.specs.Checks.{HasMet}
use Rattle.p21_express.proofs.checks.repeated.declared.Given as goal

abbrev pub invariant-loop-i : goal.invariant-loop-i
invariant-loop-i l = HasMet l.fn.first.found l.first.found l.met.places (map (λ e. e.name) (map plain_entity (take l.i l.checked.declarations.now.entities.items)))

abbrev pub invariant-loop-i-2 : goal.invariant-loop-i-2
invariant-loop-i-2 l = HasMet l.fn.first.found l.first.found l.met.places (map (λ e. e.name) (map plain_entity l.checked.declarations.now.entities.items) ++ map (λ t. t.name) (map plain_type (take l.i l.checked.declarations.now.types.items)))
