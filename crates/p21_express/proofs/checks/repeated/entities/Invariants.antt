use Rattle.std.proofs.Common.{map, take}
use Rattle.std.specs.List.{AllByRecursion}
use Rattle.p21_express.specs.WellFormed.{AreDistinct, new_names}
use Rattle.p21_express.specs.Plain.{plain_entity}
use Rattle.p21_express.specs.Checks.{Finds}
use Rattle.p21_express.proofs.checks.repeated.entities.Given as goal

abbrev pub invariant-loop-i : goal.invariant-loop-i
invariant-loop-i l = Finds l.fn.first.found l.first.found (AllByRecursion (λ e. AreDistinct e.supertypes × AreDistinct (new_names e)) (map plain_entity (take l.i l.checked.declarations.now.entities.items)))
