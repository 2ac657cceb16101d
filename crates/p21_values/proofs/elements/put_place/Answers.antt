use Rattle.std.proofs.Common.{arith}
use Rattle.p21_values.specs.Plain.{plain}
use Rattle.p21_values.proofs.AggregateLemmas.{element_set}
use Rattle.p21_values.proofs.elements.put_place.Goals as goal

pub returns-then-place-len : goal.returns-then-place-len
returns-then-place-len c =
    element_set c.args.grows c.args.found.now.items c.args.place c.in_ok-element.element (plain c.args.element.now) (omega (arith, c.args.found.now.ok.0)) c.in_ok-element.ensures
