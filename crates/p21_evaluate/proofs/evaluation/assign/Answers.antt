use Rattle.std.proofs.lemmas.List.{map-set}
use Rattle.p21_values.specs.Plain.{plain}
use Rattle.p21_evaluate.proofs.evaluation.assign.Goals as goal

pub returns-then-slot-len : goal.returns-then-slot-len
returns-then-slot-len c = map-set plain c.args.slots.now.items c.args.slot c.args.value
