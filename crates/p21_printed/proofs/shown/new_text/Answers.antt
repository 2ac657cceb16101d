use Rattle.p21_printed.specs.Printed.{nothing}
use Rattle.p21_printed.proofs.shown.new_text.Goals as goal

pub returns : goal.returns
returns c = nothing c.new.ensures.bytes
