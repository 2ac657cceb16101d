use Rattle.p21_printed.specs.Painted.{red, blue, plain}
use Rattle.p21_printed.proofs.paint.Style.sequence.Goals as goal

pub returns-in-Fault : goal.returns-in-Fault
returns-in-Fault c = red

pub returns-in-Margin : goal.returns-in-Margin
returns-in-Margin c = blue

pub returns-in-Plain : goal.returns-in-Plain
returns-in-Plain c = plain
