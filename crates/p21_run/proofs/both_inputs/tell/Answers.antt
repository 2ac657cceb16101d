use Rattle.std.proofs.Common.{refl}
use Rattle.p21_run.specs.Run.{IsTold}
use Rattle.p21_run.proofs.both_inputs.tell.Goals as goal

pub returns-in-Err : goal.returns-in-Err
returns-in-Err g c = IsTold.front c.in-Err.ensures.front.0 refl c.in-Err.ensures.front.1 c.in-Err.ensures.cause
