use Rattle.p21_run.specs.Run.{IsRefusalTold}
use Rattle.p21_run.proofs.RunLemmas.{told_of}
use Rattle.p21_run.proofs.both_inputs.tell_refusal.Goals as goal

pub returns-in-Ok : goal.returns-in-Ok
returns-in-Ok g c = IsRefusalTold.line c.in-Ok.line.items c.in-Ok.ensures (told_of c.as_slice.ensures.value c.tell.ensures)
