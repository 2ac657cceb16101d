use Rattle.std.proofs.Common.{inr}
use Rattle.p21_printed.proofs.PrintedLemmas.{pushed, on_ok}
use Rattle.p21_printed.proofs.shown.push_char.Goals as goal

pub returns : goal.returns
returns c = on_ok c.push.result (pushed _ _ _ _ c.requires.printed (inr c.requires.plain) c.push.ensures.bytes)
