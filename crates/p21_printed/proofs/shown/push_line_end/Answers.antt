use Rattle.std.proofs.Common.{inl, refl}
use Rattle.p21_printed.proofs.PrintedLemmas.{pushed, on_ok}
use Rattle.p21_printed.proofs.shown.push_line_end.Goals as goal

pub returns : goal.returns
returns c = on_ok c.push.result (pushed _ _ _ _ c.requires (inl refl) c.push.ensures.bytes)
