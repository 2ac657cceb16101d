use Rattle.memchr.specs.Find.{Nowhere, Passes, is_byte3}
use Rattle.p21_cut.proofs.marks.last_mark.Given as goal

-- no mark stands between the place and here
abbrev pub invariant-loop-at : goal.invariant-loop-at
invariant-loop-at l = Nowhere (Passes (is_byte3 59 39 47) l.text) l.from l.at
