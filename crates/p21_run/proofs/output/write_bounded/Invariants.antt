use Rattle.std.proofs.Common.{◌≡◌, ◌+◌, ◌≤◌, false, length}
use Rattle.p21_run.proofs.OutputLemmas.{IsWritten}
use Rattle.p21_run.proofs.output.write_bounded.Given as goal

-- all but the rest was taken, each call that set no mark took a byte, and no call failed
abbrev pub invariant-loop : goal.invariant-loop
invariant-loop g l = record {
  written : IsWritten (g.S.Sink.taken l.initial.sink) (g.S.Sink.taken l.sink) l.text l.rest;
  counted : g.S.Sink.marked l.sink ≡ false → l.counter + length l.rest ≤ length l.text;
  unfailed : g.S.Sink.failed l.sink ≡ g.S.Sink.failed l.initial.sink;
}
