use Rattle.std.proofs.Common.{◌≡◌, ◌≤◌, false, vec_len}
use Rattle.std.specs.Io.KnownBytes.{Consumes}
use Rattle.p21_run.proofs.input.read_bounded.Given as goal

-- what was read so far, with what is left, is all that there was; each call that was no fault gave a byte; no call failed
abbrev pub invariant-loop : goal.invariant-loop
invariant-loop g l = record {
  chunk : vec_len l.chunk ≡ 65536;
  bounded : vec_len l.bytes ≤ l.bounds.bytes;
  read : Consumes (g.S.Source.remaining l.initial.source) (g.S.Source.remaining l.source) l.bytes.items;
  unfailed : g.S.Source.failed l.source ≡ g.S.Source.failed l.initial.source;
  counted : g.S.Source.marked l.source ≡ false → l.counter ≤ vec_len l.bytes;
}
