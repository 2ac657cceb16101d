-- What a stream wraps, and its marks.
use Rattle.std.specs.Prelude.{Bool}
use Rattle.p21_run.specs.declared.source.Stream.{Stream}

-- the reader or writer that it wraps
abbrev pub inner_of : {T : Type 0} → Stream T → T
inner_of s = s.inner

-- whether a fault, or a write of no byte of some, was ever answered
abbrev pub mark_of : {T : Type 0} → Stream T → Bool
mark_of s = s.marked

-- whether a read or a write ever failed
abbrev pub failure_of : {T : Type 0} → Stream T → Bool
failure_of s = s.failed
