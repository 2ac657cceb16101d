-- The marks of a file that is opened at its first read.
use Rattle.std.specs.Prelude.{Bool}
use Rattle.p21_report.specs.declared.opened.Opened.{Opened}

-- whether a fault was ever answered
abbrev pub mark_of_opened : {R A B : Type 0} → Opened R A B → Bool
mark_of_opened s = s.marked

-- whether it ever failed
abbrev pub failure_of_opened : {R A B : Type 0} → Opened R A B → Bool
failure_of_opened s = s.failed
