-- What is watched as it is read.
use Rattle.p21_report.specs.declared.watched.Watched.{Watched}

-- the source
abbrev pub source_of : {S C P : Type 0} → Watched S C P → S
source_of w = w.source
