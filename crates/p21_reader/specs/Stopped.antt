-- The reading of a file that was not read further.
use Rattle.std.specs.Prelude.{◌≡◌, [], Err}
use Rattle.p21_reader.specs.declared.reading.Reading.{Reading}
use Rattle.p21_reader.specs.declared.stop.Stop.{Stop}
use Rattle.p21_reader.specs.declared.stop.Stop.TheVariants as stop

-- It is the fault at which reading stopped, and nothing was dealt.
abbrev pub IsStopped : Stop → Reading → Type 0
IsStopped (stop.Fault f) r = (r.answer ≡ Err f) × (r.receipts.items ≡ []) × (r.dealt.items ≡ []) × (r.returned.items ≡ [])
IsStopped stop.Memory r = ⊥
