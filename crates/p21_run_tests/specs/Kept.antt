-- What a taker of rows in memory was asked.
use Rattle.std.specs.Prelude.{List}
use Rattle.p21_rows.specs.Rows.{Step, begun, row, ended}
use Rattle.p21_run_tests.specs.declared.calls.Call.{Call}
use Rattle.p21_run_tests.specs.declared.calls.Call.TheVariants as call

-- a call as a step
abbrev pub step : Call → Step
step call.Begun = begun
step (call.Given table cells) = row (record { table = table; cells = cells.items })
step call.Ended = ended
