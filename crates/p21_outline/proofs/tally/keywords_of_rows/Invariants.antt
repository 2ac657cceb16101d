use Rattle.std.proofs.Common.{map, take}
use Rattle.p21_counts.specs.Counts.{keywords_of}
use Rattle.p21_counts.specs.Tally.{CountsOf}
use Rattle.p21_join.specs.Model.{plain_instances}
use Rattle.p21_outline.specs.Rows.{row_instance}
use Rattle.p21_outline.proofs.tally.keywords_of_rows.Given as goal

-- the instances of the rows before this one are counted
abbrev pub invariant-loop-row : goal.invariant-loop-row
invariant-loop-row l = CountsOf l.keywords (keywords_of (plain_instances (map (row_instance l.wholes) (take l.row-index l.rows))))
