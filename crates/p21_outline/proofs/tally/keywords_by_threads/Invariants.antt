use Rattle.std.proofs.Common.{◌*◌, take}
use Rattle.p21_counts.specs.Counts.{keywords_of}
use Rattle.p21_counts.specs.Tally.{CountsOf}
use Rattle.p21_join.specs.Model.{plain_instances}
use Rattle.p21_outline.specs.Outline.{outlined_instances}
use Rattle.p21_outline.proofs.tally.keywords_by_threads.Given as goal

-- the instances of the parts before this one are counted
abbrev pub invariant-loop-part : goal.invariant-loop-part
invariant-loop-part g l = CountsOf l.keywords (keywords_of (plain_instances (take (l.part-index * l.size) (outlined_instances l.counted.outline.now))))
