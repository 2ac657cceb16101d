use Rattle.std.proofs.Common.{arith}
use Rattle.p21_printed.proofs.LineEndLemmas.{line_ends_of_two, line_ends_at_most}
use Rattle.p21_printed.proofs.place.line_ends_in.Goals as goal

pub overflow_add-count : goal.overflow_add-count
overflow_add-count c = grind (arith, line_ends_of_two, line_ends_at_most)

pub loop-block-preserved : goal.loop-block-preserved
loop-block-preserved c = grind (arith, line_ends_of_two)

pub returns-clause-count : goal.returns-clause-count
returns-clause-count c = grind (arith, line_ends_at_most)

pub returns-clause-bound : goal.returns-clause-bound
returns-clause-bound c = grind (arith, line_ends_at_most)
