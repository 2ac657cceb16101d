use Rattle.std.proofs.Common.{◌≡◌, ◌++◌}
use Rattle.p21_counts.specs.Tally.{entry_lines}
use Rattle.p21_counts.proofs.count_text.push_keywords.Given as goal

abbrev pub invariant-loop-keyword : goal.invariant-loop-keyword
invariant-loop-keyword l = l.text.items ++ entry_lines l.keyword-iterator ≡ l.initial.text.items ++ entry_lines l.keywords.entries
