use Rattle.std.proofs.Common.{sym, ◌∙◌}
use Rattle.std.specs.Cmp.Lexicographic.{bytes_decides}
use Rattle.p21_counts.proofs.tally.stands_at.Goals as goal

pub returns-in-Some : goal.returns-in-Some
returns-in-Some c same = ((c.in-Some.known.now, c.in-Some.field-0-1.now), sym c.in-Some.ensures.entry, (bytes_decides c.in-Some.known.now.now c.args.keyword.now).0 (sym c.eq.ensures ∙ same))
