use Rattle.std.proofs.Common.{sym, ◌∙◌}
use Rattle.p21_check.proofs.NameJudgeLemmas.{missing_first, missing_second, unasked}
use Rattle.p21_check.proofs.name_judge.missing.Goals as goal

pub returns-then-is_name : goal.returns-then-is_name
returns-then-is_name c s named e = missing_first s named c.args.first c.args.second c.args.name e (sym c.is_name.ensures ∙ c.if-is_name.true)

pub returns-then-is_name-2 : goal.returns-then-is_name-2
returns-then-is_name-2 c s named e = missing_second s named c.args.first c.args.second c.args.name e (sym c.is_name-2.ensures ∙ c.if-is_name-2.true)

pub returns : goal.returns
returns c s named e = (unasked s named c.args.first c.args.name (sym c.is_name.ensures ∙ c.if-is_name.false), unasked s named c.args.second c.args.name (sym c.is_name-2.ensures ∙ c.if-is_name-2.false))
