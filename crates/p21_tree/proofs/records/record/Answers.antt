use Rattle.std.proofs.Common.{sym, ap, ◌∙◌}
use Rattle.p21_text.specs.Spelling.{symbol}
use Rattle.p21_text.specs.Tokens.{placed}
use Rattle.p21_tree.specs.Grammar.{IsKey}
use Rattle.p21_tree.specs.Keywords.{keyword_view}
use Rattle.p21_tree.specs.Views.{plain_record}
use Rattle.p21_tree.specs.Parts.{Arguments, Records}
use Rattle.p21_tree.specs.Progress.{Fails}
use Rattle.p21_tree.proofs.RecordLemmas.{keyword_is, no_keyword, covers_record, fails_record, fails_no_record}
use Rattle.p21_tree.proofs.ExitLemmas.{result_ok, result_fault}
use Rattle.p21_tree.proofs.records.record.Goals as goal
use Rattle.p21_tree.proofs.records.record.Goals.{In-Some}

is_key : (c : In-Some) → IsKey (symbol c.token-lexed.result.token) c.in-Some.keyword.now
is_key c = keyword_is (symbol c.token-lexed.result.token) c.in-Some.keyword.now (sym c.keyword.ensures ∙ ap keyword_view c.in-Some.is)

pub returns-in_default-clause-fault : goal.returns-in_default-clause-fault
returns-in_default-clause-fault c =
    fails_no_record c.args.source c.args.at 62 (placed c.token-lexed.result) c.refused.result c.token-lexed.ensures.first
    (no_keyword (symbol c.token-lexed.result.token) (sym c.keyword.ensures ∙ ap keyword_view c.in_default.is)) c.refused.ensures.place c.refused.ensures.kind

pub returns-clause-ok : goal.returns-clause-ok
returns-clause-ok c =
    result_ok c.keyed.result _ _ (λ r h. covers_record c.args.source c.args.at 62 (placed c.token-lexed.result) c.in-Some.keyword.now c.token-lexed.ensures.first (is_key (goal.at.returns-clause-ok c).In-Some) r.1 (plain_record r.0) h) c.keyed.ensures.ok

pub returns-clause-fault : goal.returns-clause-fault
returns-clause-fault c =
    result_fault c.keyed.result (Fails Arguments 62 c.args.source c.token-lexed.result.after) (Fails Records 63 c.args.source c.args.at)
    (fails_record c.args.source c.args.at 62 (placed c.token-lexed.result) c.in-Some.keyword.now c.token-lexed.ensures.first (is_key (goal.at.returns-clause-fault c).In-Some)) c.keyed.ensures.fault
