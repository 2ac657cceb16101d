use Rattle.std.proofs.Common.{map, true, sym, ap, subst, ◌∙◌}
use Rattle.p21_text.specs.Spelling.{symbol}
use Rattle.p21_text.specs.Tokens.{placed}
use Rattle.p21_tree.specs.Grammar.{IsKey}
use Rattle.p21_tree.specs.Keywords.{keyword_view}
use Rattle.p21_tree.specs.Views.{plain_record}
use Rattle.p21_tree.specs.Parts.{Arguments, SomeRecords, Form, IsFormOf}
use Rattle.p21_tree.specs.Progress.{Covers, Fails}
use Rattle.p21_tree.proofs.RecordLemmas.{keyword_is, no_keyword, is_open, covers_record, covers_simple, covers_complex, fails_simple, fails_complex, fails_no_form}
use Rattle.p21_tree.proofs.ExitLemmas.{exit_error}
use Rattle.p21_tree.proofs.records.form.Goals as goal
use Rattle.p21_tree.proofs.records.form.Goals.{In-Some}

is_key : (c : In-Some) → IsKey (symbol c.token-lexed.result.token) c.in-Some.keyword.now
is_key c = keyword_is (symbol c.token-lexed.result.token) c.in-Some.keyword.now (sym c.keyword.ensures ∙ ap keyword_view c.in-Some.is)

pub returns-in_err-records-clause-fault : goal.returns-in_err-records-clause-fault
returns-in_err-records-clause-fault c =
    exit_error c.from_residual.result (Fails SomeRecords 63 c.args.source c.token-lexed.result.after) (Fails Form 64 c.args.source c.args.at) c.in_err-records.field-0.0 c.from_residual.ensures.1
    (λ f h. fails_complex c.args.source c.args.at 63 (placed c.token-lexed.result) f c.token-lexed.ensures.first (ap symbol c.in-LParen.is) h) c.in_err-records.ensures.fault

pub returns-in-LParen-clause-ok : goal.returns-in-LParen-clause-ok
returns-in-LParen-clause-ok c =
    subst (λ rs. Covers (λ ts. IsFormOf 64 ts true (map plain_record rs)) c.args.source c.args.at c.in_ok-records.after) (sym c.from_vec.ensures)
    (covers_complex c.args.source c.args.at c.in_ok-records.after 63 (placed c.token-lexed.result) (map plain_record c.in_ok-records.records.items) c.token-lexed.ensures.first (ap symbol c.in-LParen.is) c.in_ok-records.ensures.ok)

pub returns-in_default-keyword-clause-fault : goal.returns-in_default-keyword-clause-fault
returns-in_default-keyword-clause-fault c =
    let t = c.token-lexed.result.token in
    fails_no_form c.args.source c.args.at 63 (placed c.token-lexed.result) c.refused.result c.token-lexed.ensures.first
    (no_keyword (symbol t) (sym c.keyword.ensures ∙ ap keyword_view c.in_default-keyword.is)) (λ e. c.in_default.not-LParen (is_open t e)) c.refused.ensures.place c.refused.ensures.kind

pub returns-in_err-record-clause-fault : goal.returns-in_err-record-clause-fault
returns-in_err-record-clause-fault c =
    exit_error c.from_residual-in_err-record.result (Fails Arguments 63 c.args.source c.token-lexed.result.after) (Fails Form 64 c.args.source c.args.at) c.in_err-record.field-0.0 c.from_residual-in_err-record.ensures.1
    (λ f h. fails_simple c.args.source c.args.at 63 (placed c.token-lexed.result) c.in-Some.keyword.now c.token-lexed.ensures.first (is_key (goal.at.returns-in_err-record-clause-fault c).In-Some) f h) c.in_err-record.ensures.fault

pub returns-clause-ok : goal.returns-clause-ok
returns-clause-ok c =
    covers_simple c.args.source c.args.at c.in_ok-record.after 64 c.in_ok-record.record c.lone.result c.lone.ensures
    (covers_record c.args.source c.args.at 63 (placed c.token-lexed.result) c.in-Some.keyword.now c.token-lexed.ensures.first (is_key (goal.at.returns-clause-ok c).In-Some) c.in_ok-record.after (plain_record c.in_ok-record.record) c.in_ok-record.ensures.ok)
