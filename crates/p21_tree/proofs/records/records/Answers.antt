use Rattle.std.proofs.Common.{◌≡◌, ◌<◌, ◌++◌, ◌∷◌, [], map, sym, ap, ◌∙◌, arith}
use Rattle.p21_text.specs.Spelling.{symbol}
use Rattle.p21_text.specs.Tokens.{placed}
use Rattle.p21_tree.specs.Grammar.{IsKey}
use Rattle.p21_tree.specs.Keywords.{keyword_view}
use Rattle.p21_tree.specs.Views.{plain_record}
use Rattle.p21_tree.specs.Parts.{Arguments, Records, MoreRecords, SomeRecords}
use Rattle.p21_tree.specs.Progress.{Fails}
use Rattle.p21_tree.proofs.PartLemmas.{some_more}
use Rattle.p21_tree.proofs.RecordLemmas.{keyword_is, no_keyword, key_not_last, covers_record, covers_first, is_close, covers_more, covers_closed_records, faults_start, faults_go_on, fails_one, fails_no_more}
use Rattle.p21_tree.proofs.ProgressLemmas.{fails_first}
use Rattle.p21_tree.proofs.ExitLemmas.{exit_error}
use Rattle.p21_tree.proofs.records.records.Goals as goal
use Rattle.p21_tree.proofs.records.records.Goals.{In-Some}

is_key : (c : In-Some) → IsKey (symbol c.token-lexed.result.token) c.in-Some.keyword.now
is_key c = keyword_is (symbol c.token-lexed.result.token) c.in-Some.keyword.now (sym c.keyword.ensures ∙ ap keyword_view c.in-Some.is)

pub returns-in_err-first-clause-fault : goal.returns-in_err-first-clause-fault
returns-in_err-first-clause-fault c =
    exit_error c.from_residual.result (Fails Records 63 c.args.source c.args.at) (Fails SomeRecords 63 c.args.source c.args.at) c.in_err-first.field-0.0 c.from_residual.ensures.1
    (λ f h. fails_first Records MoreRecords 63 c.args.source c.args.at f (some_more 63) h) c.in_err-first.ensures.fault

pub records-init : goal.records-init
records-init c =
    let e : c.push.new.self.items ≡ c.in_ok-first.first ∷ [] = c.in_ok-push.ensures.items ∙ ap (λ z. z ++ c.in_ok-first.first ∷ []) c.new-records.ensures.items in
    record {
      behind = c.in_ok-first.ensures.behind;
      within = c.in_ok-first.ensures.within;
      some = omega (arith, c.in_ok-push.ensures.len);
      reads = covers_first c.args.source c.args.at c.in_ok-first.behind 63 c.in_ok-first.first c.push.new.self.items e c.in_ok-first.ensures.ok;
      faults = λ f h. faults_start c.args.source c.args.at c.in_ok-first.behind 63 (plain_record c.in_ok-first.first) f c.in_ok-first.ensures.ok h;
    }

pub returns-in-RParen-clause-ok : goal.returns-in-RParen-clause-ok
returns-in-RParen-clause-ok c =
    covers_closed_records c.args.source c.args.at c.records.place 63 (placed c.token-lexed.result) (map plain_record c.records.records.items) c.records.invariant.reads c.token-lexed.ensures.first (ap symbol c.in-RParen.is)

pub returns-in_default-keyword-clause-fault : goal.returns-in_default-keyword-clause-fault
returns-in_default-keyword-clause-fault c =
    let t = c.token-lexed.result.token in
    c.records.invariant.faults c.refused.result (fails_no_more c.args.source c.records.place 63 (placed c.token-lexed.result) c.refused.result c.token-lexed.ensures.first
    (no_keyword (symbol t) (sym c.keyword.ensures ∙ ap keyword_view c.in_default-keyword.is)) (λ e. c.in_default.not-RParen (is_close t e)) c.refused.ensures.place c.refused.ensures.kind)

pub returns-in_err-record-clause-fault : goal.returns-in_err-record-clause-fault
returns-in_err-record-clause-fault c =
    exit_error c.from_residual-in_err-record.result (Fails Arguments 62 c.args.source c.token-lexed.result.after) (Fails SomeRecords 63 c.args.source c.args.at) c.in_err-record.field-0.0 c.from_residual-in_err-record.ensures.1
    (λ f h. c.records.invariant.faults f (fails_one c.args.source c.records.place 62 (placed c.token-lexed.result) c.in-Some.keyword.now c.token-lexed.ensures.first (is_key (goal.at.returns-in_err-record-clause-fault c).In-Some) f h)) c.in_err-record.ensures.fault

pub records-smaller : goal.records-smaller
records-smaller c =
    let a : c.token-lexed.result.start < c.token-lexed.result.after = c.token-lexed.ensures.advances (key_not_last (is_key (goal.at.records-smaller c).In-Some)) in
    omega (arith, a, c.token-lexed.ensures.behind, c.in_ok-record.ensures.behind, c.in_ok-record.ensures.within)

pub records-preserved : goal.records-preserved
records-preserved c =
    let t = placed c.token-lexed.result in
    let h = covers_record c.args.source c.records.place 62 t c.in-Some.keyword.now c.token-lexed.ensures.first (is_key (goal.at.records-preserved c).In-Some) c.in_ok-record.after (plain_record c.in_ok-record.record) c.in_ok-record.ensures.ok in
    record {
      behind = omega (arith, c.records.invariant.behind, c.token-lexed.ensures.behind, c.token-lexed.ensures.ordered, c.in_ok-record.ensures.behind);
      within = c.in_ok-record.ensures.within;
      some = omega (arith, c.in_ok-push-2.ensures.len);
      reads = covers_more c.args.source c.args.at c.records.place c.in_ok-record.after 63 c.records.records.items c.push-in-records.new.self.items c.in_ok-record.record c.in_ok-push-2.ensures.items c.records.invariant.reads h;
      faults = λ f g. c.records.invariant.faults f (faults_go_on c.args.source c.records.place c.in_ok-record.after 63 (plain_record c.in_ok-record.record) f h g);
    }
