use Rattle.std.proofs.Common.{ap}
use Rattle.p21_text.specs.Spelling.{symbol}
use Rattle.p21_text.specs.Tokens.{placed}
use Rattle.p21_tree.specs.Views.{plain_instance}
use Rattle.p21_tree.specs.Parts.{EqualsOn, Pieces}
use Rattle.p21_tree.specs.Progress.{Fails}
use Rattle.p21_tree.proofs.ExitLemmas.{exit_fault, exit_error}
use Rattle.p21_tree.proofs.DataLemmas.{is_name}
use Rattle.p21_tree.proofs.ReaderLemmas.{finishes_piece, fails_no_piece, fails_piece, fails_piece_end}
use Rattle.p21_tree.proofs.full_texts.single.Goals as goal

pub returns-in_default-clause-fault : goal.returns-in_default-clause-fault
returns-in_default-clause-fault c =
    fails_no_piece c.args.source (placed c.token-lexed.result) c.refused.result c.token-lexed.ensures.first (λ n e. c.in_default.not-Name n (is_name c.token-lexed.result.token n e)) c.refused.ensures.place c.refused.ensures.kind

pub returns-in_err-read-clause-fault : goal.returns-in_err-read-clause-fault
returns-in_err-read-clause-fault c =
    exit_error c.from_residual.result (Fails EqualsOn 64 c.args.source c.token-lexed.result.after) (Fails Pieces 64 c.args.source 0) c.in_err-read.field-0.0 c.from_residual.ensures.1
    (λ f h. fails_piece c.args.source c.in-Name.name (placed c.token-lexed.result) f c.token-lexed.ensures.first (ap symbol c.in-Name.is) h) c.in_err-read.ensures.fault

pub returns-in_err-_end-clause-fault : goal.returns-in_err-_end-clause-fault
returns-in_err-_end-clause-fault c =
    exit_fault c.from_residual-in_err-_end.result (Fails Pieces 64 c.args.source 0) c.in_err-_end.field-0.0 c.from_residual-in_err-_end.ensures.1
    (fails_piece_end c.args.source c.in-Name.name c.in_ok-read.after (placed c.token-lexed.result) (plain_instance c.in_ok-read.read) c.in_err-_end.field-0.0 c.token-lexed.ensures.first (ap symbol c.in-Name.is) c.in_ok-read.ensures.ok (c.in_err-_end.ensures.fault 64))

pub returns-clause-ok : goal.returns-clause-ok
returns-clause-ok c =
    finishes_piece c.args.source c.in-Name.name c.in_ok-read.after (placed c.token-lexed.result) (placed c.in_ok-_end._end) (plain_instance c.in_ok-read.read) c.token-lexed.ensures.first (ap symbol c.in-Name.is) c.in_ok-read.ensures.ok c.in_ok-_end.ensures.first c.in_ok-_end.ensures.terminal
