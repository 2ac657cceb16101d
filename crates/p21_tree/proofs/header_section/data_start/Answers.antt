use Rattle.p21_text.specs.Spelling.{symbol}
use Rattle.p21_text.specs.Spelling as token
use Rattle.p21_text.specs.Tokens.{placed}
use Rattle.p21_tree.specs.Parts.{Terminal, DataOn, EndsecOn}
use Rattle.p21_tree.specs.Progress.{Fails}
use Rattle.p21_tree.proofs.PartLemmas.{some_data_on}
use Rattle.p21_tree.proofs.ProgressLemmas.{fails_first}
use Rattle.p21_tree.proofs.ExitLemmas.{exit_same}
use Rattle.p21_tree.proofs.HeaderLemmas.{start_data, start_last, covers_start}
use Rattle.p21_tree.proofs.header_section.data_start.Goals as goal

pub returns-in_err-semi-clause-fault : goal.returns-in_err-semi-clause-fault
returns-in_err-semi-clause-fault c =
    let f = c.in_err-semi.field-0.0 in
    exit_same c.from_residual.result (Fails EndsecOn 64 c.args.source c.args.at) f c.from_residual.ensures.1
    (fails_first (Terminal token.semi) DataOn 64 c.args.source c.args.at f (some_data_on 64) (c.in_err-semi.ensures.fault 64))

pub returns-in_err-data-clause-fault : goal.returns-in_err-data-clause-fault
returns-in_err-data-clause-fault c =
    let f = c.in_err-data.field-0.0 in
    let t = placed c.in_ok-semi.semi in
    exit_same c.from_residual-in_err-data.result (Fails EndsecOn 64 c.args.source c.args.at) f c.from_residual-in_err-data.ensures.1
    (start_data c.args.source c.args.at t t t c.in_ok-semi.ensures.first c.in_ok-semi.ensures.terminal f (c.in_err-data.ensures.fault 64))

pub returns-in_err-last-clause-fault : goal.returns-in_err-last-clause-fault
returns-in_err-last-clause-fault c =
    let f = c.in_err-last.field-0.0 in
    let t = placed c.in_ok-semi.semi in
    let u = placed c.in_ok-data.«data» in
    exit_same c.from_residual-in_err-last.result (Fails EndsecOn 64 c.args.source c.args.at) f c.from_residual-in_err-last.ensures.1
    (start_last c.args.source c.args.at t u t c.in_ok-semi.ensures.first c.in_ok-semi.ensures.terminal f c.in_ok-data.ensures.first c.in_ok-data.ensures.terminal (c.in_err-last.ensures.fault 64))

pub returns-clause-ok : goal.returns-clause-ok
returns-clause-ok c =
    covers_start c.args.source c.args.at (placed c.in_ok-semi.semi) (placed c.in_ok-data.«data») (placed c.in_ok-last.last) c.in_ok-semi.ensures.first c.in_ok-semi.ensures.terminal c.in_ok-data.ensures.first c.in_ok-data.ensures.terminal c.in_ok-last.ensures.first c.in_ok-last.ensures.terminal
