use Rattle.std.proofs.Common.{ℕ}
use Rattle.p21_text.specs.Spelling as token
use Rattle.p21_text.specs.Tokens.{placed}
use Rattle.p21_tree.specs.Parts.{Terminal, EndIsos, TailOn}
use Rattle.p21_tree.specs.Progress.{Fails}
use Rattle.p21_tree.proofs.PartLemmas.{some_end_isos}
use Rattle.p21_tree.proofs.ProgressLemmas.{fails_first}
use Rattle.p21_tree.proofs.DataLemmas.{tail_end_iso, tail_last, tail_end, tail_whole}
use Rattle.p21_tree.proofs.ExitLemmas.{exit_same}
use Rattle.p21_tree.proofs.data_section.behind_endsec.Goals as goal

pub returns-in_err-semi-clause-fault : goal.returns-in_err-semi-clause-fault
returns-in_err-semi-clause-fault c =
    let f = c.in_err-semi.field-0.0 in
    exit_same c.from_residual.result (λ g. (limit : ℕ) → Fails TailOn limit c.args.source c.args.at g) f c.from_residual.ensures.1
    (λ limit. fails_first (Terminal token.semi) EndIsos limit c.args.source c.args.at f (some_end_isos limit) (c.in_err-semi.ensures.fault limit))

pub returns-in_err-end_iso-clause-fault : goal.returns-in_err-end_iso-clause-fault
returns-in_err-end_iso-clause-fault c =
    let f = c.in_err-end_iso.field-0.0 in
    let t = placed c.in_ok-semi.semi in
    exit_same c.from_residual-in_err-end_iso.result (λ g. (limit : ℕ) → Fails TailOn limit c.args.source c.args.at g) f c.from_residual-in_err-end_iso.ensures.1
    (λ limit. tail_end_iso c.args.source c.args.at t t t t c.in_ok-semi.ensures.first c.in_ok-semi.ensures.terminal limit f (c.in_err-end_iso.ensures.fault limit))

pub returns-in_err-last-clause-fault : goal.returns-in_err-last-clause-fault
returns-in_err-last-clause-fault c =
    let f = c.in_err-last.field-0.0 in
    let t = placed c.in_ok-semi.semi in
    let u = placed c.in_ok-end_iso.end_iso in
    exit_same c.from_residual-in_err-last.result (λ g. (limit : ℕ) → Fails TailOn limit c.args.source c.args.at g) f c.from_residual-in_err-last.ensures.1
    (λ limit. tail_last c.args.source c.args.at t u t t c.in_ok-semi.ensures.first c.in_ok-semi.ensures.terminal limit f c.in_ok-end_iso.ensures.first c.in_ok-end_iso.ensures.terminal (c.in_err-last.ensures.fault limit))

pub returns-in_err-_end-clause-fault : goal.returns-in_err-_end-clause-fault
returns-in_err-_end-clause-fault c =
    let f = c.in_err-_end.field-0.0 in
    let t = placed c.in_ok-semi.semi in
    let u = placed c.in_ok-end_iso.end_iso in
    let v = placed c.in_ok-last.last in
    exit_same c.from_residual-in_err-_end.result (λ g. (limit : ℕ) → Fails TailOn limit c.args.source c.args.at g) f c.from_residual-in_err-_end.ensures.1
    (λ limit. tail_end c.args.source c.args.at t u v t c.in_ok-semi.ensures.first c.in_ok-semi.ensures.terminal limit f c.in_ok-end_iso.ensures.first c.in_ok-end_iso.ensures.terminal c.in_ok-last.ensures.first c.in_ok-last.ensures.terminal (c.in_err-_end.ensures.fault limit))

pub returns-clause-ok : goal.returns-clause-ok
returns-clause-ok c =
    tail_whole c.args.source c.args.at (placed c.in_ok-semi.semi) (placed c.in_ok-end_iso.end_iso) (placed c.in_ok-last.last) (placed c.in_ok-_end._end) c.in_ok-semi.ensures.first c.in_ok-semi.ensures.terminal c.in_ok-end_iso.ensures.first c.in_ok-end_iso.ensures.terminal c.in_ok-last.ensures.first c.in_ok-last.ensures.terminal c.in_ok-_end.ensures.first c.in_ok-_end.ensures.terminal
