use Rattle.p21_text.specs.Spelling.{symbol}
use Rattle.p21_text.specs.Spelling as token
use Rattle.p21_text.specs.Tokens.{placed}
use Rattle.p21_tree.specs.Parts.{Terminal, IsoOn, Prefaces}
use Rattle.p21_tree.specs.Progress.{Fails}
use Rattle.p21_tree.proofs.PartLemmas.{some_iso_on}
use Rattle.p21_tree.proofs.ProgressLemmas.{fails_first}
use Rattle.p21_tree.proofs.ExitLemmas.{exit_same}
use Rattle.p21_tree.proofs.HeaderLemmas.{opening_semi, opening_header, opening_last, covers_opening}
use Rattle.p21_tree.proofs.header_section.opening.Goals as goal

pub returns-in_err-iso-clause-fault : goal.returns-in_err-iso-clause-fault
returns-in_err-iso-clause-fault c =
    let f = c.in_err-iso.field-0.0 in
    exit_same c.from_residual.result (Fails Prefaces 64 c.args.source 0) f c.from_residual.ensures.1
    (fails_first (Terminal token.iso) IsoOn 64 c.args.source 0 f (some_iso_on 64) (c.in_err-iso.ensures.fault 64))

pub returns-in_err-semi-clause-fault : goal.returns-in_err-semi-clause-fault
returns-in_err-semi-clause-fault c =
    let f = c.in_err-semi.field-0.0 in
    let t = placed c.in_ok-iso.iso in
    exit_same c.from_residual-in_err-semi.result (Fails Prefaces 64 c.args.source 0) f c.from_residual-in_err-semi.ensures.1
    (opening_semi c.args.source t t t t c.in_ok-iso.ensures.first c.in_ok-iso.ensures.terminal f (c.in_err-semi.ensures.fault 64))

pub returns-in_err-header-clause-fault : goal.returns-in_err-header-clause-fault
returns-in_err-header-clause-fault c =
    let f = c.in_err-header.field-0.0 in
    let t = placed c.in_ok-iso.iso in
    let u = placed c.in_ok-semi.semi in
    exit_same c.from_residual-in_err-header.result (Fails Prefaces 64 c.args.source 0) f c.from_residual-in_err-header.ensures.1
    (opening_header c.args.source t u t t c.in_ok-iso.ensures.first c.in_ok-iso.ensures.terminal f c.in_ok-semi.ensures.first c.in_ok-semi.ensures.terminal (c.in_err-header.ensures.fault 64))

pub returns-in_err-last-clause-fault : goal.returns-in_err-last-clause-fault
returns-in_err-last-clause-fault c =
    let f = c.in_err-last.field-0.0 in
    let t = placed c.in_ok-iso.iso in
    let u = placed c.in_ok-semi.semi in
    let v = placed c.in_ok-header.header in
    exit_same c.from_residual-in_err-last.result (Fails Prefaces 64 c.args.source 0) f c.from_residual-in_err-last.ensures.1
    (opening_last c.args.source t u v t c.in_ok-iso.ensures.first c.in_ok-iso.ensures.terminal f c.in_ok-semi.ensures.first c.in_ok-semi.ensures.terminal c.in_ok-header.ensures.first c.in_ok-header.ensures.terminal (c.in_err-last.ensures.fault 64))

pub returns-clause-ok : goal.returns-clause-ok
returns-clause-ok c =
    covers_opening c.args.source (placed c.in_ok-iso.iso) (placed c.in_ok-semi.semi) (placed c.in_ok-header.header) (placed c.in_ok-last.last) c.in_ok-iso.ensures.first c.in_ok-iso.ensures.terminal c.in_ok-semi.ensures.first c.in_ok-semi.ensures.terminal c.in_ok-header.ensures.first c.in_ok-header.ensures.terminal c.in_ok-last.ensures.first c.in_ok-last.ensures.terminal
