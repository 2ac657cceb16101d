use Rattle.std.proofs.Common.{ℕ, refl}
use Rattle.p21_text.specs.Spelling.{symbol}
use Rattle.p21_text.specs.Spelling as token
use Rattle.p21_text.specs.Tokens.{placed}
use Rattle.p21_tree.specs.Sentence.{endsec_word}
use Rattle.p21_tree.specs.Fault.{tails}
use Rattle.p21_tree.specs.Texts.{HasTail, HasFault}
use Rattle.p21_tree.specs.Parts.{Terminal, TailOn, IsBehindEndsec}
use Rattle.p21_tree.specs.Progress.{Finishes, Fails}
use Rattle.p21_tree.proofs.ExitLemmas.{exit_same, result_ok}
use Rattle.std.proofs.lemmas.Result.{IfErr-weaker}
use Rattle.p21_tree.proofs.PartLemmas.{some_tail_on}
use Rattle.p21_tree.proofs.ProgressLemmas.{fails_first}
use Rattle.p21_tree.proofs.ReaderLemmas.{in_tails, has_tail, fails_behind_endsec}
use Rattle.p21_tree.proofs.readers.read_tail.Goals as goal

pub returns-in_err-endsec-clause-fault : goal.returns-in_err-endsec-clause-fault
returns-in_err-endsec-clause-fault c =
    exit_same c.from_residual.result (HasFault tails c.args.file.now c.args.at) c.in_err-endsec.field-0.0 c.from_residual.ensures.1
    (in_tails _ c.args.at c.in_err-endsec.field-0.0 refl (fails_first (Terminal (token.keyword endsec_word)) TailOn 64 _ c.args.at c.in_err-endsec.field-0.0 (some_tail_on 64) (c.in_err-endsec.ensures.fault 64)))

pub returns-clause-ok : goal.returns-clause-ok
returns-clause-ok c =
    result_ok c.behind_endsec.result (λ _. Finishes IsBehindEndsec _ c.in_ok-endsec.endsec.after) (λ _. HasTail c.args.file.now c.args.at)
    (λ _ h. has_tail _ c.args.at (placed c.in_ok-endsec.endsec) refl c.in_ok-endsec.ensures.first c.in_ok-endsec.ensures.terminal h) c.behind_endsec.ensures.ok

pub returns-clause-fault : goal.returns-clause-fault
returns-clause-fault c =
    IfErr-weaker c.behind_endsec.result (λ f. (limit : ℕ) → Fails TailOn limit _ c.in_ok-endsec.endsec.after f) (HasFault tails c.args.file.now c.args.at)
    (λ f h. in_tails _ c.args.at f refl (fails_behind_endsec _ c.args.at (placed c.in_ok-endsec.endsec) f c.in_ok-endsec.ensures.first c.in_ok-endsec.ensures.terminal (h 64))) c.behind_endsec.ensures.fault
