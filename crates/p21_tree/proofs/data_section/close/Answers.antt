use Rattle.std.proofs.Common.{◌≡◌, ℕ, true, false, refl}
use Rattle.std.proofs.lemmas.Result.{IfErr-weaker}
use Rattle.p21_text.specs.Tokens.{placed}
use Rattle.p21_tree.specs.Sentence.{IsTail}
use Rattle.p21_tree.specs.Parts.{TailOn, Bodies, IsBehindEndsec}
use Rattle.p21_tree.specs.Progress.{Finishes, Fails}
use Rattle.p21_tree.proofs.DataLemmas.{finishes_tail, fails_tail, fails_no_body}
use Rattle.p21_tree.proofs.ExitLemmas.{result_ok}
use Rattle.p21_tree.proofs.data_section.close.Goals as goal

pub returns-then-is-clause-ok : goal.returns-then-is-clause-ok
returns-then-is-clause-ok c =
    result_ok c.behind_endsec.result (λ _. Finishes IsBehindEndsec c.args.source c.args.lexed.after) (λ _. Finishes IsTail c.args.source c.args.at) (λ _ h. finishes_tail c.args.source c.args.at (placed c.args.lexed) c.requires.first (c.if-is.ensures.0 refl) h) c.behind_endsec.ensures.ok

pub returns-then-is-clause-fault : goal.returns-then-is-clause-fault
returns-then-is-clause-fault c =
    IfErr-weaker c.behind_endsec.result (λ f. (limit : ℕ) → Fails TailOn limit c.args.source c.args.lexed.after f) (Fails Bodies 64 c.args.source c.args.at)
    (λ f h. fails_tail c.args.source c.args.at (placed c.args.lexed) f c.requires.first (c.if-is.ensures.0 refl) (h 64)) c.behind_endsec.ensures.fault

pub returns-else-is-clause-fault : goal.returns-else-is-clause-fault
returns-else-is-clause-fault c =
    fails_no_body c.args.source c.args.at (placed c.args.lexed) c.refused.result c.requires.first
    (λ e. let f : false ≡ true = c.if-is.ensures.1 e in cc) c.requires.no_name c.refused.ensures.place c.refused.ensures.kind
