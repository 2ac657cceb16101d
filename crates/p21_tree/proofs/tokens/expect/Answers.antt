use Rattle.std.proofs.Common.{◌≡◌, true, false}
use Rattle.p21_text.specs.Tokens.{placed}
use Rattle.p21_tree.specs.Terminals.{terminal_of}
use Rattle.p21_tree.proofs.ProgressLemmas.{terminal_fails}
use Rattle.p21_tree.proofs.tokens.expect.Goals as goal

pub returns-clause-fault : goal.returns-clause-fault
returns-clause-fault c limit =
    terminal_fails (terminal_of c.args.wanted) limit c.args.source c.args.at (placed c.token-lexed.result) c.refused.result c.token-lexed.ensures.first
    (λ e. let f : false ≡ true = c.if-is.ensures.1 e in cc) c.refused.ensures.place c.refused.ensures.kind
