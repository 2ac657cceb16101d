use Rattle.p21_text.specs.Tokens.{placed}
use Rattle.p21_text.proofs.UniqueLemmas.{first_once}
use Rattle.p21_text.proofs.laws.one_first.Goals as goal

pub returns : goal.returns
returns c =
    let t = placed c.next_token-first.result in
    (t, c.next_token-first.ensures.first, λ u f. first_once c.args.text.now c.args.at u t f c.next_token-first.ensures.first)
