use Rattle.std.proofs.Common.{◌≡◌, ◌∷◌, ◌∙◌, ap, arith, replicate, true, false}
use Rattle.p21_values.proofs.PatternLemmas.{row_of_none}
use Rattle.p21_values.proofs.pattern.last_row.Goals as goal

pub returns : goal.returns
returns c =
    let e : c.loop-n._n ≡ c.args.count = omega arith in
    λ text len. row_of_none text c.args.count c.loop-n.row.items (c.loop-n.invariant ∙ ap (λ n. true ∷ replicate n false) e) len
