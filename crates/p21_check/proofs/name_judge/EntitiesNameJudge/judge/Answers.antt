use Rattle.std.proofs.Common.{subst}
use Rattle.p21_express.specs.Schema.{Schema}
use Rattle.p21_check.specs.EntityOf.{IsKnownAs}
use Rattle.p21_check.proofs.name_judge.EntitiesNameJudge.judge.Goals as goal

pub judged-requires-clause-known : goal.judged-requires-clause-known
judged-requires-clause-known g c =
    let found = g.M.EntityOf.named c.args.self.now.among.now c.args.name in
    (found, subst (λ (s : Schema). IsKnownAs s found c.entity_of.result) c.requires.table c.entity_of.ensures)

pub returns : goal.returns
returns g c =
    let named = g.M.EntityOf.named c.args.self.now.among.now in
    c.judged.ensures named (subst (λ (s : Schema). IsKnownAs s (named c.args.name) c.entity_of.result) c.requires.table c.entity_of.ensures)
