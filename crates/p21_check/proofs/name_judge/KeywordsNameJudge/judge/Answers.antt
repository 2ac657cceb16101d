use Rattle.std.proofs.Common.{Option, subst}
use Rattle.std.specs.Prelude.{option_map}
use Rattle.p21_express.specs.Schema.{Schema}
use Rattle.p21_tree.specs.Sentence.{Instance}
use Rattle.p21_tree.specs.Views.{plain_instance}
use Rattle.p21_check.specs.EntityOf.{IsKnownAs}
use Rattle.p21_check.proofs.name_judge.KeywordsNameJudge.judge.Goals as goal

pub judged-requires-clause-known : goal.judged-requires-clause-known
judged-requires-clause-known g c =
    let found = option_map (λ i. plain_instance i.now) c.find.result in
    (found, subst (λ (s : Schema). IsKnownAs s found c.by_keyword-named.result) c.requires.table c.by_keyword-named.ensures)

pub returns : goal.returns
returns g c =
    let s = c.args.schema.now in
    let found = option_map (λ i. plain_instance i.now) c.find.result in
    let is = subst (λ (s : Schema). IsKnownAs s found c.by_keyword-named.result) c.requires.table c.by_keyword-named.ensures in
    c.judged.ensures (g.M.TypeOf.named c.args.self.now.model.now) (subst (λ (o : Option Instance). IsKnownAs s o c.by_keyword-named.result) c.find.ensures is)
