use Rattle.std.proofs.Common.{subst}
use Rattle.std.specs.Prelude.{MatchOption}
use Rattle.p21_join.specs.Model.{instances_of, plain_instances}
use Rattle.p21_refs.specs.FirstReferenceFault.{AreAnswered, IsFirstReferenceFault}
use Rattle.p21_refs.proofs.first.first_bad_among.Goals as goal

pub returns-in-None : goal.returns-in-None
returns-in-None g c =
    let found = c.first_bad_behind_front.result in
    subst (λ m. MatchOption found (AreAnswered c.args.entities.now.schema.now (plain_instances (instances_of m)) (plain_instances (instances_of m))) (IsFirstReferenceFault c.args.entities.now.schema.now (plain_instances (instances_of m)))) c.model-model.ensures
    (subst (λ s. MatchOption found (AreAnswered s (plain_instances (instances_of c.model-model.result.now)) (plain_instances (instances_of c.model-model.result.now))) (IsFirstReferenceFault s (plain_instances (instances_of c.model-model.result.now)))) c.schema-schema.ensures c.first_bad_behind_front.ensures)
