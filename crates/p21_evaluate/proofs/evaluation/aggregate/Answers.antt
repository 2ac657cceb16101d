use Rattle.std.proofs.Common.{sym, ap, ◌∙◌, Vec, Global}
use Rattle.p21_values.specs.Plain.{plain_all, several}
use Rattle.p21_values.specs.declared.value.Value.{Value}
use Rattle.p21_evaluate.proofs.Rows.{plain_aggregate}
use Rattle.p21_values.specs.Ends.{gives}
use Rattle.p21_evaluate.proofs.evaluation.aggregate.Goals as goal

pub returns-in-Ok : goal.returns-in-Ok
returns-in-Ok c =
    sym (ap gives (plain_aggregate c.args.kind c.in-Ok.values ∙ ap (λ (v : Vec Value Global). several c.args.kind (plain_all v.items)) c.in-Ok.ensures.ok))
