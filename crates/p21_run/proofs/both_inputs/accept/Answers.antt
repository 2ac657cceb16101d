use Rattle.p21_express.specs.Plain.{plain_schema}
use Rattle.p21_schema.specs.Rules.{with_rules}
use Rattle.p21_run.specs.Run.{IsRefused}
use Rattle.p21_run.proofs.RunLemmas.{of_line, on_err}
use Rattle.p21_run.proofs.both_inputs.accept.Goals as goal

pub returns-in-Ok-clause-refused : goal.returns-in-Ok-clause-refused
returns-in-Ok-clause-refused g c =
    let s = plain_schema c.in-Ok.declarations in
    let text = c.args.text.now in
    on_err c.accept.result (λ e refuses line is. IsRefused.of_schema s e c.in-Ok.ensures.ok (of_line e (g.A.Accepts.refuses c.args.accepts.now (with_rules s c.args.options.now.rules) text) line refuses is) is) c.accept.ensures.refused
