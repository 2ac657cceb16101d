use Rattle.p21_text.specs.Spelling.{symbol}
use Rattle.p21_text.specs.Spelling as token
use Rattle.p21_text.specs.Tokens.{placed}
use Rattle.p21_tree.specs.Plain.{plain_all}
use Rattle.p21_tree.specs.Parts.{Terminal, Arguments, EntityRest}
use Rattle.p21_tree.specs.Progress.{Fails}
use Rattle.p21_tree.proofs.PartLemmas.{some_terminal}
use Rattle.p21_tree.proofs.ProgressLemmas.{fails_first}
use Rattle.p21_tree.proofs.ExitLemmas.{exit_fault, exit_error}
use Rattle.p21_tree.proofs.BodyLemmas.{arguments_bodies}
use Rattle.p21_tree.proofs.HeaderLemmas.{covers_entity, fails_entity_semi}
use Rattle.p21_tree.proofs.header_section.entity.Goals as goal

pub returns-in_err-params-clause-fault : goal.returns-in_err-params-clause-fault
returns-in_err-params-clause-fault c =
    exit_error c.from_residual.result (Fails Arguments 63 c.args.source c.args.at) (Fails EntityRest 63 c.args.source c.args.at) c.in_err-params.field-0.0 c.from_residual.ensures.1
    (λ f h. fails_first Arguments (Terminal token.semi) 63 c.args.source c.args.at f (some_terminal token.semi 63) h) c.in_err-params.ensures.fault

pub returns-in_err-semi-clause-fault : goal.returns-in_err-semi-clause-fault
returns-in_err-semi-clause-fault c =
    exit_fault c.from_residual-in_err-semi.result (Fails EntityRest 63 c.args.source c.args.at) c.in_err-semi.field-0.0 c.from_residual-in_err-semi.ensures.1
    (fails_entity_semi c.args.source c.args.at c.in_ok-params.after (plain_all c.in_ok-params.params) c.in_err-semi.field-0.0 c.in_ok-params.ensures.ok (c.in_err-semi.ensures.fault 63))

pub invariant_of-result : goal.invariant_of-result
invariant_of-result c = record {
  bodies = arguments_bodies c.first_has_content.ensures c.args.source c.args.at c.in_ok-params.after 63 c.in_ok-params.params c.in_ok-params.ensures.ok;
}

pub returns-clause-ok : goal.returns-clause-ok
returns-clause-ok c =
    covers_entity c.args.source c.args.at c.in_ok-params.after c.args.keyword.now (plain_all c.in_ok-params.params) (placed c.in_ok-semi.semi) c.in_ok-params.ensures.ok c.in_ok-semi.ensures.first c.in_ok-semi.ensures.terminal
