use Rattle.p21_express.specs.Plain.{plain_schema}
use Rattle.p21_express.proofs.WellFormedLemmas.{names_refused}
use Rattle.p21_express.proofs.checks.unknown.check.Goals as goal

pub returns : goal.returns
returns c = names_refused (plain_schema c.args.checked.declarations.now) c.new-unknown.result.found c.entities.new.first.found c.types.new.first.found c.new-selects.result.found c.lone_selects.new.first.found c.first_refusal.result c.new-unknown.ensures c.new-selects.ensures (c.entities.ensures c.requires) (c.types.ensures c.requires) (c.lone_selects.ensures c.requires) c.first_refusal.ensures
