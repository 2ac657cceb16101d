use Rattle.p21_rule_text.proofs.RefusalLemmas.{not_named, on_any}
use Rattle.p21_rule_text.proofs.statements.Known.entity.Goals as goal

pub returns-in-None-clause-refused : goal.returns-in-None-clause-refused
returns-in-None-clause-refused c = on_any c.unknown.result _ (not_named c.args.self.schema.now c.args.name.now c.in-None.ensures)
