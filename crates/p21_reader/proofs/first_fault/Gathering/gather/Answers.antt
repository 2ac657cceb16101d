use Rattle.std.proofs.Common.{sym, ◌∙◌}
use Rattle.p21_join.specs.Joined.{joined}
use Rattle.p21_join.specs.Model.{plain_instances}
use Rattle.p21_reader.proofs.FirstFaultLemmas.{still_none}
use Rattle.p21_reader.proofs.first_fault.Gathering.gather.Goals as goal

pub returns-in-Ok-clause-gathered : goal.returns-in-Ok-clause-gathered
returns-in-Ok-clause-gathered c = λ js h.
    let g = c.args.self.now in
    still_none js c.args.judgement (plain_instances (joined g.joiner)) (plain_instances (joined c.add_value.new.joiner)) g.entities.items c.add_value.new.entities.items g.fault (sym c.is_some.ensures ∙ c.if-is_some.false) h c.in-Ok.ensures.adds c.in-Ok.ensures.entities
