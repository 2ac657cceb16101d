use Rattle.p21_check.proofs.wanted.Wanted.is_met_from.Goals as goal

pub returns-in-Select : goal.returns-in-Select
returns-in-Select c = rw c.in-Select.is c.select_admits.ensures
