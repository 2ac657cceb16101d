use Rattle.p21_rule_text.proofs.resolve.declarer.Goals as goal

pub returns-in-Some : goal.returns-in-Some
returns-in-Some c = rw c.in-Some.is c.owner_named.ensures

pub returns-in-None : goal.returns-in-None
returns-in-None c = rw c.in-None.is c.first_lowest.ensures
