use Rattle.p21_rule_text.specs.Resolve.{IsMeant}
use Rattle.p21_rule_text.proofs.resolve.resolve.Goals as goal

pub returns-in-Some : goal.returns-in-Some
returns-in-Some c = IsMeant.by c.in-Some.ensures c.among.ensures

pub returns-in-None : goal.returns-in-None
returns-in-None c = IsMeant.none c.in-None.ensures
