use Rattle.p21_tree.specs.Plain.{plain}
use Rattle.p21_check.proofs.AskedLemmas.{first_beside}
use Rattle.p21_check.proofs.asked.against.Goals as goal

pub returns-in-Err : goal.returns-in-Err
returns-in-Err g c = first_beside c.args.schema.now (g.J.NameJudge.named c.args.judge.now) (plain c.args.param.now) c.args.wanted c.in-Err.found c.in-Err.ensures
