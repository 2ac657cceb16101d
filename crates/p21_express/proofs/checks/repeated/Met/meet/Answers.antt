use Rattle.std.proofs.Common.{sym, ◌∙◌}
use Rattle.p21_express.proofs.MetLemmas.{met_new, met_again}
use Rattle.p21_express.proofs.checks.repeated.Met.meet.Goals as goal

pub returns-in_default : goal.returns-in_default
returns-in_default c = λ before ns met.
    met_new before c.args.first.now.found c.args.self.now.places c.insert.new.self ns c.args.name c.args.left (sym c.in_ok-other.ensures.old ∙ c.in_default.is) met c.in_ok-other.ensures.updates.0

pub returns : goal.returns
returns c = λ before ns met.
    met_again before c.args.first.now.found c.meet.new.self.found c.args.self.now.places c.insert.new.self c.insert-2.new.self ns c.args.name c.in-Some.other c.args.left c.max.result (sym c.in_ok-other.ensures.old ∙ c.in-Some.is) c.meet.ensures met c.in_ok-other.ensures.updates.0 c.in_ok-insert.ensures.updates.0
