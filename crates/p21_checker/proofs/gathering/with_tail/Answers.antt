use Rattle.p21_checker.proofs.GatheringLemmas.{ended_with, tail_with, whole_with}
use Rattle.p21_checker.proofs.gathering.with_tail.Goals as goal

pub returns-then-ended-clause-all : goal.returns-then-ended-clause-all
returns-then-ended-clause-all c = λ vs is names h. ended_with c.args.file.now c.args.tail vs is names c.args.faults.items c.args.ended c.if-ended.true h

pub returns-in-Ok-clause-all : goal.returns-in-Ok-clause-all
returns-in-Ok-clause-all c = λ vs is names h. whole_with c.args.file.now c.args.tail vs is names c.args.faults.items c.args.ended c.if-ended.false h c.in-Ok.ensures.ok

pub returns-in_ok-push-in-Err-clause-all : goal.returns-in_ok-push-in-Err-clause-all
returns-in_ok-push-in-Err-clause-all c = λ vs is names h.
    tail_with c.args.file.now c.args.tail vs is names c.args.faults.items c.push.new.self.items c.in-Err.fault c.args.ended c.if-ended.false h c.in-Err.ensures.fault c.in_ok-push-in-Err.ensures.items
