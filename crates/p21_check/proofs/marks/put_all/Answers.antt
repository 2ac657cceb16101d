use Rattle.std.proofs.Common.{subst, ◌∙◌}
use Rattle.std.proofs.lemmas.List.{take_all}
use Rattle.p21_check.specs.Marks.{AreAdded}
use Rattle.p21_check.proofs.MarkLemmas.{added_more}
use Rattle.p21_check.proofs.marks.put_all.Goals as goal

pub loop-entity-preserved : goal.loop-entity-preserved
loop-entity-preserved c =
    let kept = c.loop-entity.invariant in
    record {
      long = c.put.ensures.length ∙ kept.long;
      added = added_more c.args.marks.now c.loop-entity.marks c.put.new.marks c.args.entities.now c.loop-entity.entity-index (record { index = 0 }) c.loop-entity-test.true c.put.ensures.length kept.added c.put.ensures.added;
    }

pub returns-clause-added : goal.returns-clause-added
returns-clause-added c = subst (AreAdded c.args.marks.now c.loop-entity.marks) (take_all c.loop-entity.entity-index c.args.entities.now c.loop-entity-test.false) c.loop-entity.invariant.added
