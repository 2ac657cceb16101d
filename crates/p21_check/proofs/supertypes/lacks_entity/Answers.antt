use Rattle.p21_check.proofs.Tests.{both, either_true, either_false}
use Rattle.p21_check.proofs.ComplexLemmas.{above_by, below_by}
use Rattle.p21_check.proofs.supertypes.lacks_entity.Goals as goal

pub returns-then-lacks_supertype : goal.returns-then-lacks_supertype
returns-then-lacks_supertype c = λ name at. either_true c.if-lacks_supertype.true (both c.lacks_supertype.ensures (above_by c.args.schema.now name at c.args.records.now c.args.set.now c.requires.of))

pub returns-else-lacks_supertype : goal.returns-else-lacks_supertype
returns-else-lacks_supertype c = λ name at.
    either_false c.if-lacks_supertype.false (both c.lacks_supertype.ensures (above_by c.args.schema.now name at c.args.records.now c.args.set.now c.requires.of)) (both c.lacks_subtype.ensures (below_by c.args.schema.now name at c.args.records.now))
