use Rattle.p21_schema.proofs.UnderLemmas.{first_in}
use Rattle.p21_schema.proofs.rows.beginning.Goals as goal

pub whole-requires : goal.whole-requires
whole-requires c = (c.requires.0, (c.requires.1.0, c.requires.1.1 c.in-Some.first.now (first_in c.args.supertypes.now c.in-Some.first.now c.in-Some.ensures.value)))
