use Rattle.p21_counts.proofs.TallyLemmas.{raised_at}
use Rattle.p21_counts.proofs.tally.raise_at.Goals as goal

pub returns : goal.returns
returns c = λ w stands. raised_at c.args.keywords.now c.args.place _ c.saturating_add.result _ w c.pair_mut-count.ensures.unique c.pair_mut-count.ensures.value c.saturating_add.ensures stands
