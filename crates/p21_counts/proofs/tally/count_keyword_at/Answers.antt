use Rattle.p21_counts.proofs.TallyLemmas.{counts_more}
use Rattle.p21_counts.proofs.tally.count_keyword_at.Goals as goal

pub returns-then-stands_at : goal.returns-then-stands_at
returns-then-stands_at c = λ ks h. counts_more c.args.keywords.now c.raise_at.new.keywords c.args.keyword ks h (c.raise_at.ensures c.args.keyword (c.stands_at.ensures c.if-stands_at.true))
