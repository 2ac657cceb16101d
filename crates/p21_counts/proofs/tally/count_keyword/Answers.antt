use Rattle.std.proofs.Common.{◌∷◌, ◌++◌, []}
use Rattle.p21_counts.specs.Tally.{CountsOf, IsRaised}
use Rattle.p21_counts.proofs.ReportLemmas.{on_ok}
use Rattle.p21_counts.proofs.TallyLemmas.{counts_more}
use Rattle.p21_counts.proofs.tally.count_keyword.Goals as goal

pub returns : goal.returns
returns c = λ ks h.
    let old = c.args.keywords.now in
    let new = c.add_count.new.keywords in
    let word = c.args.keyword in
    on_ok c.add_count.result (IsRaised old word 1 new) (CountsOf new (ks ++ word.now ∷ [])) (counts_more old new word ks h) c.add_count.ensures
