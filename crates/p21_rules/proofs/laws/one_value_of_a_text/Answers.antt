use Rattle.p21_rules.proofs.LawLemmas.{same_text, same_value}
use Rattle.p21_rules.proofs.laws.one_value_of_a_text.Goals as goal

pub returns-clause-same : goal.returns-clause-same
returns-clause-same c = λ s x y b d is js v h k clean same m. same_value c.items_are_unique.ensures s x y b d is js v h k clean same m

pub returns-clause-different : goal.returns-clause-different
returns-clause-different c = λ s x y b d is js v h k clean m n. same_text c.items_are_unique.ensures s x y b d is js v h k clean m n
