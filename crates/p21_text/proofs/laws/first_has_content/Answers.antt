use Rattle.std.proofs.Common.{drop}
use Rattle.p21_text.proofs.FrontLemmas.{front_content}
use Rattle.p21_text.proofs.laws.first_has_content.Goals as goal

pub returns : goal.returns
returns c = λ text at t f. front_content (drop f.gap (drop at text)) f.len t.token f.front
