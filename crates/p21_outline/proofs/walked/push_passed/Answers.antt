use Rattle.std.proofs.lemmas.Result.{on_ok_weaker}
use Rattle.p21_outline.proofs.WalkedLemmas.{walked_adds}
use Rattle.p21_outline.proofs.walked.push_passed.Goals as goal

pub returns-clause-ok : goal.returns-clause-ok
returns-clause-ok c =
    let s = c.args.schema.now in
    let i = c.passed-gone.result.value in
    let is = c.passed-gone.ensures in
    on_ok_weaker c.push_simple.result
    (λ a. (i, is, walked_adds s c.args.piece i c.args.walked c.args.columns.now c.push_simple.new.self c.as_slice-references.result.now is c.push_simple.ensures.small c.as_slice-references.ensures a)) c.push_simple.ensures.ok
