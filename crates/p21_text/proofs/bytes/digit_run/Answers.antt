use Rattle.std.proofs.Common.{◌≡◌, length, take, subst, refl, arith}
use Rattle.std.specs.List.{AllByRecursion}
use Rattle.std.proofs.lemmas.Bool.{false≢true}
use Rattle.p21_text.specs.Spelling.{IsDigit}
use Rattle.p21_text.proofs.RunLemmas.{all_more, run_to, run_all}
use Rattle.p21_text.proofs.bytes.digit_run.Goals as goal

pub loop-i-preserved : goal.loop-i-preserved
loop-i-preserved c = all_more IsDigit c.args.text.now c.loop-i.i c.loop-i-test.true c.loop-i.invariant (c.if-not-is_digit.ensures.0 refl)

pub returns-then-not-is_digit : goal.returns-then-not-is_digit
returns-then-not-is_digit c = run_to IsDigit c.args.text.now c.loop-i.i c.loop-i-test.true c.loop-i.invariant (λ h. false≢true (c.if-not-is_digit.ensures.1 h))

pub returns : goal.returns
returns c =
    let text = c.args.text.now in
    let end : c.loop-i.i ≡ length text = omega arith in
    run_all IsDigit text (length text) refl (subst (λ n. AllByRecursion IsDigit (take n text)) end c.loop-i.invariant)
