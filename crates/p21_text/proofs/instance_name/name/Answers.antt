use Rattle.std.proofs.Common.{◌≡◌, ◌∷◌, ◌+◌, length, subst, sym, refl, arith}
use Rattle.std.proofs.lemmas.Bool.{false≢true, eqb-true, eqb-false}
use Rattle.p21_text.specs.Spelling.{IsDigit, decimal_from}
use Rattle.p21_text.specs.Spelling as token
use Rattle.p21_text.specs.Tokens.{Front}
use Rattle.p21_text.proofs.RunLemmas.{all_more, run_to, run_all}
use Rattle.p21_text.proofs.NameLemmas.{decimal_more, name_front, name_none, name_over}
use Rattle.p21_text.proofs.instance_name.name.Goals as goal

pub returns-then-i-eq0 : goal.returns-then-i-eq0
returns-then-i-eq0 c =
    let r = run_to IsDigit c.args.tail.now c.loop-i.i c.loop-i-test.true c.loop-i.invariant.digits (λ h. false≢true (c.if-not-is_digit.ensures.1 h)) in
    name_none c.args.tail.now c.loop-i.i c.if-i-eq0.true r

pub returns-else-i-eq0 : goal.returns-else-i-eq0
returns-else-i-eq0 c =
    let r = run_to IsDigit c.args.tail.now c.loop-i.i c.loop-i-test.true c.loop-i.invariant.digits (λ h. false≢true (c.if-not-is_digit.ensures.1 h)) in
    name_front c.args.tail.now c.loop-i.i c.loop-i.number (omega arith) r c.loop-i.invariant.value c.loop-i.invariant.fits

pub returns-in-None : goal.returns-in-None
returns-in-None c =
    let over = c.in-None.ensures in
    let value = c.loop-i.invariant.value in
    name_over c.args.tail.now c.loop-i.i c.loop-i-test.true c.loop-i.invariant.digits (c.if-not-is_digit.ensures.0 refl) (omega arith)

pub loop-i-preserved : goal.loop-i-preserved
loop-i-preserved c =
    let tail = c.args.tail.now in
    let i = c.loop-i.i in
    let longer = c.in-Some.ensures.1 in
    let value = c.loop-i.invariant.value in
    record {
      digits = all_more IsDigit tail i c.loop-i-test.true c.loop-i.invariant.digits (c.if-not-is_digit.ensures.0 refl);
      value = omega (arith, decimal_more tail i c.loop-i-test.true);
      fits = (let small = c.in-Some.ensures.0 in omega arith);
    }

pub returns-then-is_empty : goal.returns-then-is_empty
returns-then-is_empty c =
    let tail = c.args.tail.now in
    let none : length tail ≡ 0 = eqb-true (length tail) 0 (sym c.if-is_empty.ensures) in
    let end : c.loop-i.i ≡ length tail = omega arith in
    name_none tail c.loop-i.i (omega arith) (run_all IsDigit tail c.loop-i.i end c.loop-i.invariant.digits)

pub returns-else-is_empty : goal.returns-else-is_empty
returns-else-is_empty c =
    let tail = c.args.tail.now in
    let some = eqb-false (length tail) 0 (sym c.if-is_empty.ensures) in
    let end : c.loop-i.i ≡ length tail = omega arith in
    subst (λ n. Front (35 ∷ tail) (1 + n) (token.name c.loop-i.number)) end (name_front tail c.loop-i.i c.loop-i.number (omega arith) (run_all IsDigit tail c.loop-i.i end c.loop-i.invariant.digits) c.loop-i.invariant.value c.loop-i.invariant.fits)
