use Rattle.std.proofs.Common.{◌-◌, arith}
use Rattle.p21_express.proofs.DigitLemmas.{digit_at, power_below}
use Rattle.p21_express.proofs.words.decimal.Goals as goal

pub overflow_mul-value : goal.overflow_mul-value
overflow_mul-value c =
    let p = power_below (18 - c.loop-byte.byte-index) c.loop-byte.byte-index (omega (arith, c.requires.few)) in
    omega (arith, p, c.loop-byte.invariant.0)

pub overflow_add-value : goal.overflow_add-value
overflow_add-value c =
    let p = power_below (18 - c.loop-byte.byte-index) c.loop-byte.byte-index (omega (arith, c.requires.few)) in
    let d = digit_at c.args.digits.now c.loop-byte.byte-index c.requires.digits c.loop-byte-test.true in
    omega (arith, p, d.0, d.1, c.loop-byte.invariant.0, c.from.ensures)

pub returns-clause-small : goal.returns-clause-small
returns-clause-small c =
    let p = power_below (18 - c.loop-byte.byte-index) c.loop-byte.byte-index (omega (arith, c.requires.few)) in
    omega (arith, p, c.loop-byte.invariant.0)
