use Rattle.std.proofs.Common.{◌++◌, length, ap, arith}
use Rattle.std.proofs.lemmas.List.{length-append}
use Rattle.p21_rules.proofs.NumberLemmas.{before_zeros_within}
use Rattle.p21_rules.proofs.number.push_decimal.Goals as goal

pub len-requires-2 : goal.len-requires-2
len-requires-2 c =
    let ds = c.args.digits.whole.now ++ c.args.digits.fraction.now in
    let within = before_zeros_within ds in
    let all = length-append c.args.digits.whole.now c.args.digits.fraction.now in
    let left = ap length c.before_zeros-front.ensures in
    let parts = length-append c.before_zeros-front.result.whole.now c.before_zeros-front.result.fraction.now in
    omega arith

pub overflow_sub-up : goal.overflow_sub-up
overflow_sub-up c =
    let ds = c.args.digits.whole.now ++ c.args.digits.fraction.now in
    let within = before_zeros_within ds in
    let left = ap length c.before_zeros-front.ensures in
    omega arith
