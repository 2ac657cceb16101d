use Rattle.std.proofs.Common.{ap, drop, ◌≡◌, ◌+◌, ◌*◌, ◌-◌, get_or, arith}
use Rattle.std.proofs.lemmas.List.{drop_more}
use Rattle.p21_text.specs.Spelling.{decimal_from}
use Rattle.p21_rules.proofs.NumberLemmas.{decimal_grows}
use Rattle.p21_rules.proofs.number.near.Goals as goal

pub returns-then-value-ge-FAR : goal.returns-then-value-ge-FAR
returns-then-value-ge-FAR c =
    let k = c.loop-digit.digit-index in
    let ds = c.args.digits.now in
    let value = 10 * c.loop-digit.value + (get_or ds k 0 - 48) in
    let next : decimal_from c.loop-digit.value (drop k ds) ≡ decimal_from value (drop (k + 1) ds) = ap (decimal_from c.loop-digit.value) (drop_more ds k 0 c.loop-digit-test.true) in
    let grown = decimal_grows value (drop (k + 1) ds) in
    let left = c.loop-digit.invariant.left in
    omega arith
