use Rattle.std.proofs.Common.{◌≡◌, ◌≤ℤ◌, negsuc, pos, ◌∙◌, ap, arith}
use lib.Ieee.{binary64, eq, of_int}
use Rattle.std.proofs.lemmas.Int.{ints, to_z-of_z}
use Rattle.std.specs.Ordering.{float_partial_cmp}
use Rattle.p21_values.proofs.NumberLemmas.{order_exact}
use Rattle.p21_values.proofs.numbers.integer_order.Goals as goal

pub returns-then-a-le-LARGEST_EXACT : goal.returns-then-a-le-LARGEST_EXACT
returns-then-a-le-LARGEST_EXACT c =
    let low : negsuc 9007199254740991 ≤ℤ c.args.a = omega (arith, ints, c.if-a.true) in
    let high : c.args.a ≤ℤ pos 9007199254740992 = omega (arith, ints, c.if-a-le-LARGEST_EXACT.true) in
    let e : c.nearest_i64_to_f64.result ≡ of_int binary64 c.args.a = c.nearest_i64_to_f64.ensures ∙ ap (of_int binary64) (to_z-of_z _ _ c.ranges.a) in
    c.partial_cmp.ensures ∙ ap (λ x. float_partial_cmp x c.args.y) e ∙ order_exact c.args.a c.args.y low high
