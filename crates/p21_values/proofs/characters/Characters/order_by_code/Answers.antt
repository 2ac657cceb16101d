use Rattle.std.proofs.Common.{◌≡◌, min, length, sym, ◌∙◌, arith}
use Rattle.std.specs.Cmp.Lexicographic.{slice_cmp}
use Rattle.std.specs.Ordering.{nat_cmp}
use Rattle.p21_values.specs.Plain.{codes}
use Rattle.p21_values.proofs.TextLemmas.{order_end}
use Rattle.p21_values.proofs.characters.Characters.order_by_code.Goals as goal

pub returns : goal.returns
returns c =
    let xs = codes c.args.self.now in
    let ys = codes c.args.other.now in
    let n : c.loop-at.at ≡ min (length xs) (length ys) = omega arith in
    let e = order_end xs ys c.loop-at.at n in
    cc
