use Rattle.std.proofs.Common.{◌≡◌, ◌+◌, ◌-◌, take, ap, sym, subst, ◌∙◌, arith}
use Rattle.std.proofs.Math.Seq.{take-add}
use Rattle.std.proofs.lemmas.Bool.Decides.{nat_tests}
use Rattle.p21_printed.specs.Places.{IsPlace}
use Rattle.p21_printed.proofs.place.place_from.Goals as goal

pub returns-then-is_front : goal.returns-then-is_front
returns-then-is_front c =
    let text = c.args.text.now in
    let less = c.if-from-at.true in
    let whole : c.args.from + (c.args.at - c.args.from) ≡ c.args.at = grind (arith, nat_tests) in
    let parts = sym (take-add c.args.from (c.args.at - c.args.from) text) ∙ ap (λ n. take n text) whole in
    subst (λ l. IsPlace l c.place_behind.result) parts c.place_behind.ensures
