use Rattle.std.proofs.Common.{◌∙◌, ◌++◌, sym, ap}
use Rattle.p21_rules.specs.Code.{number_code}
use Rattle.p21_rules.proofs.NumberLemmas.{scaled_pushed}
use Rattle.p21_rules.proofs.PushLemmas.{on_ok}
use Rattle.p21_rules.proofs.number.push_scaled.Goals as goal

pub returns : goal.returns
returns c =
    let ds = c.args.digits.whole.now ++ c.args.digits.fraction.now in
    let some = sym c.is_empty.ensures ∙ c.if-is_empty.false in
    let over = c.in_ok-push_number.ensures ∙ ap (λ n. c.push_signed.new.code.items ++ number_code n) c.saturating_sub.ensures in
    on_ok
    c.push_number-2.result
    (λ x e. scaled_pushed c.args.minus ds c.args.power.up c.args.power.down _ _ _ _ _ some c.in_ok-push.ensures.items c.in_ok-push_signed.ensures over (e ∙ ap (λ n. c.push_number.new.code.items ++ number_code n) c.saturating_sub-2.ensures))
    c.push_number-2.ensures
