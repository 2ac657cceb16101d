use Rattle.std.proofs.Common.{refl}
use Rattle.p21_text.proofs.SeparatorLemmas.{white_unit}
use Rattle.p21_text.proofs.separators.unit.Goals as goal

pub returns-then-is_white : goal.returns-then-is_white
returns-then-is_white c =
    white_unit c.args.text.now c.in_ok-first.tail.now c.in_ok-first.first.now c.in_ok-first.ensures.cases.0 (c.if-is_white.ensures.0 refl)
