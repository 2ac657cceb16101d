use Rattle.std.proofs.Common.{◌∙◌}
use Rattle.p21_check.proofs.WidthLemmas.{wide}
use Rattle.p21_check.proofs.width.is_as_wide.Goals as goal

pub returns-in-Some : goal.returns-in-Some
returns-in-Some c =
    let found = c.string_len.ensures in
    wide c.args.width c.args.raw.now c.in-Some.count c.from.result found.0 c.is_allowed.result c.in-Some.is (c.items_are_unique.ensures c.args.raw.now) found.1 (c.from.ensures ∙ found.2) c.is_allowed.ensures
