use Rattle.std.proofs.Common.{◌/◌, ap, ◌∙◌}
use Rattle.std.specs.Prelude.{max}
use Rattle.p21_checker.proofs.ListLemmas.{within_window}
use Rattle.p21_checker.proofs.lists.most_together.Goals as goal

pub returns-clause-window : goal.returns-clause-window
returns-clause-window c = within_window c.args.capacity c.max.result (c.max.ensures ∙ ap (λ n. max (n / 4) 1) c.get.ensures.value)
