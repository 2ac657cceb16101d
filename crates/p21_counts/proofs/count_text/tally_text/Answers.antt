use Rattle.std.proofs.Common.{◌++◌, length, map, ap, ◌∙◌}
use Rattle.p21_counts.specs.Tally.{IsTallyOf, tally_lines}
use Rattle.p21_counts.specs.declared.tally.Tally.{Tally}
use Rattle.p21_counts.proofs.ReportLemmas.{report_text}
use Rattle.p21_counts.proofs.count_text.tally_text.Goals as goal

pub returns : goal.returns
returns c is many before =
    let keywords = c.sort_keys.new.self in
    let t : Tally = record { complex = c.args.tally.now.complex; references = c.args.tally.now.references; keywords = keywords } in
    let counted : IsTallyOf t is = record { complex = before.complex; references = before.references; keywords = λ k. c.sort_keys.ensures.reordered.2 k ∙ before.keywords k } in
    report_text t is c.args.instances c.push_tally.new.text.items counted c.in_ok-sort_keys.ensures.sorted c.in_ok-push_tally.ensures.unique many
    (c.in_ok-push_tally.ensures.lines ∙ ap (λ l. l ++ tally_lines c.args.instances t) c.new-text.ensures.items)
