use Rattle.std.proofs.Common.{◌≡◌, ◌++◌, ◌∷◌, [], map, ap, subst, ◌∙◌}
use Rattle.p21_tree.specs.declared.instances.Record.{Record}
use Rattle.p21_tree.specs.Views.{plain_instance}
use Rattle.p21_counts.specs.Counts.{keywords_of}
use Rattle.p21_counts.specs.Tally.{CountsOf, IsTallyOf}
use Rattle.p21_counts.specs.declared.tally.Tally.{Tally}
use Rattle.p21_counts.proofs.ReportLemmas.{bool_number, on_ok, plain_words, tally_more}
use Rattle.p21_counts.proofs.tally.add_instance.Goals as goal

pub returns : goal.returns
returns c = λ is h.
    let i = plain_instance c.args.instance.now in
    let u : Tally = record { complex = c.saturating_add-tally.result; references = c.saturating_add-tally-2.result; keywords = c.count_records.new.keywords } in
    let ws = keywords_of is ++ map (λ (r : Record). r.keyword.now) c.as_slice.result.now in
    let same : ws ≡ keywords_of is ++ map (λ r. r.keyword) i.records =
    ap (λ rs. keywords_of is ++ map (λ (r : Record). r.keyword.now) rs) c.as_slice.ensures ∙ ap (λ l. keywords_of is ++ l) (plain_words c.args.instance.now.records) in
    on_ok c.count_records.result (CountsOf c.count_records.new.keywords ws) (IsTallyOf u (is ++ i ∷ []))
    (λ k. tally_more c.args.tally.now u is i c.from.result c.references_in.result h (bool_number c.args.instance.now.complex c.from.result c.from.ensures) c.saturating_add-tally.ensures c.references_in.ensures c.saturating_add-tally-2.ensures (subst (CountsOf u.keywords) same k))
    (c.count_records.ensures (keywords_of is) h.keywords)
