use Rattle.std.proofs.Common.{◌≡◌, List, ℕ, [], ◌∷◌, ◌++◌, map, take, ap, sym, subst, ◌∙◌, append_assoc, get_or, length, ◌<◌, ◌+◌}
use Rattle.std.proofs.lemmas.List.{take_more, map-append}
use Rattle.p21_tree.specs.declared.instances.Record.{Record}
use Rattle.p21_counts.specs.Tally.{CountsOf}
use Rattle.p21_counts.proofs.tally.count_records.Goals as goal

one_more : (ks : List (List ℕ)) (rs : List Record) (i : ℕ) (r : Record) → i < length rs → r ≡ get_or rs i r
    → (ks ++ map (λ r. r.keyword.now) (take i rs)) ++ r.keyword.now ∷ [] ≡ ks ++ map (λ r. r.keyword.now) (take (i + 1) rs)
one_more ks rs i r h e =
    let taken : take (i + 1) rs ≡ take i rs ++ r ∷ [] = take_more rs i r h ∙ ap (λ x. take i rs ++ x ∷ []) (sym e) in
    append_assoc ks (map (λ r. r.keyword.now) (take i rs)) (r.keyword.now ∷ []) ∙ ap (λ l. ks ++ l) (sym (ap (map (λ r. r.keyword.now)) taken ∙ map-append (λ (r : Record). r.keyword.now) (take i rs) (r ∷ [])))

pub loop-record-preserved : goal.loop-record-preserved
loop-record-preserved c = λ ks h.
    let i = c.loop-record.record-index in
    let before = ks ++ map (λ (r : Record). r.keyword.now) (take i c.args.records.now) in
    subst (CountsOf c.count_keyword.new.keywords) (one_more ks c.args.records.now i c.record-item.result c.loop-record-test.true c.record-item.is)
    (c.in_ok-count_keyword.ensures before (c.loop-record.invariant ks h))
