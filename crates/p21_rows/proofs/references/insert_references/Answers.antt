use Rattle.std.proofs.Common.{◌≡◌, ◌++◌, List, ℕ, ap, subst, ◌∙◌}
use Rattle.p21_tree.specs.Plain.{plain}
use Rattle.p21_rows.specs.Rows.{AreReferencesOf, AreReferenceRows, targets}
use Rattle.p21_rows.proofs.RowLemmas.{taken_all, taken_more, taken_none}
use Rattle.p21_rows.proofs.references.insert_references.Goals as goal

pub loop-position-init : goal.loop-position-init
loop-position-init g c = taken_none (AreReferencesOf c.args.source) plain (g.D.Rows.taken c.args.rows.now) c.args.params.now

pub loop-position-preserved : goal.loop-position-preserved
loop-position-preserved g c =
    let x = c.index-params-position.result in
    let column = c.column_at-column.result.now in
    let same : c.as_slice.result.now ≡ targets (plain x) = c.as_slice.ensures.value ∙ c.in_ok-push_targets.ensures ∙ ap (λ (l : List ℕ). l ++ targets (plain x)) c.new-targets.ensures.items in
    let made = c.in_ok-insert_targets.ensures.taken in
    taken_more (AreReferencesOf c.args.source) plain (g.D.Rows.taken c.args.rows.now) (g.D.Rows.taken c.loop-position.rows) (g.D.Rows.taken c.insert_targets.new.rows) c.args.params.now c.loop-position.position x
    c.loop-position-test.true c.index-params-position.is c.loop-position.invariant
    (made.0, (column, subst (λ (l : List ℕ). AreReferenceRows c.args.source column 0 l made.0) same made.1), made.2)

pub returns-clause-taken : goal.returns-clause-taken
returns-clause-taken g c = taken_all (AreReferencesOf c.args.source) plain (g.D.Rows.taken c.args.rows.now) (g.D.Rows.taken c.loop-position.rows) c.args.params.now c.loop-position.position c.loop-position-test.false c.loop-position.invariant
