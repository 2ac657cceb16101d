use Rattle.std.proofs.Common.{ℕ, List, [], length, get_or, take, subst}
use Rattle.std.proofs.lemmas.List.{take_all}
use Rattle.p21_graph.specs.MemberLaws.{at_place}
use Rattle.p21_schema.specs.Draft.{IsMade}
use Rattle.p21_schema.specs.RowTable.{joined, row_of, all_kept}
use Rattle.p21_schema.proofs.DraftLemmas.{made_next, joined_more}
use Rattle.p21_schema.proofs.draft.Draft.keep_rows.Goals as goal

pub keep_row-requires-clause-rows : goal.keep_row-requires-clause-rows
keep_row-requires-clause-rows c =
    let k = c.loop-supertype.supertype-index in
    (c.requires.rows.0, (c.requires.rows.1.0, c.requires.rows.1.1 (get_or c.args.supertypes.now k 0) (at_place c.args.supertypes.now k 0 c.loop-supertype-test.true)))

pub loop-supertype-preserved : goal.loop-supertype-preserved
loop-supertype-preserved c = λ all t.
    let k = c.loop-supertype.supertype-index in
    let es = c.args.supertypes.now in
    made_next _ _ (all_kept [] (joined (row_of all) (take k es))) _ (λ r. all_kept r (row_of all (get_or es k 0))) c.loop-supertype.self c.keep_row.new.self (c.loop-supertype.invariant all t) (c.in_ok-keep_row.ensures all t) (joined_more (row_of all) es k c.loop-supertype-test.true)

pub returns : goal.returns
returns c = λ all t.
    let es = c.args.supertypes.now in
    subst (λ (u : List ℕ). IsMade (length c.args.self.now.marks.items) c.args.number (all_kept [] (joined (row_of all) u)) c.loop-supertype.self) (take_all c.loop-supertype.supertype-index es c.loop-supertype-test.false) (c.loop-supertype.invariant all t)
