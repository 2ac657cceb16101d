use Rattle.std.proofs.Common.{◌≡◌, ◌≤◌, ℕ, Some, length, get_or, take}
use Rattle.p21_graph.specs.Graph.{plain_graph}
use Rattle.p21_schema.specs.Draft.{IsDraft, IsWholeRow}
use Rattle.p21_schema.specs.RowTable.{AreWithin}
use Rattle.p21_schema.proofs.SharedRowLemmas.{AreDone}
use Rattle.p21_schema.proofs.rows.Rows.new.Given as goal

abbrev pub invariant-loop-place : goal.invariant-loop-place
invariant-loop-place l = record {
  count : length l.rows.items ≡ length (plain_graph l.supertypes);
  within : AreWithin l.count l.rows.items;
  size : length l.draft.marks.items ≡ l.count;
  upto : (k : ℕ) → get_or l.draft.marks.items k 0 ≤ l.place;
  number : l.draft.number ≤ l.place;
  draft : (e : ℕ) → l.draft.of ≡ Some e → IsDraft l.draft;
  done : (d : AreDone (plain_graph l.supertypes) l.own (take l.place l.order) l.rows.items) × IsWholeRow d.all l.draft;
}
