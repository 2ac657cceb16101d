-- One more instance in columns, and those of other columns.
use Rattle.std.proofs.Common.{◌≡◌, ℕ, ◌+◌, true, cond, List, [], ◌∷◌, ◌++◌, None, map, length, get_or, sym, ap, subst, ◌∙◌, arith}
use Rattle.std.specs.Prelude.{All}
use Rattle.std.proofs.lemmas.List.{length-append, map-append}
use Rattle.std.proofs.Math.Seq.{get_or-append_seam}
use Rattle.p21_express.specs.Schema.{Schema}
use Rattle.p21_schema.specs.declared.ids.EntityId.{EntityId}
use Rattle.p21_tree.specs.declared.instances.RawInstance.{RawInstance}
use Rattle.p21_tree.specs.Views.{plain_instance}
use Rattle.p21_check.specs.LocalFault.{IsLocalFault}
use Rattle.p21_check.specs.declared.referred.Reference.{Reference}
use Rattle.p21_counts.specs.Counts.{capped, complex_count, record_references, reference_count}
use Rattle.p21_join.specs.Model.{plain_instances}
use Rattle.p21_check.specs.EntityOf.{IsSimpleOf}
use Rattle.p21_check.specs.Referred.{AreReferencesOf}
use Rattle.p21_outline.specs.declared.columns.Columns.{Columns}
use Rattle.p21_outline.specs.declared.columns.Row.{Row}
use Rattle.p21_outline.specs.Rows.{HaveReferences, IsHeld, IsRow, Refers, held_instance, row_behind, row_instance}
use Rattle.p21_outline.specs.Columns.{Adds, AppendsRow, AppendsSimple, AppendsWhole, Joins, instances_in}
use Rattle.p21_outline.proofs.RowLemmas.{are_rows_moved, complex_more, lone, references_joined, references_more, references_moved, rows_grown, rows_more, rows_moved, sound_more, written_more}

-- ---- one more instance

module _ (old new : Columns) (row : Row) (rs : List Reference) (ws : List RawInstance) (w : ℕ) (i : RawInstance)
    (h : AppendsRow old row rs ws w new) (is : row_instance new.wholes.items row ≡ i) where
  -- the instance of the row comes after the others
  appended_instance : instances_in new ≡ instances_in old ++ i ∷ []
  appended_instance =
      ap (map (row_instance new.wholes.items)) h.rows ∙ map-append (row_instance new.wholes.items) old.rows.items (row ∷ [])
      ∙ ap (λ l. l ++ row_instance new.wholes.items row ∷ []) (ap (λ xs. map (row_instance xs) old.rows.items) h.wholes_ ∙ rows_grown old.wholes.items ws old.rows.items old.within)
      ∙ ap (λ x. instances_in old ++ x ∷ []) is

  -- what is kept of it is so by a schema by which it is
  appended : (s : Schema) → IsLocalFault s (plain_instance i) None → IsRow s (old.wholes.items ++ ws) row → Refers s rs row.gone.value row.held → length ws ≡ cond i.complex 1 0
      → w ≡ capped (record_references (plain_instance i).records) → Adds s old i new
  appended s sound own refers count written = record {
    instances = appended_instance;
    fits = λ k. record {
      sound = subst (λ l. All (λ x. IsLocalFault s x None) (plain_instances l)) (sym appended_instance) (sound_more s (instances_in old) (i ∷ []) k.sound (lone (λ x. IsLocalFault s x None) (plain_instance i) sound));
      rows = subst (λ l. All (IsRow s l) new.rows.items) (sym h.wholes_) (subst (λ l. All (IsRow s (old.wholes.items ++ ws)) l) (sym h.rows)
          (rows_more s old.wholes.items ws old.rows.items (row ∷ []) k.rows (lone (IsRow s (old.wholes.items ++ ws)) row own)));
      references = subst (λ l. HaveReferences s l 0 new.rows.items) (sym h.references_)
          (subst (HaveReferences s (old.references.items ++ rs) 0) (sym h.rows) (references_more s old.references.items rs 0 old.rows.items row k.references (h.end ∙ ap length h.references_) refers));
      complex = ap length h.wholes_ ∙ (complex_more (instances_in old) (i ∷ []) old.wholes.items ws k.complex (omega arith) ∙ ap (λ l. complex_count (plain_instances l)) (sym appended_instance));
      written = written_more (instances_in old) (i ∷ []) old.written w new.written k.written (omega arith) h.written_ ∙ ap (λ l. capped (reference_count (plain_instances l))) (sym appended_instance);
    };
  }

-- a simple instance that was let go
pub adds_simple : (s : Schema) (old new : Columns) (i gone : RawInstance) (e : EntityId) (rs : List Reference) (w : ℕ) → gone ≡ i → IsLocalFault s (plain_instance i) None → IsSimpleOf s (plain_instance i) e
    → AreReferencesOf s (plain_instance i) rs → w ≡ capped (record_references (plain_instance i).records) → AppendsSimple old w e rs gone new → Adds s old i new
adds_simple s old new i gone e rs w same sound simple refers counted h =
    let row = h.0 in
    let is : row.gone.value ≡ i = h.2 ∙ same in
    let instance : row_instance new.wholes.items row ≡ i = ap (held_instance new.wholes.items row.gone.value) h.1 ∙ is in
    let held_is : IsHeld s (old.wholes.items ++ []) row.gone.value row.held = subst (IsHeld s (old.wholes.items ++ []) row.gone.value) (sym h.1) (subst (λ x. IsSimpleOf s (plain_instance x) e) (sym is) simple) in
    let refers_is : Refers s rs row.gone.value row.held = subst (Refers s rs row.gone.value) (sym h.1) (subst (λ x. AreReferencesOf s (plain_instance x) rs) (sym is) refers) in
    appended old new row rs [] w i h.3 instance s sound held_is refers_is (sym (ap (λ b. cond b 1 0) simple.simple)) counted

-- an instance that is whole
pub adds_whole : (s : Schema) (old new : Columns) (i : RawInstance) (w : ℕ) → IsLocalFault s (plain_instance i) None → i.complex ≡ true → w ≡ capped (record_references (plain_instance i).records)
    → AppendsWhole old w i new → Adds s old i new
adds_whole s old new i w sound complex counted h =
    let row = h.0 in
    let ws = old.wholes.items in
    let there : get_or (ws ++ i ∷ []) (length ws) row.gone.value ≡ i = get_or-append_seam ws i [] row.gone.value in
    let instance : row_instance new.wholes.items row ≡ i = ap (held_instance new.wholes.items row.gone.value) h.1 ∙ (ap (λ l. get_or l (length ws) row.gone.value) h.2.wholes_ ∙ there) in
    let long = length-append ws (i ∷ []) in
    let held_is : IsHeld s (ws ++ i ∷ []) row.gone.value row.held = subst (IsHeld s (ws ++ i ∷ []) row.gone.value) (sym h.1) (omega arith, ap (λ (x : RawInstance). x.complex) there ∙ complex) in
    let refers_is : Refers s [] row.gone.value row.held = subst (Refers s [] row.gone.value) (sym h.1) tt in
    appended old new row [] (i ∷ []) w i h.2 instance s sound held_is refers_is (sym (ap (λ b. cond b 1 0) complex)) counted

-- ---- those of other columns

-- The rows of other columns come after it, moved, and with them their references and what is whole of them.
pub record Gathers (old more new : Columns) : Type 0 where
  pub rows : new.rows.items ≡ old.rows.items ++ map (row_behind (length old.references.items) (length old.wholes.items)) more.rows.items
  pub references_ : new.references.items ≡ old.references.items ++ more.references.items
  pub wholes_ : new.wholes.items ≡ old.wholes.items ++ more.wholes.items
  pub written_ : new.written ≡ capped (old.written + more.written)

module _ (old more new : Columns) (h : Gathers old more new) where
  -- their instances come after the others
  gathered_instances : instances_in new ≡ instances_in old ++ instances_in more
  gathered_instances =
      let ws = old.wholes.items in
      let vs = more.wholes.items in
      let others = map (row_behind (length old.references.items) (length ws)) more.rows.items in
      ap (map (row_instance new.wholes.items)) h.rows ∙ ap (λ xs. map (row_instance xs) (old.rows.items ++ others)) h.wholes_
      ∙ map-append (row_instance (ws ++ vs)) old.rows.items others
      ∙ ap (λ l. l ++ map (row_instance (ws ++ vs)) others) (rows_grown ws vs old.rows.items old.within)
      ∙ ap (λ l. instances_in old ++ l) (rows_moved ws vs (length old.references.items) more.rows.items)

  gathered_references : (s : Schema) → HaveReferences s old.references.items 0 old.rows.items → HaveReferences s more.references.items 0 more.rows.items
      → HaveReferences s (old.references.items ++ more.references.items) 0 (old.rows.items ++ map (row_behind (length old.references.items) (length old.wholes.items)) more.rows.items)
  gathered_references s k j =
      let rs = old.references.items in
      let more_rs = more.references.items in
      let others = map (row_behind (length rs) (length old.wholes.items)) more.rows.items in
      let none : 0 + length rs ≡ length rs = omega arith in
      references_joined s rs more_rs 0 old.rows.items others k (subst (λ n. HaveReferences s (rs ++ more_rs) n others) none (references_moved s rs more_rs (length old.wholes.items) 0 more.rows.items j))

  pub gathered : Joins old more new
  gathered = record {
    instances = gathered_instances;
    fits = λ s k j. record {
      sound = subst (λ l. All (λ x. IsLocalFault s x None) (plain_instances l)) (sym gathered_instances) (sound_more s (instances_in old) (instances_in more) k.sound j.sound);
      rows = subst (λ l. All (IsRow s l) new.rows.items) (sym h.wholes_) (subst (λ l. All (IsRow s (old.wholes.items ++ more.wholes.items)) l) (sym h.rows)
          (rows_more s old.wholes.items more.wholes.items old.rows.items (map (row_behind (length old.references.items) (length old.wholes.items)) more.rows.items) k.rows
          (are_rows_moved s old.wholes.items more.wholes.items (length old.references.items) more.rows.items j.rows)));
      references = subst (λ l. HaveReferences s l 0 new.rows.items) (sym h.references_) (subst (HaveReferences s (old.references.items ++ more.references.items) 0) (sym h.rows) (gathered_references s k.references j.references));
      complex = ap length h.wholes_ ∙ (complex_more (instances_in old) (instances_in more) old.wholes.items more.wholes.items k.complex j.complex ∙ ap (λ l. complex_count (plain_instances l)) (sym gathered_instances));
      written = written_more (instances_in old) (instances_in more) old.written more.written new.written k.written j.written h.written_ ∙ ap (λ l. capped (reference_count (plain_instances l))) (sym gathered_instances);
    };
  }
