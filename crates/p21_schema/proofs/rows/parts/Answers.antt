use Rattle.std.proofs.Common.{◌≡◌, ◌<◌, ◌≤◌, ◌++◌, ◌∷◌, [], ℕ, List, length, get_or, reverse, sym, ap, subst, ◌∙◌, ⊎_elim, append_assoc}
use Rattle.std.proofs.lemmas.List.{get_or_default}
use Rattle.p21_express.specs.WellFormed.{IsIn}
use Rattle.p21_graph.specs.MemberLaws.{in_either}
use Rattle.p21_schema.specs.declared.ids.AttrId.{AttrId}
use Rattle.p21_schema.specs.declared.rows.Row.{Row}
use Rattle.p21_schema.specs.RowTable.{joined, row_of, rest_of}
use Rattle.p21_schema.proofs.SharedRowLemmas.{above_below, whole_above, whole_rest, joined_front}
use Rattle.p21_schema.proofs.rows.parts.Goals as goal

pushed_below : (es : List ℕ) (e n : ℕ) → ((k : ℕ) → IsIn es k → k < n) → e < n → (k : ℕ) → IsIn (es ++ e ∷ []) k → k < n
pushed_below es e n h less k i = ⊎_elim (λ (l : IsIn es k). h k l) (λ (r : IsIn (e ∷ []) k). ⊎_elim (λ (s : e ≡ k). subst (λ u. u < n) s less) (λ (b : ⊥). absurd b) r) (in_either es (e ∷ []) k i)

pub loop-entity-preserved : goal.loop-entity-preserved
loop-entity-preserved c =
    let rows = c.args.rows.now in
    let e = c.loop-entity.entity in
    let inv = c.loop-entity.invariant in
    let row = c.index-rows-entity-in-loop-entity.result in
    let at = c.index-rows-entity-in-loop-entity.is in
    let some : 0 < row.from = subst (λ (u : Row). 0 < u.from) (get_or_default rows e c.index-rows-entity.result row inv.below ∙ sym at) c.loop-entity-test.true in
    record {
      below = subst (λ (u : Row). u.above < length rows) at (above_below c.requires.0 rows c.requires.1.0 e row inv.below at some);
      within = subst (λ (u : List ℕ). (k : ℕ) → IsIn u k → k < length rows) (sym c.in_ok-push.ensures.items) (pushed_below c.loop-entity.parts.items e (length rows) inv.within inv.below);
      whole = λ all t.
          let up = (get_or rows e row).above in
          let parts = c.loop-entity.parts.items in
          let more : joined (rest_of rows) (reverse c.push.new.self.items) ≡ rest_of rows e ++ joined (rest_of rows) (reverse parts) = ap (λ (u : List ℕ). joined (rest_of rows) (reverse u)) c.in_ok-push.ensures.items ∙ joined_front (rest_of rows) parts e in
          let whole : row_of all e ≡ row_of all up ++ rest_of rows e = whole_above all rows t e row inv.below at some ∙ ap (λ (u : Row). row_of all u.above ++ rest_of rows e) at in
          inv.whole all t ∙ ap (λ (u : List AttrId). u ++ joined (rest_of rows) (reverse parts)) whole ∙ append_assoc (row_of all up) (rest_of rows e) (joined (rest_of rows) (reverse parts)) ∙ ap (λ (u : List AttrId). row_of all up ++ u) (sym more);
    }

pub returns-clause-below : goal.returns-clause-below
returns-clause-below c = subst (λ (u : List ℕ). (k : ℕ) → IsIn u k → k < length c.args.rows.now) (sym c.in_ok-push-2.ensures.items) (pushed_below c.loop-entity.parts.items c.loop-entity.entity (length c.args.rows.now) c.loop-entity.invariant.within c.loop-entity.invariant.below)

pub returns-clause-whole : goal.returns-clause-whole
returns-clause-whole c = λ all t.
    let rows = c.args.rows.now in
    let e = c.loop-entity.entity in
    let parts = c.loop-entity.parts.items in
    let row = c.index-rows-entity.result in
    let at = c.index-rows-entity.is in
    let none : row.from ≤ 0 = subst (λ (u : Row). u.from ≤ 0) (sym at) c.loop-entity-test.false in
    let more : joined (rest_of rows) (reverse c.push-2.new.self.items) ≡ rest_of rows e ++ joined (rest_of rows) (reverse parts) = ap (λ (u : List ℕ). joined (rest_of rows) (reverse u)) c.in_ok-push-2.ensures.items ∙ joined_front (rest_of rows) parts e in
    c.loop-entity.invariant.whole all t ∙ ap (λ (u : List AttrId). u ++ joined (rest_of rows) (reverse parts)) (whole_rest all rows t e row c.loop-entity.invariant.below at none) ∙ sym more
