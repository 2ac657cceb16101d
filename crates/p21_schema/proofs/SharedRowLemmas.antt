-- Rows that begin with others.
use Rattle.std.proofs.Common.{◌≡◌, ℕ, zero, suc, ◌+◌, ◌-◌, ◌^◌, ◌<◌, ◌≤◌, List, [], ◌∷◌, ◌++◌, Some, length, get_or, set, take, drop, map, reverse, replicate, refl, sym, ap, ◌∙◌, subst, ⊎_elim, arith}
use Rattle.std.specs.Prelude.{slice_get}
use Rattle.std.proofs.lemmas.Bool.{cases_eq, cases_lt}
use Rattle.std.proofs.lemmas.List.{length-map, get_or-map, map-set, length-set, get_or-set_same, get_or-set_other, take_all, reverse-append, take-append-drop, append-nil, length-append, length-replicate, get_or-replicate, get_or_past}
use Rattle.p21_express.specs.Schema.{Schema}
use Rattle.p21_express.specs.WellFormed.{IsIn, AreDistinct, IsWellFormed}
use Rattle.p21_graph.specs.Graph.{IsOrder}
use Rattle.p21_graph.specs.GraphLaws.{in_order_below}
use Rattle.p21_graph.specs.MemberLaws.{in_front, not_before, last_in, front_in, front_more}
use Rattle.p21_schema.specs.Ancestry.{AreSupertypesNamed}
use Rattle.p21_schema.specs.declared.rows.Own.{Own}
use Rattle.p21_schema.specs.declared.ids.AttrId.{AttrId}
use Rattle.p21_schema.specs.declared.draft.Draft.{Draft}
use Rattle.p21_schema.specs.declared.rows.Row.{Row}
use Rattle.p21_schema.specs.Draft.{IsWholeRow}
use Rattle.p21_schema.specs.RowTable.{no_own, IsOwnTable, IsRowAt, BeginsWithFirst, all_kept, ids_from, joined, row_of, from_of, rest_of, IsBegun, IsBeginning, IsRowOver, AreRowsOver, AreWithin, IsSamePosition}
use Rattle.p21_schema.proofs.AncestryLemmas.{all_names, distinct_entities}
use Rattle.p21_schema.proofs.RowLemmas.{row_at, attributes_distinct, all_alike}
use Rattle.p21_schema.proofs.DraftLemmas.{begins_with_first, kept_distinct}

-- ---- the parts of a row

module _ (rows : List Row) (e : ℕ) (row : Row) (less : e < length rows) (at : row ≡ get_or rows e row) where
  pub rest_at : rest_of rows e ≡ row.rest.items
  rest_at = get_or-map (λ (r : Row). r.rest.items) rows e row [] less ∙ ap (λ (r : Row). r.rest.items) (sym at)

module _ (all : List (List AttrId)) (rows : List Row) (t : AreRowsOver all rows) (e : ℕ) (row : Row) (less : e < length rows) (at : row ≡ get_or rows e row) where
  over : IsRowOver all rows (row_of all e) row
  over = t.each e row less at

  pub above_below : 0 < row.from → row.above < length rows
  above_below l = (over.begun l).below

  pub whole_above : 0 < row.from → row_of all e ≡ row_of all row.above ++ rest_of rows e
  whole_above l =
      let first : take row.from (row_of all row.above) ≡ row_of all row.above = take_all row.from (row_of all row.above) (let c = (over.begun l).count in omega (arith, c)) in
      over.whole ∙ (λ j. first j ++ sym (rest_at rows e row less at) j)

  pub whole_rest : row.from ≤ 0 → row_of all e ≡ rest_of rows e
  whole_rest z = let none : row.from ≡ 0 = omega (arith, z) in over.whole ∙ ap (λ (n : ℕ). take n (row_of all row.above) ++ row.rest.items) none ∙ sym (rest_at rows e row less at)

pub joined_front : (row : ℕ → List AttrId) (es : List ℕ) (e : ℕ) → joined row (reverse (es ++ e ∷ [])) ≡ row e ++ joined row (reverse es)
joined_front row es e = ap (λ (u : List ℕ). joined row u) (reverse-append es (e ∷ []))

-- ---- the row of one entity more

module _ (all : List (List AttrId)) (rows : List Row) (k : ℕ) (ids : List AttrId) (row : Row) (t : AreRowsOver all rows) (less : k < length rows) (none : row_of all k ≡ []) where
  -- no row begins with one that is still empty
  still_begun : (above from : ℕ) → 0 < from → IsBegun all rows above from → (row_of (set all k ids) above ≡ row_of all above) × IsBegun (set all k ids) (set rows k row) above from
  still_begun above from some h =
      let ne : (above ≡ k) → ⊥ = λ e. let c = h.count ∙ ap (λ (u : ℕ). length (row_of all u)) e ∙ ap length none in omega (arith, c, some) in
      let same : row_of (set all k ids) above ≡ row_of all above = get_or-set_other all k above ids [] ne in
      let fewer : from_of (set rows k row) above ≡ from_of rows above = ap (λ (u : List ℕ). get_or u above 0) (map-set (λ (r : Row). r.from) rows k row) ∙ get_or-set_other (map (λ (r : Row). r.from) rows) k above row.from 0 ne in (
        same,
        record {
          below = subst (λ u. above < u) (sym (length-set rows k row)) h.below;
          count = h.count ∙ sym (ap length same);
          fewer = subst (λ u. u < from) (sym fewer) h.fewer;
        },
      )

  still_over : (whole : List AttrId) (r : Row) → IsRowOver all rows whole r → IsRowOver (set all k ids) (set rows k row) whole r
  still_over whole r h = record {
    whole = h.whole ∙ ap (λ (u : List AttrId). u ++ r.rest.items) front;
    begun = λ l. (still_begun r.above r.from l (h.begun l)).1;
    fits = h.fits;
  }
    where
      front : take r.from (row_of all r.above) ≡ take r.from (row_of (set all k ids) r.above)
      front = ⊎_elim
          (λ (l : 0 < r.from). ap (λ (u : List AttrId). take r.from u) (sym (still_begun r.above r.from l (h.begun l)).0))
          (λ (z : r.from ≤ 0). let e : r.from ≡ 0 = omega (arith, z) in ap (λ (n : ℕ). take n (row_of all r.above)) e ∙ ap (λ (n : ℕ). take n (row_of (set all k ids) r.above)) (sym e))
          (cases_lt 0 r.from)

  pub rows_set : IsRowOver all rows ids row → AreRowsOver (set all k ids) (set rows k row)
  rows_set this = record {
    count = length-set all k ids ∙ t.count ∙ sym (length-set rows k row);
    each = λ e r l at.
        let l' : e < length rows = subst (λ u. e < u) (length-set rows k row) l in
        let less' : k < length all = subst (λ u. k < u) (sym t.count) less in
        ⊎_elim
        (λ (eq : e ≡ k).
        let is : r ≡ row = at ∙ ap (λ (u : ℕ). get_or (set rows k row) u r) eq ∙ get_or-set_same rows k row r less in
        let here : row_of (set all k ids) e ≡ ids = ap (λ (u : ℕ). row_of (set all k ids) u) eq ∙ get_or-set_same all k ids [] less' in
        subst (λ (u : List AttrId). IsRowOver (set all k ids) (set rows k row) u r) (sym here) (subst (λ (u : Row). IsRowOver (set all k ids) (set rows k row) ids u) (sym is) (still_over ids row this)))
        (λ (ne : (e ≡ k) → ⊥).
        let is : r ≡ get_or rows e r = at ∙ get_or-set_other rows k e row r ne in
        subst (λ (u : List AttrId). IsRowOver (set all k ids) (set rows k row) u r) (sym (get_or-set_other all k e ids [] ne)) (still_over (row_of all e) r (t.each e r l' is)))
        (cases_eq e k);
  }

pub within_set : (count : ℕ) (rows : List Row) (k : ℕ) (row : Row) → k < length rows → AreWithin count rows → ((a : AttrId) → IsIn row.rest.items a → a.index < count) → AreWithin count (set rows k row)
within_set count rows k row less h this e a i =
    let rests = map (λ (r : Row). r.rest.items) rows in
    let mapped : rest_of (set rows k row) e ≡ get_or (set rests k row.rest.items) e [] = ap (λ (u : List (List AttrId)). get_or u e []) (map-set (λ (r : Row). r.rest.items) rows k row) in
    let j : IsIn (get_or (set rests k row.rest.items) e []) a = subst (λ (u : List AttrId). IsIn u a) mapped i in
    let less' : k < length rests = rw (length-map rows (λ (r : Row). r.rest.items)) less in
    ⊎_elim
    (λ (eq : e ≡ k). this a (subst (λ (u : List AttrId). IsIn u a) (ap (λ (u : ℕ). get_or (set rests k row.rest.items) u []) eq ∙ get_or-set_same rests k row.rest.items [] less') j))
    (λ (ne : (e ≡ k) → ⊥). h e a (subst (λ (u : List AttrId). IsIn u a) (get_or-set_other rests k e row.rest.items [] ne) j))
    (cases_eq e k)

-- ---- all rows

-- the rows of the entities that are done, and none of the others
pub record AreDone (graph : List (List ℕ)) (own : List Own) (done : List ℕ) (rows : List Row) : Type 0 where
  pub all : List (List AttrId)
  pub over : AreRowsOver all rows
  pub distinct : (v : ℕ) → AreDistinct (row_of all v)
  pub waiting : (v : ℕ) → ¬ (IsIn done v) → row_of all v ≡ []
  pub are : (s : Schema) → IsWellFormed s → AreSupertypesNamed (all_names s) graph s.entities → IsOwnTable s own → (v : ℕ) → IsIn done v → IsRowAt s v (row_of all v)

pub none_done : (graph : List (List ℕ)) (own : List Own) (rows : List Row) (n : ℕ) → AreRowsOver (replicate n []) rows → AreDone graph own [] rows
none_done graph own rows n h = record {
  all = replicate n [];
  over = h;
  distinct = λ v. subst (λ (u : List AttrId). AreDistinct u) (sym (all_alike n v [])) tt;
  waiting = λ v _. all_alike n v [];
  are = λ s formed named owns v i. absurd i;
}

module _ (graph : List (List ℕ)) (own : List Own) (order : List ℕ) (i : ℕ) (less : i < length order) (is : IsOrder graph order) (apart : AreDistinct order) (rows : List Row) (long : length rows ≡ length graph) (h : AreDone graph own (take i order) rows) where
  abbrev next : ℕ
  next = get_or order i 0

  abbrev next_own : Own
  next_own = get_or own next no_own

  next_below : next < length rows
  next_below = subst (λ u. next < u) (sym long) (is i less).0

  -- the next row begins with that of the first supertype
  pub begins_next : BeginsWithFirst h.all (get_or graph next []) (all_kept [] (joined (row_of h.all) (get_or graph next []) ++ ids_from next_own.from (next_own.to - next_own.from)))
  begins_next = begins_with_first h.all (get_or graph next []) (ids_from next_own.from (next_own.to - next_own.from)) h.distinct

  pub supertypes_below : (e : ℕ) → IsIn (get_or graph next []) e → e < length rows
  supertypes_below e m = subst (λ u. e < u) (sym long) (in_order_below graph order e is (in_front i order e ((is i less).1 e m)))

  pub one_done : (ids : List AttrId) (row : Row) → ids ≡ all_kept [] (joined (row_of h.all) (get_or graph next []) ++ ids_from next_own.from (next_own.to - next_own.from)) → IsRowOver h.all rows ids row → AreDone graph own (take (i + 1) order) (set rows next row)
  one_done ids row made this =
      let all = h.all in
      let below : next < length all = subst (λ u. next < u) (sym h.over.count) next_below in
      let none : row_of all next ≡ [] = h.waiting next (not_before order i 0 apart less) in
      record {
        all = set all next ids;
        over = rows_set all rows next ids row h.over next_below none this;
        distinct = λ v. ⊎_elim
            (λ (e : v ≡ next). subst (λ (u : List AttrId). AreDistinct u) (sym (ap (λ (k : ℕ). row_of (set all next ids) k) e ∙ get_or-set_same all next ids [] below ∙ made)) (kept_distinct [] (joined (row_of all) (get_or graph next []) ++ ids_from next_own.from (next_own.to - next_own.from)) tt))
            (λ (ne : (v ≡ next) → ⊥). subst (λ (u : List AttrId). AreDistinct u) (sym (get_or-set_other all next v ids [] ne)) (h.distinct v))
            (cases_eq v next);
        waiting = λ v out.
            let ne : (v ≡ next) → ⊥ = λ e. out (subst (λ u. IsIn (take (i + 1) order) u) (sym e) (last_in order i 0 less)) in
            get_or-set_other all next v ids [] ne ∙ h.waiting v (λ m. out (front_in order i 0 v less m));
        are = λ s formed named owns v m.
            let at : next < length s.entities = subst (λ u. next < u) named.count (is i less).0 in
            let before = h.are s formed named owns in
            let here : IsRowAt s next ids = row_at s next (row_of all) (get_or graph next []) next_own ids (attributes_distinct s.entities (distinct_entities s formed.repeated) formed.repeated.attributes) at (owns.rows next at) (named.rows next at) (λ e j. before e ((is i less).1 e j)) made in
            ⊎_elim
            (λ (e : v ≡ next). subst (λ u. IsRowAt s u (row_of (set all next ids) u)) (sym e) (rw (get_or-set_same all next ids [] below) here))
            (λ (ne : (v ≡ next) → ⊥). rw (get_or-set_other all next v ids [] ne) (before v (⊎_elim (λ (f : IsIn (take i order) v). f) (λ (e : next ≡ v). absurd (ne (sym e))) (front_more order i 0 v less m))))
            (cases_eq v next);
      }

  -- and a draft that was made for it is its whole row
  pub one_whole : (ids : List AttrId) (row : Row) (made : ids ≡ all_kept [] (joined (row_of h.all) (get_or graph next []) ++ ids_from next_own.from (next_own.to - next_own.from))) (this : IsRowOver h.all rows ids row) (d : Draft) → d.ids.items ≡ ids → d.of ≡ Some next → IsWholeRow (one_done ids row made this).all d
  unfolding one_done
  one_whole ids row made this d is of e at =
      let both : Some next ≡ Some e = sym of ∙ at in
      let same : next ≡ e = cc in
      let below : next < length h.all = subst (λ u. next < u) (sym h.over.count) next_below in
      (is ∙ sym (get_or-set_same h.all next ids [] below) ∙ ap (λ (u : ℕ). row_of (set h.all next ids) u) same, (one_done ids row made this).distinct e)
