-- Steps of a walk through a graph.
use Rattle.std.proofs.Common.{◌≡◌, ℕ, zero, suc, ◌+◌, ◌-◌, ◌*◌, ◌<◌, ◌≤◌, Bool, true, false, List, [], ◌∷◌, ◌++◌, ◌⊎◌, length, get_or, take, set, sym, ap, ◌∙◌, subst, inl, inr, ⊎_elim, arith}
use Rattle.std.proofs.lemmas.Bool.{cases_eq, false≢true}
use Rattle.std.proofs.lemmas.List.{get_or-set_same, get_or-set_other, get_or_append_left, get_or_push, length_push, length-set, get_or-take, length-take-le, take_all, get_or_default}
use Rattle.std.specs.Prelude.{Vec}
use Rattle.p21_graph.specs.Members.{IsIn, AreDistinct}
use Rattle.p21_graph.specs.Graph.{Leads, one, more, HasNoCycle, HasEdge, AreEdgesBelow, IsMarked, AreMarked, IsWay, IsWalk, waiting, steps_left}
use Rattle.p21_graph.specs.MemberLaws.{place_of, at_place, in_either, in_front, front_more, same_place, distinct_push}
use Rattle.p21_graph.proofs.GraphLemmas.{few, placed_more, placed_push, mark_stays, fewer_waiting}

-- ---- a way meets no vertex twice

leads_on : (graph : List (List ℕ)) (way : List ℕ) → IsWay graph way → (i d : ℕ) → i + suc d < length way → Leads (HasEdge graph) (get_or way i 0) (get_or way (i + suc d) 0)
leads_on graph way w i zero less = one (subst (λ u. HasEdge graph (get_or way i 0) (get_or way u 0)) (omega arith) (w i (omega arith)))
leads_on graph way w i (suc d) less =
    let e : i + 1 + suc d ≡ i + suc (suc d) = omega arith in
    more (w i (omega arith)) (subst (λ u. Leads (HasEdge graph) (get_or way (i + 1) 0) (get_or way u 0)) e (leads_on graph way w (i + 1) d (omega arith)))

distinct_by : (xs : List ℕ) → ((i j : ℕ) → i < j → j < length xs → ¬ (get_or xs i 0 ≡ get_or xs j 0)) → AreDistinct xs
distinct_by [] h = tt
distinct_by (x ∷ xs) h = (λ m. let p = place_of xs x m in let less : p.0 < length xs = p.1.0 in h 0 (suc p.0) (omega arith) (omega arith) (sym (p.1.1 0)), distinct_by xs (λ i j l m. h (suc i) (suc j) (omega arith) (omega arith)))

pub distinct_way : (graph : List (List ℕ)) (way : List ℕ) → HasNoCycle (HasEdge graph) → IsWay graph way → AreDistinct way
distinct_way graph way cycles w = distinct_by way (λ i j l m e.
    let d : i + suc (j - i - 1) ≡ j = omega arith in
    let leads : Leads (HasEdge graph) (get_or way i 0) (get_or way j 0) = subst (λ u. Leads (HasEdge graph) (get_or way i 0) (get_or way u 0)) d (leads_on graph way w i (j - i - 1) (omega arith)) in
    cycles (get_or way i 0) (subst (λ u. Leads (HasEdge graph) (get_or way i 0) u) (sym e) leads))

short_way : (graph : List (List ℕ)) (way : List ℕ) → HasNoCycle (HasEdge graph) → IsWay graph way → ((v : ℕ) → IsIn way v → v < length graph) → length way ≤ length graph
short_way graph way cycles w below = few way (length graph) (distinct_way graph way cycles w) below

-- ---- steps

abbrev pub last_of : List ℕ → ℕ
last_of way = get_or way (length way - 1) 0

pub last_in : (way : List ℕ) → 0 < length way → IsIn way (last_of way)
last_in way some = at_place way (length way - 1) 0 (omega arith)

module _ (graph : List (List ℕ)) (row : List Bool) (looked way so_far : List ℕ) (next : ℕ) (h : IsWalk graph row looked way so_far) (some : 0 < length way) (upto : next ≤ length (get_or graph (last_of way) [])) (before : (k : ℕ) → k < next → IsMarked row (get_or (get_or graph (last_of way) []) k 0)) where
  abbrev v : ℕ
  v = last_of way

  v_below : v < length looked
  v_below = subst (λ u. v < u) (sym h.counts) (h.below v (last_in way some))

  v_marks : v < length row
  v_marks = subst (λ u. v < u) (sym h.marks) (h.below v (last_in way some))

  seen_more : (a k : ℕ) → k < get_or (set looked v next) a 0 → IsMarked row (get_or (get_or graph a []) k 0)
  seen_more a k l =
      ⊎_elim
      (λ (e : a ≡ v). subst (λ u. IsMarked row (get_or (get_or graph u []) k 0)) (sym e) (before k (subst (λ u. k < u) (ap (λ u. get_or (set looked v next) u 0) e ∙ get_or-set_same looked v next 0 v_below) l)))
      (λ (ne : (a ≡ v) → ⊥). h.seen a k (subst (λ u. k < u) (get_or-set_other looked v a next 0 ne) l))
      (cases_eq a v)

  within_more : (a : ℕ) → get_or (set looked v next) a 0 ≤ length (get_or graph a [])
  within_more a =
      ⊎_elim
      (λ (e : a ≡ v). rw (e, get_or-set_same looked v next 0 v_below) upto)
      (λ (ne : (a ≡ v) → ⊥). rw (get_or-set_other looked v a next 0 ne) (h.within a))
      (cases_eq a v)

  -- to a neighbor that waits
  pub deeper : AreEdgesBelow graph (length graph) → next < length (get_or graph v []) → get_or row (get_or (get_or graph v []) next 0) false ≡ false → IsWalk graph row (set looked v next) (way ++ get_or (get_or graph v []) next 0 ∷ []) so_far
  deeper below less waits =
      let w = get_or (get_or graph v []) next 0 in
      let edge : HasEdge graph v w = at_place (get_or graph v []) next 0 less in
      record {
        order = h.order;
        distinct = h.distinct;
        placed = h.placed;
        marked = h.marked;
        marks = h.marks;
        counts = length-set looked v next ∙ h.counts;
        seen = seen_more;
        within = within_more;
        below = λ a i. ⊎_elim (λ (l : IsIn way a). h.below a l) (λ (r : IsIn (w ∷ []) a). ⊎_elim (λ (e : w ≡ a). subst (λ u. u < length graph) e (below v w edge)) (λ (n : ⊥). absurd n) r) (in_either way (w ∷ []) a i);
        waits = λ a i. ⊎_elim (λ (l : IsIn way a). h.waits a l) (λ (r : IsIn (w ∷ []) a). ⊎_elim (λ (e : w ≡ a). subst (λ u. get_or row u false ≡ false) e waits) (λ (n : ⊥). absurd n) r) (in_either way (w ∷ []) a i);
        edges = λ k l.
            let long : length (way ++ w ∷ []) ≡ length way + 1 = length_push way w in
            let l' : k + 1 < length way + 1 = subst (λ u. k + 1 < u) long l in
            ⊎_elim
            (λ (e : k + 1 ≡ length way).
            let here : get_or (way ++ w ∷ []) k 0 ≡ v = get_or_append_left way (w ∷ []) 0 k (omega arith) ∙ ap (λ u. get_or way u 0) (let f : k ≡ length way - 1 = omega arith in f) in
            let there : get_or (way ++ w ∷ []) (k + 1) 0 ≡ w = get_or_push way w 0 (k + 1) (sym e) in
            rw (here, there) edge)
            (λ (ne : (k + 1 ≡ length way) → ⊥).
            rw (get_or_append_left way (w ∷ []) 0 k (omega arith), get_or_append_left way (w ∷ []) 0 (k + 1) (omega arith)) (h.edges k (omega arith)))
            (cases_eq (k + 1) (length way));
      }

  -- all neighbors are placed
  pub settled : length (get_or graph v []) ≤ next → AreDistinct way → IsWalk graph (set row v true) (set looked v next) (take (length way - 1) way) (so_far ++ v ∷ [])
  settled all apart =
      let ready : AreMarked row (get_or graph v []) = λ b i. let p = place_of (get_or graph v []) b i in let less : p.0 < length (get_or graph v []) = p.1.0 in subst (λ u. IsMarked row u) (p.1.1 0) (before p.0 (omega arith)) in
      let waits : get_or row v false ≡ false = h.waits v (last_in way some) in
      let short : length (take (length way - 1) way) ≡ length way - 1 = length-take-le (length way - 1) way (omega arith) in
      record {
        order = placed_more graph row so_far v h.order h.placed (h.below v (last_in way some)) ready;
        distinct = distinct_push so_far v h.distinct (λ i. false≢true (sym waits ∙ h.marked v i));
        placed = placed_push row so_far v v_marks h.placed;
        marked = λ a i. ⊎_elim (λ (l : IsIn so_far a). mark_stays row v a v_marks (h.marked a l)) (λ (r : IsIn (v ∷ []) a). ⊎_elim (λ (e : v ≡ a). rw (← e) (get_or-set_same row v true false v_marks)) (λ (n : ⊥). absurd n) r) (in_either so_far (v ∷ []) a i);
        marks = length-set row v true ∙ h.marks;
        counts = length-set looked v next ∙ h.counts;
        seen = λ a k l. mark_stays row v (get_or (get_or graph a []) k 0) v_marks (seen_more a k l);
        within = within_more;
        below = λ a i. h.below a (in_front (length way - 1) way a i);
        waits = λ a i.
            let p = place_of (take (length way - 1) way) a i in
            let less : p.0 < length way - 1 = subst (λ u. p.0 < u) short p.1.0 in
            let is : get_or way p.0 0 ≡ a = sym (get_or-take (length way - 1) way p.0 0 less) ∙ p.1.1 0 in
            get_or-set_other row v a true false (λ e. let s : p.0 ≡ length way - 1 = same_place way p.0 (length way - 1) 0 apart (omega arith) (omega arith) (is ∙ e) in omega (arith, s)) ∙ h.waits a (in_front (length way - 1) way a i);
        edges = λ k l.
            let l' : k + 1 < length way - 1 = subst (λ u. k + 1 < u) short l in
            rw (get_or-take (length way - 1) way k 0 (omega arith), get_or-take (length way - 1) way (k + 1) 0 l') (h.edges k (omega arith));
      }

-- ---- how many steps are left

product_less : (a b m : ℕ) → a < b → a * m + m ≤ b * m
product_less a zero m h = absurd (omega arith)
product_less zero (suc b) m h = let e : suc b * m ≡ m + b * m = omega arith in omega (arith, e)
product_less (suc a) (suc b) m h = let ih : a * m + m ≤ b * m = product_less a b m (omega arith) in let e : suc b * m ≡ m + b * m = omega arith in let f : suc a * m ≡ m + a * m = omega arith in omega (arith, ih, e, f)

pub fewer_deeper : (graph : List (List ℕ)) (row : List Bool) (way : List ℕ) (w : ℕ) → HasNoCycle (HasEdge graph) → IsWay graph way → ((v : ℕ) → IsIn way v → v < length graph) → steps_left graph row (way ++ w ∷ []) < steps_left graph row way
fewer_deeper graph row way w cycles edges below =
    let short = short_way graph way cycles edges below in
    let long : length (way ++ w ∷ []) ≡ length way + 1 = length_push way w in
    omega (arith, short, long)

pub fewer_settled : (graph : List (List ℕ)) (row : List Bool) (way : List ℕ) → 0 < length way → get_or row (last_of way) false ≡ false → last_of way < length row → length row ≡ length graph → steps_left graph (set row (last_of way) true) (take (length way - 1) way) < steps_left graph row way
fewer_settled graph row way some waits below marks =
    let v = last_of way in
    let less : waiting (set row v true) < waiting row = fewer_waiting row (set row v true) v (sym (length-set row v true)) (λ a m. mark_stays row v a below m) below waits (get_or-set_same row v true false below) in
    let p : waiting (set row v true) * (length graph + 2) + (length graph + 2) ≤ waiting row * (length graph + 2) = product_less (waiting (set row v true)) (waiting row) (length graph + 2) less in
    omega (arith, p)

-- ---- what is on the way is placed or stays there

pub keeps_settled : (row : List Bool) (way : List ℕ) (v : ℕ) → 0 < length way → last_of way < length row → IsIn way v → IsMarked (set row (last_of way) true) v ⊎ IsIn (take (length way - 1) way) v
keeps_settled row way v some below i =
    let e : length way - 1 + 1 ≡ length way = omega arith in
    let whole : take (length way - 1 + 1) way ≡ way = ap (λ u. take u way) e ∙ take_all (length way) way (omega arith) in
    ⊎_elim (λ (f : IsIn (take (length way - 1) way) v). inr f) (λ (l : last_of way ≡ v). inl (subst (λ u. IsMarked (set row (last_of way) true) u) l (get_or-set_same row (last_of way) true false below))) (front_more way (length way - 1) 0 v (omega arith) (subst (λ u. IsIn u v) (sym whole) i))

pub last_is : {A : Type 0} (way : Vec ℕ A) (len v : ℕ) → len ≡ way.len → 0 < length way.items → v ≡ get_or way.items (len - 1) v → v ≡ last_of way.items
last_is {A} way len v e some is =
    let n : len ≡ length way.items = e ∙ way.ok.0 in
    is ∙ get_or_default way.items (len - 1) v 0 (omega (arith, n)) ∙ ap (λ u. get_or way.items (u - 1) 0) n
