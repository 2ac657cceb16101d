-- What a search in depth over a graph keeps.
use Rattle.std.proofs.Common.{◌≡◌, ℕ, zero, suc, ◌+◌, ◌<◌, ◌≤◌, inl, inr, ⊎_elim, Bool, true, false, List, [], ◌∷◌, ◌++◌, reverse, length, get_or, set, take, Option, Some, None, slice_get, MatchOption, refl, sym, ap, ◌∙◌, arith, get_or-set_other, get_or-set_same, length-set}
use Rattle.std.proofs.Math.ListN.{get_or-eq_default}
use Rattle.std.proofs.lemmas.Bool.{cases_eq, cases_lt}
use Rattle.std.proofs.lemmas.List.{reverse-append}
use Rattle.std.proofs.lemmas.Option.{slice_get_within, get_or_from_slice_get, slice_get-get_or}
use Rattle.std.specs.Bool.{MatchBool}
use Rattle.p21_express.specs.declared.checks.graph.Mark.{Mark}
use Rattle.p21_express.specs.declared.checks.graph.Mark.TheVariants as mark
use Rattle.p21_express.specs.WellFormed.{IsIn, Leads, HasNoCycle}
use Rattle.p21_express.specs.Graph.{neighbors, HasEdge}
use Rattle.p21_express.specs.Search.{State, meet, finish, step_by, step, mark_of, IsWay, IsWholeWay, AreBehind, vertices_of, IsSearch, Reaches, IsSearchFrom, IsAtRest, IsAtEnd, IsBlank, IsWhole, new_left, steps_left}
use Rattle.p21_express.proofs.GraphLemmas.{one_more, none_more, get_in, leads_on}

-- ---- marks

at_set : (ms : List Mark) (v : ℕ) (m : Mark) → v < length ms → get_or (set ms v m) v mark.New ≡ m
at_set ms v m lt = get_or-set_same ms v m mark.New lt

at_other : (ms : List Mark) (v w : ℕ) (m : Mark) → (w ≡ v → ⊥) → get_or (set ms v m) w mark.New ≡ get_or ms w mark.New
at_other ms v w m ne = get_or-set_other ms v w m mark.New ne

is_new : (ms : List Mark) (w : ℕ) → length ms ≤ w → get_or ms w mark.New ≡ mark.New
is_new ms w h = get_or-eq_default ms mark.New h

stays_set : (ms : List Mark) (v w : ℕ) (m : Mark) → (m ≡ mark.New → ⊥) → (get_or ms w mark.New ≡ mark.New → ⊥) → get_or (set ms v m) w mark.New ≡ mark.New → ⊥
stays_set ms v w m n old new = ⊎_elim (λ (s : w ≡ v). ⊎_elim (λ (lt : v < length ms). n (sym (at_set ms v m lt) ∙ (rw s at new))) (λ (le : length ms ≤ v). old (is_new ms w (rw (sym s) at le))) (cases_lt v (length ms))) (λ (ne : w ≡ v → ⊥). old (sym (at_other ms v w m ne) ∙ new)) (cases_eq w v)

-- ---- the way

any_way : (g : List (List ℕ)) (c : Bool) (finished : List ℕ) (next : ℕ) (ps : List (ℕ × ℕ)) → IsWay g c finished next ps → IsWay g true finished next ps
any_way g c finished next [] h = tt
any_way g c finished next (p ∷ ps) h = (h.0, (λ (e : true ≡ false). absurd (cc)), any_way g c finished p.0 ps h.2)

longer_way : (g : List (List ℕ)) (c : Bool) (finished : List ℕ) (v next : ℕ) (ps : List (ℕ × ℕ)) → IsWay g c finished next ps → IsWay g c (v ∷ finished) next ps
longer_way g c finished v next [] h = tt
longer_way g c finished v next (p ∷ ps) h = (h.0, (λ (e : c ≡ false) (w : ℕ) (lt : w < length g) (i : IsIn (take p.1 (neighbors g p.0)) w). ⊎_elim (λ (f : IsIn finished w). inl (inr f)) (λ (n : w ≡ next). inr n) (h.1 e w lt i)), longer_way g c finished v p.0 ps h.2)

way_leads : (g : List (List ℕ)) (c : Bool) (finished : List ℕ) (next : ℕ) (ps : List (ℕ × ℕ)) (u : ℕ) → IsWay g c finished next ps → IsIn (vertices_of ps) u → Leads (HasEdge g) u next
way_leads g c finished next [] u h i = absurd i
way_leads g c finished next (p ∷ ps) u h i = ⊎_elim (λ (e : p.0 ≡ u). let P : ℕ → Type 0 = λ x. Leads (HasEdge g) x next in rw (sym e) (Leads.one h.0)) (λ (j : IsIn (vertices_of ps) u). leads_on (HasEdge g) (way_leads g c finished p.0 ps u h.2 j) h.0) i

-- the last vertex of the way is finished
shorter_way : (g : List (List ℕ)) (c : Bool) (finished : List ℕ) (v : ℕ) (ps : List (ℕ × ℕ)) → IsWay g c finished v ps → IsWholeWay g c (v ∷ finished) ps
shorter_way g c finished v [] h = tt
shorter_way g c finished v (p ∷ ps) h = ((λ (e : c ≡ false) (w : ℕ) (lt : w < length g) (i : IsIn (take p.1 (neighbors g p.0)) w). ⊎_elim (λ (f : IsIn finished w). inr f) (λ (n : w ≡ v). inl (sym n)) (h.1 e w lt i)), longer_way g c finished v p.0 ps h.2)

-- ---- steps that are left

stays_left : (ms : List Mark) (g : List (List ℕ)) (v : ℕ) → new_left (set ms v mark.Finished) g ≤ new_left ms g
stays_left [] g v = omega arith
stays_left (mark.New ∷ ms) [] zero = omega arith
stays_left (mark.New ∷ ms) (ns ∷ g) zero = omega arith
stays_left (mark.OnWay ∷ ms) [] zero = omega arith
stays_left (mark.OnWay ∷ ms) (ns ∷ g) zero = omega arith
stays_left (mark.Finished ∷ ms) [] zero = omega arith
stays_left (mark.Finished ∷ ms) (ns ∷ g) zero = omega arith
stays_left (mark.New ∷ ms) [] (suc v) = omega (arith, stays_left ms [] v)
stays_left (mark.New ∷ ms) (ns ∷ g) (suc v) = omega (arith, stays_left ms g v)
stays_left (mark.OnWay ∷ ms) [] (suc v) = stays_left ms [] v
stays_left (mark.OnWay ∷ ms) (ns ∷ g) (suc v) = stays_left ms g v
stays_left (mark.Finished ∷ ms) [] (suc v) = stays_left ms [] v
stays_left (mark.Finished ∷ ms) (ns ∷ g) (suc v) = stays_left ms g v

falls_left : (ms : List Mark) (g : List (List ℕ)) (v : ℕ) → slice_get ms v ≡ Some mark.New → new_left (set ms v mark.OnWay) g + (1 + length (neighbors g v)) ≡ new_left ms g
falls_left [] g v h = absurd (cc)
falls_left (mark.New ∷ ms) [] zero h = omega arith
falls_left (mark.New ∷ ms) (ns ∷ g) zero h = omega arith
falls_left (mark.OnWay ∷ ms) g zero h = absurd (cc)
falls_left (mark.Finished ∷ ms) g zero h = absurd (cc)
falls_left (mark.New ∷ ms) [] (suc v) h = omega (arith, falls_left ms [] v h)
falls_left (mark.New ∷ ms) (ns ∷ g) (suc v) h = omega (arith, falls_left ms g v h)
falls_left (mark.OnWay ∷ ms) [] (suc v) h = falls_left ms [] v h
falls_left (mark.OnWay ∷ ms) (ns ∷ g) (suc v) h = falls_left ms g v h
falls_left (mark.Finished ∷ ms) [] (suc v) h = falls_left ms [] v h
falls_left (mark.Finished ∷ ms) (ns ∷ g) (suc v) h = falls_left ms g v h

module _ (g : List (List ℕ)) (ms : List Mark) (rest : List (ℕ × ℕ)) (finished : List ℕ) (c : Bool) (v taken : ℕ) where
  -- before the last vertex was taken from the way, and after it
  abbrev pub whole : State
  whole = record { marks = ms; way = (v, taken) ∷ rest; finished = finished; is_cyclic = c }

  abbrev pub popped : State
  popped = record { marks = ms; way = rest; finished = finished; is_cyclic = c }

  abbrev pub taken_one : State
  taken_one = record { marks = ms; way = (v, taken + 1) ∷ rest; finished = finished; is_cyclic = c }

  meet_falls : (o : Option Mark) (to : ℕ) → slice_get ms to ≡ o → taken < length (neighbors g v) → steps_left g (meet o to taken_one) < steps_left g whole
  meet_falls None to e lt = omega arith
  meet_falls (Some mark.New) to e lt = omega (arith, falls_left ms g to e)
  meet_falls (Some mark.OnWay) to e lt = omega arith
  meet_falls (Some mark.Finished) to e lt = omega arith

  step_by_falls : (o : Option ℕ) → slice_get (neighbors g v) taken ≡ o → steps_left g (step_by o v taken popped) < steps_left g whole
  step_by_falls None e = omega (arith, stays_left ms g v)
  step_by_falls (Some to) e = meet_falls (slice_get ms to) to refl (slice_get_within (neighbors g v) taken to e)

  pub step_falls : steps_left g (step g v taken popped) < steps_left g whole
  step_falls = step_by_falls (slice_get (neighbors g v) taken) refl

  -- ---- what a search knows

  module _ (h : IsSearch g whole) where
    abbrev OldTaken : Type 0
    OldTaken = c ≡ false → (w : ℕ) → w < length g → IsIn (take taken (neighbors g v)) w → IsIn finished w

    -- an edge to a vertex that is finished, or that is none
    taken_more : (to : ℕ) → slice_get (neighbors g v) taken ≡ Some to → (to < length g → IsIn finished to) → IsSearch g taken_one
    taken_more to e done = record {
      all = h.all;
      within = h.within;
      on_way = h.on_way;
      finished = h.finished;
      way = ((λ (cf : c ≡ false) (w : ℕ) (lt : w < length g) (i : IsIn (take (taken + 1) (neighbors g v)) w). ⊎_elim (λ (old : IsIn (take taken (neighbors g v)) w). h.way.0 cf w lt old) (λ (s : w ≡ to). let l : to < length g = rw (sym s) lt in rw s (done l)) (one_more (neighbors g v) taken to w e i)), h.way.1);
      behind = h.behind;
      cyclic = h.cyclic;
    }

    edge_to : (to : ℕ) → slice_get (neighbors g v) taken ≡ Some to → to < length g → HasEdge g v to
    edge_to to e lt = record { is_vertex = lt; listed = get_in (neighbors g v) taken to e }

    meet_keeps : (o : Option Mark) (to : ℕ) → slice_get ms to ≡ o → slice_get (neighbors g v) taken ≡ Some to → IsSearch g (meet o to taken_one)
    meet_keeps None to m e = taken_more to e (λ lt. let l : to < length ms = rw h.all lt in let s : slice_get ms to ≡ Some (get_or ms to mark.New) = slice_get-get_or ms to mark.New l in absurd (cc))
    meet_keeps (Some mark.Finished) to m e = taken_more to e (λ lt. h.finished to (get_or_from_slice_get ms to mark.Finished mark.New m))
    meet_keeps (Some mark.OnWay) to m e =
        let lt : to < length g = rw (sym h.all) (slice_get_within ms to mark.OnWay m) in
        let edge : HasEdge g v to = edge_to to e lt in
        let on : IsIn (vertices_of ((v, taken) ∷ rest)) to = h.on_way to (get_or_from_slice_get ms to mark.OnWay mark.New m) in
        let cycle : Leads (HasEdge g) to to = ⊎_elim (λ (s : v ≡ to). Leads.one (rw s at edge)) (λ (i : IsIn (vertices_of rest) to). leads_on (HasEdge g) (way_leads g c finished v rest to h.way.1 i) edge) on in
        record {
          all = h.all;
          within = h.within;
          on_way = h.on_way;
          finished = h.finished;
          way = ((λ (e : true ≡ false). absurd (cc)), any_way g c finished v rest h.way.1);
          behind = (λ (e : true ≡ false). absurd (cc));
          cyclic = λ _. (to, cycle);
        }
    meet_keeps (Some mark.New) to m e =
        let l : to < length ms = slice_get_within ms to mark.New m in
        let lt : to < length g = rw (sym h.all) l in
        record {
          all = length-set ms to mark.OnWay ∙ h.all;
          within = λ w i. ⊎_elim (λ (s : to ≡ w). rw (sym s) lt) (λ (j : IsIn (vertices_of ((v, taken) ∷ rest)) w). h.within w j) i;
          on_way = λ w e. ⊎_elim (λ (s : w ≡ to). inl (sym s)) (λ (ne : w ≡ to → ⊥). inr (h.on_way w (sym (at_other ms to w mark.OnWay ne) ∙ e))) (cases_eq w to);
          finished = λ w e. ⊎_elim (λ (s : w ≡ to). let a : get_or (set ms to mark.OnWay) w mark.New ≡ mark.OnWay = rw s (at_set ms to mark.OnWay l) in absurd (cc)) (λ (ne : w ≡ to → ⊥). h.finished w (sym (at_other ms to w mark.OnWay ne) ∙ e)) (cases_eq w to);
          way = ((λ (cf : c ≡ false) (w : ℕ) (lt : w < length g) (i : IsIn [] w). absurd i), (edge_to to e lt, (λ (cf : c ≡ false) (w : ℕ) (lt : w < length g) (i : IsIn (take (taken + 1) (neighbors g v)) w). ⊎_elim (λ (old : IsIn (take taken (neighbors g v)) w). inl (h.way.0 cf w lt old)) (λ (s : w ≡ to). inr s) (one_more (neighbors g v) taken to w e i)), h.way.1));
          behind = h.behind;
          cyclic = h.cyclic;
        }

    finish_keeps : slice_get (neighbors g v) taken ≡ None → IsSearch g (finish v popped)
    finish_keeps e =
        let l : v < length ms = rw h.all (h.within v (inl refl)) in
        record {
          all = length-set ms v mark.Finished ∙ h.all;
          within = λ w i. h.within w (inr i);
          on_way = λ w e. ⊎_elim (λ (s : w ≡ v). let a : get_or (set ms v mark.Finished) w mark.New ≡ mark.Finished = rw s (at_set ms v mark.Finished l) in absurd (cc)) (λ (ne : w ≡ v → ⊥). ⊎_elim (λ (s : v ≡ w). absurd (ne (sym s))) (λ (i : IsIn (vertices_of rest) w). i) (h.on_way w (sym (at_other ms v w mark.Finished ne) ∙ e))) (cases_eq w v);
          finished = λ w e. ⊎_elim (λ (s : w ≡ v). inl (sym s)) (λ (ne : w ≡ v → ⊥). inr (h.finished w (sym (at_other ms v w mark.Finished ne) ∙ e))) (cases_eq w v);
          way = shorter_way g c finished v rest h.way.1;
          behind = λ cf. ((λ (w : ℕ) (edge : HasEdge g v w). h.way.0 cf w edge.is_vertex (none_more (neighbors g v) taken w e edge.listed)), h.behind cf);
          cyclic = h.cyclic;
        }

    step_by_keeps : (o : Option ℕ) → slice_get (neighbors g v) taken ≡ o → IsSearch g (step_by o v taken popped)
    step_by_keeps None e = finish_keeps e
    step_by_keeps (Some to) e = meet_keeps (slice_get ms to) to refl e

    pub step_keeps : IsSearch g (step g v taken popped)
    step_keeps = step_by_keeps (slice_get (neighbors g v) taken) refl

  -- ---- a search from a vertex

  module _ (start : ℕ) (old : State) (h : IsSearchFrom g start old whole) where
    goes_on : (to : ℕ) → HasEdge g v to → Reaches g start to
    goes_on to edge = ⊎_elim (λ (e : start ≡ v). inr (Leads.one (rw (sym e) at edge))) (λ (l : Leads (HasEdge g) start v). inr (leads_on (HasEdge g) l edge)) (h.on_way v (inl refl))

    meet_from : (o : Option Mark) (to : ℕ) → slice_get ms to ≡ o → slice_get (neighbors g v) taken ≡ Some to → IsSearchFrom g start old (meet o to taken_one)
    meet_from None to m e = record { search = meet_keeps h.search None to m e; newly = h.newly; finished_is = h.finished_is; reached = h.reached; on_way = h.on_way; marked = h.marked; stays = h.stays }
    meet_from (Some mark.OnWay) to m e = record { search = meet_keeps h.search (Some mark.OnWay) to m e; newly = h.newly; finished_is = h.finished_is; reached = h.reached; on_way = h.on_way; marked = h.marked; stays = h.stays }
    meet_from (Some mark.Finished) to m e = record { search = meet_keeps h.search (Some mark.Finished) to m e; newly = h.newly; finished_is = h.finished_is; reached = h.reached; on_way = h.on_way; marked = h.marked; stays = h.stays }
    meet_from (Some mark.New) to m e =
        let lt : to < length g = rw (sym h.search.all) (slice_get_within ms to mark.New m) in
        record {
          search = meet_keeps h.search (Some mark.New) to m e;
          newly = h.newly;
          finished_is = h.finished_is;
          reached = h.reached;
          on_way = λ w i. ⊎_elim (λ (s : to ≡ w). rw (sym s) (goes_on to (edge_to h.search to e lt))) (λ (j : IsIn (vertices_of ((v, taken) ∷ rest)) w). h.on_way w j) i;
          marked = λ l. stays_set ms to start mark.OnWay (λ (q : mark.OnWay ≡ mark.New). cc) (h.marked l);
          stays = λ w n. stays_set ms to w mark.OnWay (λ (q : mark.OnWay ≡ mark.New). cc) (h.stays w n);
        }

    finish_from : slice_get (neighbors g v) taken ≡ None → IsSearchFrom g start old (finish v popped)
    finish_from e = record {
      search = finish_keeps h.search e;
      newly = v ∷ h.newly;
      finished_is = ap (λ (xs : List ℕ). v ∷ xs) h.finished_is;
      reached = λ w i. ⊎_elim (λ (s : v ≡ w). rw (sym s) (h.on_way v (inl refl))) (λ (j : IsIn h.newly w). h.reached w j) i;
      on_way = λ w i. h.on_way w (inr i);
      marked = λ l. stays_set ms v start mark.Finished (λ (q : mark.Finished ≡ mark.New). cc) (h.marked l);
      stays = λ w n. stays_set ms v w mark.Finished (λ (q : mark.Finished ≡ mark.New). cc) (h.stays w n);
    }

    step_by_from : (o : Option ℕ) → slice_get (neighbors g v) taken ≡ o → IsSearchFrom g start old (step_by o v taken popped)
    step_by_from None e = finish_from e
    step_by_from (Some to) e = meet_from (slice_get ms to) to refl e

    pub step_from : IsSearchFrom g start old (step g v taken popped)
    step_from = step_by_from (slice_get (neighbors g v) taken) refl

-- ---- turns of the loop

abbrev state : List Mark → List (ℕ × ℕ) → List ℕ → Bool → State
state ms way finished c = record { marks = ms; way = way; finished = finished; is_cyclic = c }

pub turn_falls : (g : List (List ℕ)) (ms : List Mark) (xs ys : List (ℕ × ℕ)) (finished : List ℕ) (c : Bool) (v taken : ℕ) (t : State) → xs ≡ ys ++ (v, taken) ∷ [] → t ≡ step g v taken (state ms (reverse ys) finished c) → steps_left g t < steps_left g (state ms (reverse xs) finished c)
turn_falls g ms xs ys finished c v taken t e s = rw (e, s, reverse-append ys ((v, taken) ∷ [])) (step_falls g ms (reverse ys) finished c v taken)

pub turn_keeps : (g : List (List ℕ)) (ms : List Mark) (xs ys : List (ℕ × ℕ)) (finished : List ℕ) (c : Bool) (v taken : ℕ) (t : State) → xs ≡ ys ++ (v, taken) ∷ [] → t ≡ step g v taken (state ms (reverse ys) finished c) → (start : ℕ) (old : State) → IsSearchFrom g start old (state ms (reverse xs) finished c) → IsSearchFrom g start old t
turn_keeps g ms xs ys finished c v taken t e s start old h = rw s (step_from g ms (reverse ys) finished c v taken start old (rw (e, reverse-append ys ((v, taken) ∷ [])) at h))

pub none_given : {X : Type 0} (r : Option X) (P : Type 0) (Q : X → Type 0) → ((x : X) → r ≡ Some x → ⊥) → MatchOption r P Q → P
none_given None P Q n h = h
none_given (Some x) P Q n h = absurd (n x refl)

pub is_empty : {X : Type 0} (xs : List X) → length xs ≡ 0 → xs ≡ []
is_empty [] h = refl
is_empty (x ∷ xs) h = absurd (omega (arith, h))

-- nothing was left to take from the way
pub turns_end : (g : List (List ℕ)) (ms : List Mark) (xs ys : List (ℕ × ℕ)) (finished : List ℕ) (c : Bool) (n m : ℕ) (r : Option (ℕ × ℕ)) → n ≡ length xs → m ≡ length ys → ((p : ℕ × ℕ) → r ≡ Some p → ⊥) → MatchOption r ((n ≡ 0) × (m ≡ 0)) (λ _. m + 1 ≡ n) → (start : ℕ) (old : State) → IsSearchFrom g start old (state ms (reverse xs) finished c) → IsAtEnd g start old (state ms (reverse ys) finished c)
turns_end g ms xs ys finished c n m r en em not_some cases start old h =
    let z : (n ≡ 0) × (m ≡ 0) = none_given r ((n ≡ 0) × (m ≡ 0)) (λ (p : ℕ × ℕ). m + 1 ≡ n) not_some cases in
    let ex : xs ≡ [] = is_empty xs (sym en ∙ z.0) in
    let ey : ys ≡ [] = is_empty ys (sym em ∙ z.1) in
    let k : IsSearchFrom g start old (state ms [] finished c) = rw ex at h in
    rw ey (record { search = k; ended = refl })

-- ---- the first vertex of a search

module _ (g : List (List ℕ)) (v : ℕ) (ms : List Mark) (finished : List ℕ) (c : Bool) (h : IsSearch g (state ms [] finished c)) where
  meets : (o : Option Mark) → slice_get ms v ≡ o → IsSearchFrom g v (state ms [] finished c) (meet o v (state ms [] finished c))
  meets None m = record {
    search = h;
    newly = [];
    finished_is = refl;
    reached = λ w i. absurd i;
    on_way = λ w i. absurd i;
    marked = λ lt. let l : v < length ms = rw h.all lt in let s : slice_get ms v ≡ Some (get_or ms v mark.New) = slice_get-get_or ms v mark.New l in absurd (cc);
    stays = λ w n. n;
  }
  meets (Some mark.Finished) m = record {
    search = h;
    newly = [];
    finished_is = refl;
    reached = λ w i. absurd i;
    on_way = λ w i. absurd i;
    marked = λ lt n. let s : get_or ms v mark.New ≡ mark.Finished = get_or_from_slice_get ms v mark.Finished mark.New m in cc;
    stays = λ w n. n;
  }
  meets (Some mark.OnWay) m = absurd (h.on_way v (get_or_from_slice_get ms v mark.OnWay mark.New m))
  meets (Some mark.New) m =
      let l : v < length ms = slice_get_within ms v mark.New m in
      let lt : v < length g = rw (sym h.all) l in
      record {
        search = record {
          all = length-set ms v mark.OnWay ∙ h.all;
          within = λ w i. ⊎_elim (λ (s : v ≡ w). rw (sym s) lt) (λ (j : IsIn [] w). absurd j) i;
          on_way = λ w e. ⊎_elim (λ (s : w ≡ v). inl (sym s)) (λ (ne : w ≡ v → ⊥). absurd (h.on_way w (sym (at_other ms v w mark.OnWay ne) ∙ e))) (cases_eq w v);
          finished = λ w e. ⊎_elim (λ (s : w ≡ v). let a : get_or (set ms v mark.OnWay) w mark.New ≡ mark.OnWay = rw s (at_set ms v mark.OnWay l) in absurd (cc)) (λ (ne : w ≡ v → ⊥). h.finished w (sym (at_other ms v w mark.OnWay ne) ∙ e)) (cases_eq w v);
          way = ((λ (cf : c ≡ false) (w : ℕ) (lt : w < length g) (i : IsIn [] w). absurd i), tt);
          behind = h.behind;
          cyclic = h.cyclic;
        };
        newly = [];
        finished_is = refl;
        reached = λ w i. absurd i;
        on_way = λ w i. ⊎_elim (λ (s : v ≡ w). inl s) (λ (j : IsIn [] w). absurd j) i;
        marked = λ lt n. let s : get_or (set ms v mark.OnWay) v mark.New ≡ mark.OnWay = at_set ms v mark.OnWay l in cc;
        stays = λ w n. stays_set ms v w mark.OnWay (λ (q : mark.OnWay ≡ mark.New). cc) n;
      }

pub begins : (g : List (List ℕ)) (v : ℕ) (s : State) → IsAtRest g s → IsSearchFrom g v s (meet (slice_get s.marks v) v s)
begins g v s h = let e : s.way ≡ [] = h.ended in let whole : s ≡ state s.marks [] s.finished s.is_cyclic = ap (λ (way : List (ℕ × ℕ)). state s.marks way s.finished s.is_cyclic) e in rw whole (meets g v s.marks s.finished s.is_cyclic (rw whole at h.search) (slice_get s.marks v) refl)

-- ---- what a search comes to

finished_by : (g : List (List ℕ)) (s : State) (v : ℕ) (m : Mark) → IsAtRest g s → mark_of s v ≡ m → (m ≡ mark.New → ⊥) → IsIn s.finished v
finished_by g s v mark.New h e n = absurd (n refl)
finished_by g s v mark.Finished h e n = h.search.finished v e
finished_by g s v mark.OnWay h e n = let i : IsIn (vertices_of s.way) v = h.search.on_way v e in absurd (rw h.ended at i)

pub is_finished : (g : List (List ℕ)) (s : State) (v : ℕ) → IsAtRest g s → (mark_of s v ≡ mark.New → ⊥) → IsIn s.finished v
is_finished g s v h n = finished_by g s v (mark_of s v) h refl n

pub rests : (g : List (List ℕ)) (v : ℕ) (old s : State) → IsAtEnd g v old s → IsAtRest g s
rests g v old s h = record { search = h.search.search; ended = h.ended }

pub blank_rests : (g : List (List ℕ)) (s : State) → IsBlank g s → IsAtRest g s
blank_rests g s h = record {
  search = record {
    all = h.all;
    within = λ v i. absurd (rw h.way at i);
    on_way = λ v e. let n : mark_of s v ≡ mark.New = h.marks v in absurd (cc);
    finished = λ v e. let n : mark_of s v ≡ mark.New = h.marks v in absurd (cc);
    way = rw h.way tt;
    behind = λ e. rw h.finished tt;
    cyclic = λ e. let f : s.is_cyclic ≡ false = h.acyclic in absurd (cc);
  };
  ended = h.way;
}

closed : (g : List (List ℕ)) (vs : List ℕ) (u w : ℕ) → AreBehind g vs → IsIn vs u → HasEdge g u w → IsIn vs w
closed g [] u w h i edge = absurd i
closed g (v ∷ vs) u w h i edge = ⊎_elim (λ (e : v ≡ u). inr (h.0 w (rw (sym e) at edge))) (λ (j : IsIn vs u). inr (closed g vs u w h.1 j edge)) i

closed_on : (g : List (List ℕ)) (vs : List ℕ) {u w : ℕ} → AreBehind g vs → Leads (HasEdge g) u w → IsIn vs u → IsIn vs w
closed_on g vs {u} {w} h (Leads.one s) i = closed g vs u w h i s
closed_on g vs h (Leads.more s l) i = closed_on g vs h l (closed g vs _ _ h i s)

first_step : (g : List (List ℕ)) (v : ℕ) (vs : List ℕ) {u w : ℕ} → ((x : ℕ) → HasEdge g v x → IsIn vs x) → AreBehind g vs → v ≡ u → Leads (HasEdge g) u w → IsIn vs w
first_step g v vs {u} {w} edges h e (Leads.one s) = edges w (rw (sym e) at s)
first_step g v vs {u} {w} edges h e (Leads.more s l) = closed_on g vs h l (edges _ (rw (sym e) at s))

no_cycle_in : (g : List (List ℕ)) (vs : List ℕ) (u : ℕ) → AreBehind g vs → IsIn vs u → Leads (HasEdge g) u u → ⊥
no_cycle_in g [] u h i l = absurd i
no_cycle_in g (v ∷ vs) u h i l = no_cycle_in g vs u h.1 (⊎_elim (λ (e : v ≡ u). first_step g v vs h.0 h.1 e l) (λ (j : IsIn vs u). j) i) l

pub ends_in : (g : List (List ℕ)) {u w : ℕ} → Leads (HasEdge g) u w → w < length g
ends_in g (Leads.one s) = s.is_vertex
ends_in g (Leads.more s l) = ends_in g l

-- what a search of all vertices says
pub is_acyclic : (g : List (List ℕ)) (s : State) → IsWhole g s → s.is_cyclic ≡ false → HasNoCycle (HasEdge g)
is_acyclic g s h e = λ v l. no_cycle_in g s.finished v (h.search.behind e) (h.finished v (ends_in g l)) l

pub has_cycle : (g : List (List ℕ)) (s : State) → IsWhole g s → s.is_cyclic ≡ true → ¬ (HasNoCycle (HasEdge g))
has_cycle g s h e = λ acyclic. let found = h.search.cyclic e in acyclic found.0 found.1

decided_by : (g : List (List ℕ)) (s : State) (b : Bool) → IsWhole g s → s.is_cyclic ≡ b → MatchBool b (¬ (HasNoCycle (HasEdge g))) (HasNoCycle (HasEdge g))
decided_by g s true h e = has_cycle g s h e
decided_by g s false h e = is_acyclic g s h e

pub decided : (g : List (List ℕ)) (s : State) → IsWhole g s → MatchBool s.is_cyclic (¬ (HasNoCycle (HasEdge g))) (HasNoCycle (HasEdge g))
decided g s h = decided_by g s s.is_cyclic h refl
