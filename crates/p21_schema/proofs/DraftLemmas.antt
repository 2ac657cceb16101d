-- A row that is made.
use Rattle.std.proofs.Common.{◌≡◌, ℕ, zero, suc, ◌+◌, ◌-◌, ◌<◌, ◌≤◌, Option, Bool, true, false, nat_eq, ◌||◌, List, [], ◌∷◌, ◌++◌, length, get_or, set, take, refl, sym, ap, ◌∙◌, subst, ⊎_elim, arith, inl, inr, add-zero, append_assoc}
use Rattle.std.specs.List.{list_any}
use Rattle.std.proofs.lemmas.Bool.{cases_Bool, cases_eq, false≢true, eqb-true, eq-eqb, ne_eqb}
use Rattle.std.proofs.lemmas.List.{length-set, get_or-set_same, get_or-set_other, take_more, append-nil}
use Rattle.std.proofs.lemmas.List.Folds.{list_any-append}
use Rattle.p21_express.specs.WellFormed.{IsIn, AreDistinct}
use Rattle.p21_graph.specs.MemberLaws.{in_either, distinct_apart, distinct_push}
use Rattle.p21_schema.specs.declared.draft.Draft.{Draft}
use Rattle.p21_schema.specs.declared.ids.AttrId.{AttrId}
use Rattle.p21_schema.specs.Draft.{AreMarks, IsDraft, IsMade}
use Rattle.p21_schema.specs.RowTable.{same_id, kept, all_kept, ids_from, joined, row_of, BeginsWithFirst}

either_true : (b : Bool) → (b || true) ≡ true
either_true true = refl
either_true false = refl

either_false : (b : Bool) → (b || false) ≡ b
either_false true = refl
either_false false = refl

-- an attribute that is put after the others has the mark of the row
put_marks : (marks : List ℕ) (number : ℕ) (row : List AttrId) (a : AttrId) → AreMarks marks number row → a.index < length marks → AreMarks (set marks a.index number) number (row ++ a ∷ [])
put_marks marks number row a h less = record {
  marked = λ b below.
      let all = list_any-append (λ c. same_id c b) row (a ∷ []) in
      ⊎_elim
      (λ (e : b.index ≡ a.index).
      let first : get_or (set marks a.index number) b.index 0 ≡ number = ap (λ (k : ℕ). get_or (set marks a.index number) k 0) e ∙ get_or-set_same marks a.index number 0 less in
      let same : same_id a b ≡ true = eq-eqb a.index b.index (sym e) in
      eq-eqb _ _ first ∙ sym (all ∙ ap (λ (u : Bool). list_any (λ c. same_id c b) row || (u || false)) same ∙ either_true (list_any (λ c. same_id c b) row)))
      (λ (ne : (b.index ≡ a.index) → ⊥).
      let below' : b.index < length marks = subst (λ u. b.index < u) (length-set marks a.index number) below in
      let other : same_id a b ≡ false = ne_eqb a.index b.index (λ e. ne (sym e)) in
      ap (λ (k : ℕ). nat_eq k number) (get_or-set_other marks a.index b.index number 0 ne) ∙ h.marked b below' ∙ sym (all ∙ ap (λ (u : Bool). list_any (λ c. same_id c b) row || (u || false)) other ∙ either_false (list_any (λ c. same_id c b) row)))
      (cases_eq b.index a.index);
  known = λ b i. subst (λ u. b.index < u) (sym (length-set marks a.index number)) (⊎_elim (λ (l : IsIn row b). h.known b l) (λ (r : IsIn (a ∷ []) b). ⊎_elim (λ (e : a ≡ b). subst (λ (u : AttrId). u.index < length marks) e less) (λ (n : ⊥). absurd n) r) (in_either row (a ∷ []) b i));
  upto = λ k. ⊎_elim
      (λ (e : k ≡ a.index). let is : get_or (set marks a.index number) k 0 ≡ number = ap (λ (k : ℕ). get_or (set marks a.index number) k 0) e ∙ get_or-set_same marks a.index number 0 less in omega (arith, is))
      (λ (ne : (k ≡ a.index) → ⊥). subst (λ u. u ≤ number) (sym (get_or-set_other marks a.index k number 0 ne)) (h.upto k))
      (cases_eq k a.index);
}

module _ (old new : Draft) (a : AttrId) (h : IsDraft old) (less : a.index < length old.marks.items) where
  pub put_made : ¬ (get_or old.marks.items a.index 0 ≡ old.number) → new.ids.items ≡ old.ids.items ++ a ∷ [] → new.marks.items ≡ set old.marks.items a.index old.number → new.number ≡ old.number → IsMade (length old.marks.items) old.number (kept old.ids.items a) new
  put_made ne ids marks number =
      let out : list_any (λ b. same_id b a) old.ids.items ≡ false = sym (h.marked a less) ∙ ne_eqb _ _ ne in
      rw out (record {
        marks = subst (λ (u : List ℕ). AreMarks u old.number (old.ids.items ++ a ∷ [])) (sym marks) (put_marks old.marks.items old.number old.ids.items a h less);
        ids = ids;
        numbered = number;
        count = ap length marks ∙ length-set old.marks.items a.index old.number;
      })

  pub left_made : get_or old.marks.items a.index 0 ≡ old.number → new.ids.items ≡ old.ids.items → new.marks.items ≡ old.marks.items → new.number ≡ old.number → IsMade (length old.marks.items) old.number (kept old.ids.items a) new
  left_made e ids marks number =
      let there : list_any (λ b. same_id b a) old.ids.items ≡ true = sym (h.marked a less) ∙ eq-eqb _ _ e in
      rw there (record {
        marks = subst (λ (u : List ℕ). AreMarks u old.number old.ids.items) (sym marks) h;
        ids = ids;
        numbered = number;
        count = ap length marks;
      })

pub all_kept_append : (r xs ys : List AttrId) → all_kept r (xs ++ ys) ≡ all_kept (all_kept r xs) ys
all_kept_append r [] ys = refl
all_kept_append r (x ∷ xs) ys = all_kept_append (kept r x) xs ys

pub kept_more : (r xs : List AttrId) (i : ℕ) (d : AttrId) → i < length xs → kept (all_kept r (take i xs)) (get_or xs i d) ≡ all_kept r (take (i + 1) xs)
kept_more r xs i d less = sym (all_kept_append r (take i xs) (get_or xs i d ∷ [])) ∙ ap (λ (u : List AttrId). all_kept r u) (sym (take_more xs i d less))

ids_push : (i n : ℕ) → ids_from i (suc n) ≡ ids_from i n ++ record { index = i + n } ∷ []
ids_push i zero = λ j. record { index = sym (add-zero i) j } ∷ []
ids_push i (suc n) =
    let ih = ids_push (suc i) n in
    let e : suc i + n ≡ i + suc n = omega arith in
    λ j. record { index = i } ∷ (ih ∙ ap (λ (u : ℕ). ids_from (suc i) n ++ record { index = u } ∷ []) e) j

pub own_more : (r : List AttrId) (from i : ℕ) → from ≤ i → kept (all_kept r (ids_from from (i - from))) (record { index = i }) ≡ all_kept r (ids_from from (i + 1 - from))
own_more r from i le =
    let a : from + (i - from) ≡ i = omega arith in
    let b : i + 1 - from ≡ suc (i - from) = omega arith in
    let c : ids_from from (i + 1 - from) ≡ ids_from from (i - from) ++ record { index = i } ∷ [] = ap (λ (u : ℕ). ids_from from u) b ∙ ids_push from (i - from) ∙ ap (λ (u : ℕ). ids_from from (i - from) ++ record { index = u } ∷ []) a in
    sym (all_kept_append r (ids_from from (i - from)) (record { index = i } ∷ [])) ∙ ap (λ (u : List AttrId). all_kept r u) (sym c)

-- what goes on from a row that is made
pub made_next : (size number : ℕ) (before after : List AttrId) (grown : List AttrId → List AttrId) (old new : Draft) → IsMade size number before old → IsMade (length old.marks.items) old.number (grown old.ids.items) new → grown before ≡ after → IsMade size number after new
made_next size number before after grown old new h this is =
    let row : grown old.ids.items ≡ after = ap grown h.ids ∙ is in
    record {
      marks = subst (λ (n : ℕ). AreMarks new.marks.items n after) h.numbered (subst (λ (u : List AttrId). AreMarks new.marks.items old.number u) row this.marks);
      ids = this.ids ∙ row;
      numbered = this.numbered ∙ h.numbered;
      count = this.count ∙ h.count;
    }

-- ---- several rows

pub joined_push : (row : ℕ → List AttrId) (es : List ℕ) (e : ℕ) → joined row (es ++ e ∷ []) ≡ joined row es ++ row e
joined_push row [] e = append-nil (row e)
joined_push row (x ∷ xs) e = ap (λ (u : List AttrId). row x ++ u) (joined_push row xs e) ∙ sym (append_assoc (row x) (joined row xs) (row e))

pub joined_more : (row : ℕ → List AttrId) (es : List ℕ) (i : ℕ) → i < length es → all_kept (all_kept [] (joined row (take i es))) (row (get_or es i 0)) ≡ all_kept [] (joined row (take (i + 1) es))
joined_more row es i less =
    sym (all_kept_append [] (joined row (take i es)) (row (get_or es i 0))) ∙ ap (λ (u : List AttrId). all_kept [] u) (sym (joined_push row (take i es) (get_or es i 0)) ∙ ap (λ (u : List ℕ). joined row u) (sym (take_more es i 0 less)))

-- ---- a row without repeats

any_in : (r : List AttrId) (x : AttrId) → list_any (λ b. same_id b x) r ≡ true → IsIn r x
any_in [] x h = absurd (false≢true h)
any_in (y ∷ ys) x h =
    ⊎_elim
    (λ (t : same_id y x ≡ true). inl (let e = eqb-true y.index x.index t in λ j. record { index = e j }))
    (λ (f : same_id y x ≡ false). inr (any_in ys x (rw f at h)))
    (cases_Bool (same_id y x))

in_any : (r : List AttrId) (x : AttrId) → IsIn r x → list_any (λ b. same_id b x) r ≡ true
in_any [] x i = absurd i
in_any (y ∷ ys) x (inl e) = let t : same_id y x ≡ true = eq-eqb y.index x.index (ap (λ (u : AttrId). u.index) e) in rw t refl
in_any (y ∷ ys) x (inr i) = ap (λ (b : Bool). same_id y x || b) (in_any ys x i) ∙ either_true (same_id y x)

-- what is new is put after the others
pub all_new : (r xs : List AttrId) → AreDistinct (r ++ xs) → all_kept r xs ≡ r ++ xs
all_new r [] d = sym (append-nil r)
all_new r (x ∷ xs) d =
    let d' : AreDistinct ((r ++ x ∷ []) ++ xs) = subst (λ (u : List AttrId). AreDistinct u) (sym (append_assoc r (x ∷ []) xs)) d in
    ⊎_elim
    (λ (t : list_any (λ b. same_id b x) r ≡ true). absurd (distinct_apart r (x ∷ xs) x d (any_in r x t) (inl refl)))
    (λ (f : list_any (λ b. same_id b x) r ≡ false). rw f (all_new (r ++ x ∷ []) xs d' ∙ append_assoc r (x ∷ []) xs))
    (cases_Bool (list_any (λ b. same_id b x) r))

pub kept_distinct : (r xs : List AttrId) → AreDistinct r → AreDistinct (all_kept r xs)
kept_distinct r [] d = d
kept_distinct r (x ∷ xs) d =
    ⊎_elim
    (λ (t : list_any (λ b. same_id b x) r ≡ true). rw t (kept_distinct r xs d))
    (λ (f : list_any (λ b. same_id b x) r ≡ false). rw f (kept_distinct (r ++ x ∷ []) xs (distinct_push r x d (λ i. false≢true (sym f ∙ in_any r x i)))))
    (cases_Bool (list_any (λ b. same_id b x) r))

-- a row to which attributes are put is the front of what they make
grows : (r xs : List AttrId) → (rest : List AttrId) × (all_kept r xs ≡ r ++ rest)
grows r [] = ([], sym (append-nil r))
grows r (x ∷ xs) =
    ⊎_elim
    (λ (t : list_any (λ b. same_id b x) r ≡ true). rw t (grows r xs))
    (λ (f : list_any (λ b. same_id b x) r ≡ false). let h = grows (r ++ x ∷ []) xs in rw f (x ∷ h.0, h.1 ∙ append_assoc r (x ∷ []) h.0))
    (cases_Bool (list_any (λ b. same_id b x) r))

pub begins_with_first : (all : List (List AttrId)) (es : List ℕ) (own : List AttrId) → ((e : ℕ) → AreDistinct (row_of all e)) → BeginsWithFirst all es (all_kept [] (joined (row_of all) es ++ own))
begins_with_first all [] own d e h = absurd cc
begins_with_first all (x ∷ xs) own d e h =
    let same : x ≡ e = cc in
    let more = joined (row_of all) xs ++ own in
    let g = grows (row_of all x) more in
    (g.0, ap (λ (u : List AttrId). all_kept [] u) (append_assoc (row_of all x) (joined (row_of all) xs) own) ∙ all_kept_append [] (row_of all x) more ∙ ap (λ (u : List AttrId). all_kept u more) (all_new [] (row_of all x) (d x)) ∙ g.1 ∙ ap (λ (k : ℕ). row_of all k ++ g.0) same)

-- ---- a row that goes on from another

-- the row of one entity, and attributes after it
pub goes_on : (all : List (List AttrId)) (e : ℕ) (own : List AttrId) → AreDistinct (row_of all e) → all_kept (row_of all e) own ≡ all_kept [] (joined (row_of all) (e ∷ []) ++ own)
goes_on all e own d =
    ap (λ (u : List AttrId). all_kept u own) (sym (all_new [] (row_of all e) d)) ∙ sym (all_kept_append [] (row_of all e) own) ∙ ap (λ (u : List AttrId). all_kept [] (u ++ own)) (sym (append-nil (row_of all e)))

-- what is made is made under the number that it has, whatever it is of
pub made_of : (size number : ℕ) (row : List AttrId) (d : Draft) (of : Option ℕ) → IsMade size number row d → IsMade size d.number row (record { ids = d.ids; marks = d.marks; number = d.number; of = of })
made_of size number row d of h = record {
  marks = subst (λ (n : ℕ). AreMarks d.marks.items n row) (sym h.numbered) h.marks;
  ids = h.ids;
  numbered = refl;
  count = h.count;
}
