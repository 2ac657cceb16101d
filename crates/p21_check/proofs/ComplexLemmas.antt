-- What a complex instance has, by its records.
use Rattle.std.proofs.Common.{◌≡◌, ◌≢◌, ◌⊎◌, ◌↔◌, ⊎_elim, inl, inr, ℕ, zero, suc, ◌+◌, ◌<◌, ◌≤◌, true, List, [], ◌∷◌, Some, map, length, get_or, take, refl, sym, ap, subst, ◌∙◌, arith, Bool}
use Rattle.std.specs.Prelude.{slice_get}
use Rattle.std.proofs.lemmas.Bool.{false≢true}
use Rattle.p21_express.specs.Schema.{Schema, Entity}
use Rattle.p21_express.specs.WellFormed.{IsIn, IsEntity, IsSupertype, IsWellFormed}
use Rattle.p21_tree.specs.Grammar.{Entry}
use Rattle.p21_tree.specs.Views.{plain_record}
use Rattle.p21_tree.specs.declared.instances.Record.{Record}
use Rattle.p21_schema.specs.declared.ids.EntityId.{EntityId}
use Rattle.p21_schema.specs.Ancestry.{NameEntities}
use Rattle.p21_check.proofs.AnyLemmas.{any_taken}
use Rattle.p21_schema.specs.Place.{entity_at, entity_name, IsEntityOf}
use Rattle.p21_check.specs.EntitySet.{IsInSet, keywords}
use Rattle.p21_check.specs.EntitySet as sets
use Rattle.p21_check.specs.LocalFault.{IsAbstract, HasUnknownEntity, HasAbstractEntity, IsBadComplex, NamesTwice, LacksSupertype, LacksSubtype}
use Rattle.p21_check.specs.declared.entity_set.EntitySet.{EntitySet}
use Rattle.p21_check.specs.Sets.{HasEntity, IsSetOfRecords, AreMarksOfRecords, keywords_of, AnyIn, EachIn}
use Rattle.p21_check.specs.Marks.{AreAdded, IsMarked}
use Rattle.p21_check.proofs.MarkLemmas.{in_one}
use Rattle.p21_tree.specs.Plain.{plain_all}
use Rattle.p21_express.specs.WellFormed.{Origin}
use Rattle.p21_check.specs.Attributes.{AreAttributes}
use Rattle.p21_check.specs.LocalFault.{HasWrongCount, HasBadAttribute, HasRepeatedReference}
use Rattle.p21_check.proofs.DistinctLemmas.{repeated_at, repeating_at, repeating_along}
use Rattle.p21_check.proofs.InstanceLemmas.{wrong_at, not_wrong_at, bad_at, unfit_at, unfit_along}
use Rattle.p21_check.specs.Instances.{complex_instance, IsUnfitAt, IsRepeatingAt, NamesEntity, IsUnknown, LacksAbove, IsSubtypeRecord, LacksBelow, IsNamedBefore, AreMarksAbove}
use Rattle.p21_check.proofs.TypeLemmas.{in_map}
use Rattle.p21_check.proofs.ElementLemmas.{count_all}
use Rattle.p21_check.proofs.AttributeLemmas.{one_entity, entity_there}

pub at_index : {X : Type 0} (xs : List X) (i : ℕ) (d : X) → i < length xs → IsIn xs (get_or xs i d)
at_index [] i d h = absurd (omega arith)
at_index (x ∷ xs) zero d h = inl refl
at_index (x ∷ xs) (suc i) d h = inr (at_index xs i d (omega arith))

out_of_map : {X : Type 0} (f : X → List ℕ) (xs : List X) (n : List ℕ) → IsIn (map f xs) n → (x : X) × IsIn xs x × (f x ≡ n)
out_of_map f [] n h = absurd h
out_of_map f (y ∷ xs) n h =
    ⊎_elim (λ (e : f y ≡ n). (y, inl refl, e)) (λ (k : IsIn (map f xs) n). let more = out_of_map f xs n k in (more.0, inr more.1, more.2)) h

written : (rs : List Record) → map (λ (e : Entry). e.keyword) (map plain_record rs) ≡ keywords_of rs
written [] = refl
written (r ∷ rs) = ap (λ l. r.keyword.now ∷ l) (written rs)

pub record_at : (rs : List Record) (k : ℕ) (d : Record) → k < length rs → slice_get (map plain_record rs) k ≡ Some (plain_record (get_or rs k d))
record_at [] k d h = absurd (omega arith)
record_at (r ∷ rs) zero d h = refl
record_at (r ∷ rs) (suc k) d h = record_at rs k d (omega arith)

pub record_below : (rs : List Record) (k : ℕ) (e : Entry) → slice_get (map plain_record rs) k ≡ Some e → k < length rs
record_below [] k e h = absurd (cc)
record_below (r ∷ rs) zero e h = omega arith
record_below (r ∷ rs) (suc k) e h = let more = record_below rs k e h in omega arith

keyword_at : (rs : List Record) (k : ℕ) (d : Record) → k < length rs → slice_get (keywords_of rs) k ≡ Some (get_or rs k d).keyword.now
keyword_at [] k d h = absurd (omega arith)
keyword_at (r ∷ rs) zero d h = refl
keyword_at (r ∷ rs) (suc k) d h = keyword_at rs k d (omega arith)

keyword_below : (rs : List Record) (k : ℕ) (n : List ℕ) → slice_get (keywords_of rs) k ≡ Some n → k < length rs
keyword_below [] k n h = absurd (cc)
keyword_below (r ∷ rs) zero n h = omega arith
keyword_below (r ∷ rs) (suc k) n h = let more = keyword_below rs k n h in omega arith

-- a keyword among the first ones has a place there
placed : (rs : List Record) (k : ℕ) (n : List ℕ) → IsIn (keywords_of (take k rs)) n → (i : ℕ) × (i < k) × (slice_get (keywords_of rs) i ≡ Some n)
placed [] zero n h = absurd h
placed [] (suc k) n h = absurd h
placed (r ∷ rs) zero n h = absurd h
placed (r ∷ rs) (suc k) n h =
    ⊎_elim
    (λ (e : r.keyword.now ≡ n). (zero, omega arith, ap Some e))
    (λ (j : IsIn (keywords_of (take k rs)) n). let more = placed rs k n j in (suc more.0, (let l = more.1 in omega arith), more.2))
    h

place_in : (rs : List Record) (k i : ℕ) (n : List ℕ) → i < k → slice_get (keywords_of rs) i ≡ Some n → IsIn (keywords_of (take k rs)) n
place_in [] k i n h e = absurd (cc)
place_in (r ∷ rs) zero i n h e = absurd (omega arith)
place_in (r ∷ rs) (suc k) zero n h e = inl (cc)
place_in (r ∷ rs) (suc k) (suc i) n h e = inr (place_in rs k i n (omega arith) e)

-- a record has the keyword of an earlier one
pub named_here : (rs : List Record) (k : ℕ) (d : Record) → k < length rs → IsIn (keywords_of (take k rs)) (get_or rs k d).keyword.now → IsNamedBefore (keywords_of rs) k
named_here rs k d h i = let p = placed rs k (get_or rs k d).keyword.now i in ((get_or rs k d).keyword.now, p.0, p.1, p.2, keyword_at rs k d h)

pub not_named_here : (rs : List Record) (k : ℕ) (d : Record) → k < length rs → ¬ (IsIn (keywords_of (take k rs)) (get_or rs k d).keyword.now) → ¬ (IsNamedBefore (keywords_of rs) k)
not_named_here rs k d h none b =
    let e : Some (get_or rs k d).keyword.now ≡ Some b.0 = sym (keyword_at rs k d h) ∙ b.4 in
    let same : (get_or rs k d).keyword.now ≡ b.0 = cc in
    none (subst (IsIn (keywords_of (take k rs))) (sym same) (place_in rs k b.1 b.0 b.2 b.3))

pub named_below : (rs : List Record) (k : ℕ) → length rs ≤ k → ¬ (IsNamedBefore (keywords_of rs) k)
named_below rs k h b = let less = keyword_below rs k b.0 b.4 in absurd (omega arith)

-- ---- supertypes

supertype_entity : (s : Schema) (n m : List ℕ) → IsSupertype s n m → IsEntity s n
supertype_entity s n m h = subst (IsEntity s) h.name_is (in_map (λ (e : Entity). e.name) s.entities h.entity h.declared)

module _ (s : Schema) (w : IsWellFormed s) (e : EntityId) (known : IsEntityOf s e) (ids : List EntityId) (named : map (entity_name s) ids ≡ (entity_at s e).supertypes) where
  pub supertype_by : (m : List ℕ) → IsIn (map (entity_name s) ids) m ↔ IsSupertype s (entity_name s e) m
  supertype_by m = (
    λ h. record { entity = entity_at s e; declared = entity_there s e known; name_is = refl; named = subst (λ l. IsIn l m) named h },
    λ h. subst (λ l. IsIn l m) (ap (λ (x : Entity). x.supertypes) (one_entity s w h.entity (entity_at s e) h.declared (entity_there s e known) h.name_is) ∙ sym named) h.named,
  )

  pub lacks_by : (P : List ℕ → Type 0) → AnyIn ids (λ x. P (entity_name s x)) ↔ ((m : List ℕ) × (IsSupertype s (entity_name s e) m × P m))
  lacks_by P = (
    λ h. (entity_name s h.0, ((supertype_by (entity_name s h.0)).0 (in_map (entity_name s) ids h.0 h.1), h.2)),
    λ h. let p = out_of_map (entity_name s) ids h.0 ((supertype_by h.0).1 h.1.0) in (p.0, p.1, subst P (sym p.2) h.1.1),
  )

-- ---- marks

module _ (s : Schema) (one : (a b : EntityId) → IsEntityOf s a → IsEntityOf s b → entity_name s a ≡ entity_name s b → a ≡ b) (rs : List Record) (k : ℕ) (d : Record) (less : k < length rs) (x : EntityId) (known : IsEntityOf s x) (named : entity_name s x ≡ (get_or rs k d).keyword.now) (old new : List Bool) (long : length new ≡ length old) where
  -- the entity of one record more
  pub marks_more : AreAdded old new (x ∷ []) → AreMarksOfRecords s old (take k rs) → AreMarksOfRecords s new (take (k + 1) rs)
  marks_more added so_far e of l =
      let n = entity_name s e in
      let before = so_far e of (subst (λ (m : ℕ). e.index < m) long l) in
      let now = added e l in
      let taken = any_taken (λ (r : Record). r.keyword.now ≡ n) rs k d less in (
        λ h. let a : AnyIn (take (k + 1) rs) (λ (r : Record). r.keyword.now ≡ n) = taken.1 (⊎_elim
            (λ (i : IsIn (x ∷ []) e). inr (sym named ∙ ap (entity_name s) (in_one i)))
            (λ (m : IsMarked old e). inl (out_of_map (λ (r : Record). r.keyword.now) (take k rs) n (before.0 m))) (now.0 h)) in
            subst (IsIn (keywords_of (take (k + 1) rs))) a.2 (in_map (λ (r : Record). r.keyword.now) (take (k + 1) rs) a.0 a.1),
        λ h. now.1 (⊎_elim
            (λ (a : AnyIn (take k rs) (λ (r : Record). r.keyword.now ≡ n)). inr (before.1 (subst (IsIn (keywords_of (take k rs))) a.2 (in_map (λ (r : Record). r.keyword.now) (take k rs) a.0 a.1))))
            (λ (f : (get_or rs k d).keyword.now ≡ n). inl (inl (one x e known of (named ∙ f))))
            (taken.0 (out_of_map (λ (r : Record). r.keyword.now) (take (k + 1) rs) n h))),
      )

  -- the entities above one record more
  pub above_more : IsWellFormed s → (ids : List EntityId) → NameEntities s ids (entity_at s x).supertypes → AreAdded old new ids → AreMarksAbove s old (take k rs) → AreMarksAbove s new (take (k + 1) rs)
  above_more w ids are added so_far e of l =
      let n = entity_name s e in
      let before = so_far e of (subst (λ (m : ℕ). e.index < m) long l) in
      let now = added e l in
      let taken = any_taken (IsSubtypeRecord s n) rs k d less in
      let by = supertype_by s w x known ids are.named n in (
        λ h. taken.1 (⊎_elim
            (λ (i : IsIn ids e). inr (subst (λ m. IsSupertype s m n) named (by.0 (in_map (entity_name s) ids e i))))
            (λ (m : IsMarked old e). inl (before.0 m)) (now.0 h)),
        λ h. now.1 (⊎_elim
            (λ (a : AnyIn (take k rs) (IsSubtypeRecord s n)). inr (before.1 a))
            (λ (f : IsSubtypeRecord s n (get_or rs k d)).
            let p = out_of_map (entity_name s) ids n (by.1 (subst (λ m. IsSupertype s m n) (sym named) f)) in
            inl (subst (IsIn ids) (one p.0 e (are.known p.0 p.1) of p.2) p.1))
            (taken.0 h)),
      )

-- ---- the instance

module _ (s : Schema) (name at : ℕ) (rs : List Record) where
  in_keywords : (n : List ℕ) → IsIn (keywords_of rs) n → IsIn (keywords (complex_instance name at rs)) n
  in_keywords n h = subst (λ l. IsIn l n) (sym (written rs)) h

  of_keywords : (n : List ℕ) → IsIn (keywords (complex_instance name at rs)) n → IsIn (keywords_of rs) n
  of_keywords n h = subst (λ l. IsIn l n) (written rs) h

  record_of : (n : List ℕ) → IsIn (keywords (complex_instance name at rs)) n → (r : Record) × IsIn rs r × (r.keyword.now ≡ n)
  record_of n h = out_of_map (λ (r : Record). r.keyword.now) rs n (of_keywords n h)

  keyword_of : (r : Record) → IsIn rs r → IsIn (keywords (complex_instance name at rs)) r.keyword.now
  keyword_of r h = in_keywords r.keyword.now (in_map (λ (r : Record). r.keyword.now) rs r h)

  pub complex_unknown : AnyIn rs (IsUnknown s) → HasUnknownEntity s (complex_instance name at rs)
  complex_unknown h = record { keyword = h.0.keyword.now; written = keyword_of h.0 h.1; unknown = h.2 }

  pub complex_known : EachIn rs (NamesEntity s) → ¬ (HasUnknownEntity s (complex_instance name at rs))
  complex_known h x = let r = record_of x.keyword x.written in x.unknown (subst (IsEntity s) r.2 (h r.0 r.1))

  pub complex_concrete : ¬ (HasAbstractEntity s (complex_instance name at rs))
  complex_concrete x = false≢true (sym x.simple)

  set_back : {n : List ℕ} → IsInSet s (complex_instance name at rs) n → IsIn (keywords_of rs) n × IsEntity s n
  set_back {n} (sets.named h k) = (of_keywords n h, k)
  set_back (sets.ancestor c h k) = absurd (false≢true (sym c))

  pub set_by : (u : EntitySet) → IsSetOfRecords s u rs → (n : List ℕ) → HasEntity s u n ↔ IsInSet s (complex_instance name at rs) n
  set_by u is n = (λ h. let k = (is n).0 h in sets.named (in_keywords n k.0) k.1, λ h. (is n).1 (set_back h))

  pub twice_by : ((k : ℕ) × IsNamedBefore (keywords_of rs) k) ↔ NamesTwice (complex_instance name at rs)
  twice_by = (
    λ h. record { keyword = h.1.0; first = h.1.1; second = h.0; before = h.1.2; there = subst (λ l. slice_get l h.1.1 ≡ Some h.1.0) (sym (written rs)) h.1.3; again = subst (λ l. slice_get l h.0 ≡ Some h.1.0) (sym (written rs)) h.1.4 },
    λ h. (h.second, (h.keyword, h.first, h.before, subst (λ l. slice_get l h.first ≡ Some h.keyword) (written rs) h.there, subst (λ l. slice_get l h.second ≡ Some h.keyword) (written rs) h.again)),
  )

  pub above_by : (u : EntitySet) → IsSetOfRecords s u rs → AnyIn rs (LacksAbove s (HasEntity s u)) ↔ LacksSupertype s (complex_instance name at rs)
  above_by u is = (
    λ h. record { keyword = h.0.keyword.now; supertype = h.2.0; written = keyword_of h.0 h.1; above = h.2.1.0; lacking = λ k. h.2.1.1 ((set_by u is h.2.0).1 k) },
    λ h. let r = record_of h.keyword h.written in (r.0, r.1, (h.supertype, (subst (λ n. IsSupertype s n h.supertype) (sym r.2) h.above, λ k. h.lacking ((set_by u is h.supertype).0 k)))),
  )

  pub below_by : AnyIn rs (LacksBelow s rs) ↔ LacksSubtype s (complex_instance name at rs)
  below_by = (
    λ h. record {
      keyword = h.0.keyword.now;
      written = keyword_of h.0 h.1;
      is_abstract = h.2.0;
      lacking = λ sub up there. (let r = out_of_map (λ (r : Record). r.keyword.now) rs sub (set_back there).0 in h.2.1 (r.0, r.1, subst (λ n. IsSupertype s n h.0.keyword.now) (sym r.2) up));
    },
    λ h. let r = record_of h.keyword h.written in (
      r.0,
      r.1,
      (
        subst (IsAbstract s) (sym r.2) h.is_abstract,
        λ q. let up : IsSupertype s q.0.keyword.now h.keyword = subst (IsSupertype s q.0.keyword.now) r.2 q.2 in
            h.lacking q.0.keyword.now up (sets.named (keyword_of q.0 q.1) (supertype_entity s q.0.keyword.now h.keyword up)),
      ),
    ),
  )

  pub bad_by : (NamesTwice (complex_instance name at rs) ⊎ (LacksSupertype s (complex_instance name at rs) ⊎ LacksSubtype s (complex_instance name at rs))) ↔ IsBadComplex s (complex_instance name at rs)
  bad_by = (λ h. record { complex = refl; bad = h }, λ h. h.bad)

-- a record of the instance, by its place
module _ (s : Schema) (w : IsWellFormed s) (name at : ℕ) (rs : List Record) (k : ℕ) (x : Record) (less : k < length rs) (is : x ≡ get_or rs k x) (os : List Origin) (are : AreAttributes s true x.keyword.now os) where
  there : slice_get (map plain_record rs) k ≡ Some (plain_record x)
  there = record_at rs k x less ∙ ap (λ (y : Record). Some (plain_record y)) (sym is)

  pub wrong_here : length x.params ≢ length os → HasWrongCount s (complex_instance name at rs) k
  wrong_here h = wrong_at s w (complex_instance name at rs) k (plain_record x) there os are (λ e. h (sym (count_all x.params) ∙ e))

  pub right_here : length x.params ≡ length os → ¬ (HasWrongCount s (complex_instance name at rs) k)
  right_here h = not_wrong_at s w (complex_instance name at rs) k (plain_record x) there os are (count_all x.params ∙ h)

  pub bad_here : (a : ℕ) (u : EntitySet) → IsSetOfRecords s u rs → IsUnfitAt s (HasEntity s u) os (plain_all x.params) a → HasBadAttribute s (complex_instance name at rs) k a
  bad_here a v is_set u = bad_at s w (complex_instance name at rs) k (plain_record x) there os are a (unfit_along s (HasEntity s v) (IsInSet s (complex_instance name at rs)) os (plain_all x.params) a (set_by s name at rs v is_set) u)

  pub unfit_there : (a : ℕ) (u : EntitySet) → IsSetOfRecords s u rs → HasBadAttribute s (complex_instance name at rs) k a → IsUnfitAt s (HasEntity s u) os (plain_all x.params) a
  unfit_there a v is_set u = unfit_along s (IsInSet s (complex_instance name at rs)) (HasEntity s v) os (plain_all x.params) a (λ n. ((set_by s name at rs v is_set n).1, (set_by s name at rs v is_set n).0)) (unfit_at s w (complex_instance name at rs) k (plain_record x) there os are a u)

  pub repeated_here : s.distinct ≡ true → (a : ℕ) (u : EntitySet) → IsSetOfRecords s u rs → IsRepeatingAt s (HasEntity s u) os (plain_all x.params) a → HasRepeatedReference s (complex_instance name at rs) k a
  repeated_here ruled a v is_set u = repeated_at s w (complex_instance name at rs) k (plain_record x) there os are ruled a (repeating_along s (HasEntity s v) (IsInSet s (complex_instance name at rs)) os (plain_all x.params) a (set_by s name at rs v is_set) u)

  pub repeating_there : (a : ℕ) (u : EntitySet) → IsSetOfRecords s u rs → HasRepeatedReference s (complex_instance name at rs) k a → IsRepeatingAt s (HasEntity s u) os (plain_all x.params) a
  repeating_there a v is_set u = repeating_along s (IsInSet s (complex_instance name at rs)) (HasEntity s v) os (plain_all x.params) a (λ n. ((set_by s name at rs v is_set n).1, (set_by s name at rs v is_set n).0)) (repeating_at s w (complex_instance name at rs) k (plain_record x) there os are a u)

pub no_wrong_behind : (s : Schema) (name at : ℕ) (rs : List Record) (k : ℕ) → length rs ≤ k → ¬ (HasWrongCount s (complex_instance name at rs) k)
no_wrong_behind s name at rs k h x = let less = record_below rs k x.entry x.there in absurd (omega arith)

pub no_bad_behind : (s : Schema) (name at : ℕ) (rs : List Record) (k a : ℕ) → length rs ≤ k → ¬ (HasBadAttribute s (complex_instance name at rs) k a)
no_bad_behind s name at rs k a h x = let less = record_below rs k x.entry x.there in absurd (omega arith)

pub no_repeated_behind : (s : Schema) (name at : ℕ) (rs : List Record) (k a : ℕ) → length rs ≤ k → ¬ (HasRepeatedReference s (complex_instance name at rs) k a)
no_repeated_behind s name at rs k a h x = let less = record_below rs k x.entry x.there in absurd (omega arith)

pub one_record : (rs : List Record) (x : Record) → length rs ≡ 1 → x ≡ get_or rs 0 x → rs ≡ x ∷ []
one_record [] x h e = absurd (omega arith)
one_record (r ∷ []) x h e = ap (λ y. y ∷ []) (sym e)
one_record (r ∷ q ∷ rs) x h e = absurd (omega arith)
