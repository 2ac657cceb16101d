-- Rows that are taken part by part, and cells that are added one by one.
use Rattle.std.proofs.Common.{◌≡◌, ◌+◌, ◌<◌, ◌≤◌, ℕ, zero, suc, Bool, true, false, List, [], ◌∷◌, ◌++◌, Option, None, Some, length, map, drop, get_or, replicate, refl, sym, ap, subst, ◌∙◌, inl, inr, add-one, arith}
use Rattle.std.specs.Prelude.{slice_get}
use Rattle.std.specs.List.{AllByRecursion, AllZip, flat_map}
use Rattle.std.proofs.lemmas.List.{append_assoc, append-nil, drop_all, drop_more, length-append, map-append}
use Rattle.std.proofs.lemmas.Grind.{flat_map-append}
use Rattle.p21_tree.specs.declared.instances.Record.{Record}
use Rattle.p21_tree.specs.declared.params.Param.{Param}
use Rattle.p21_tree.specs.Plain.{plain, plain_all}
use Rattle.p21_tree.specs.Sentence.{Instance}
use Rattle.p21_tree.specs.Tree.{Tree, Trees}
use Rattle.p21_tree.specs.declared.instances.RawInstance.{RawInstance}
use Rattle.p21_tree.specs.Views.{plain_instance, plain_record}
use Rattle.p21_express.specs.Schema.{Schema, Entity as Declared}
use Rattle.p21_express.specs.WellFormed.{IsEntity, IsIn, Origin}
use Rattle.p21_schema.specs.declared.ids.EntityId.{EntityId}
use Rattle.p21_schema.specs.Place.{entity_at, entity_name, no_entity, IsEntityOf}
use Rattle.p21_schema.specs.Row.{IsRow}
use Rattle.p21_check.specs.Attributes.{AreAttributes}
use Rattle.p21_check.specs.Attributes as attributes
use Rattle.p21_json.specs.Instances.{AreKnown}
use Rattle.p21_json.specs.Rows.{AreAttributesOf}
use Rattle.p21_run.specs.Run.{Change, IsTold}
use Rattle.p21_run.specs.declared.outcome.Outcome.{Outcome}
use Rattle.p21_json.specs.Spelled.{IsSpelled}
use Rattle.p21_rows.specs.declared.cell.Cell.{Cell}
use Rattle.p21_rows.specs.declared.cell.Cell.TheVariants.{Null}
use Rattle.p21_rows.specs.Rows.{Row, Step, begun, row, ended, Goes, Takes, TakesSome, RowsOfEach, Leads, joined, AreNames, IsCellOfFirst, behind_first, AreCells, IsReferenceRow, AreReferenceRows, list_of, AreMetadata, AreInstanceRows, AreModelRows, GivesModel}

-- ---- rows

goes_none : (a : Option (List Step)) → Goes a a []
goes_none None = tt
goes_none (Some xs) = sym (append-nil xs)

goes_then : (a b c : Option (List Step)) (xs ys : List Step) → Goes a b xs → Goes b c ys → Goes a c (xs ++ ys)
goes_then None b c xs ys h k = tt
goes_then (Some x) None c xs ys h k = absurd h
goes_then (Some x) (Some y) None xs ys h k = absurd k
goes_then (Some x) (Some y) (Some z) xs ys h k = k ∙ ap (λ l. l ++ ys) h ∙ append_assoc x xs ys

pub takes_none : (a : Option (List Step)) → Takes a a []
takes_none a = goes_none a

pub takes_then : (a b c : Option (List Step)) (xs ys : List Row) → Takes a b xs → Takes b c ys → Takes a c (xs ++ ys)
takes_then a b c xs ys h k = subst (Goes a c) (sym (map-append row xs ys)) (goes_then a b c (map row xs) (map row ys) h k)

-- a row, and then others
pub leads_then : (First : Row → Type 0) (Rest : List Row → Type 0) (a b c : Option (List Step)) (r : Row) → First r → Takes a b (r ∷ []) → TakesSome b c Rest → TakesSome a c (Leads First Rest)
leads_then First Rest a b c r h t u = (r ∷ u.0, (r, u.0, h, u.1, refl), takes_then a b c (r ∷ []) u.0 t u.2)

-- of some elements the rows of those before a place were taken
pub record TakenUpTo {X Y : Type 0} (R : Y → List Row → Type 0) (f : X → Y) (start now : Option (List Step)) (xs : List X) (i : ℕ) : Type 0 where
  pub done : List Row
  pub taken : Takes start now done
  pub behind : (rest : List Row) → RowsOfEach R (map f (drop i xs)) rest → RowsOfEach R (map f xs) (done ++ rest)

pub taken_none : {X Y : Type 0} (R : Y → List Row → Type 0) (f : X → Y) (a : Option (List Step)) (xs : List X) → TakenUpTo R f a a xs 0
taken_none R f a xs = record { done = []; taken = takes_none a; behind = λ rest h. h }

pub taken_more : {X Y : Type 0} (R : Y → List Row → Type 0) (f : X → Y) (a b c : Option (List Step)) (xs : List X) (i : ℕ) (x : X) → i < length xs → x ≡ get_or xs i x → TakenUpTo R f a b xs i → TakesSome b c (R (f x)) → TakenUpTo R f a c xs (i + 1)
taken_more {X} R f a b c xs i x h e u t =
    let here : drop i xs ≡ x ∷ drop (i + 1) xs = drop_more xs i x h ∙ ap (λ (y : X). y ∷ drop (i + 1) xs) (sym e) in
    record {
      done = u.done ++ t.0;
      taken = takes_then a b c u.done t.0 u.taken t.2;
      behind = λ rest k. subst (RowsOfEach R (map f xs)) (sym (append_assoc u.done t.0 rest)) (u.behind (t.0 ++ rest) (subst (λ (l : List X). RowsOfEach R (map f l) (t.0 ++ rest)) (sym here) (t.0, rest, t.1, k, refl)));
    }

pub taken_all : {X Y : Type 0} (R : Y → List Row → Type 0) (f : X → Y) (a b : Option (List Step)) (xs : List X) (i : ℕ) → length xs ≤ i → TakenUpTo R f a b xs i → TakesSome a b (RowsOfEach R (map f xs))
taken_all {X} R f a b xs i h u =
    let last : RowsOfEach R (map f (drop i xs)) [] = subst (λ (l : List X). RowsOfEach R (map f l) []) (sym (drop_all i xs h)) refl in
    (u.done, subst (RowsOfEach R (map f xs)) (append-nil u.done) (u.behind [] last), u.taken)

-- ---- what is known of a model as a whole

pub about_none : (a : Option (List Step)) → TakesSome a a AreMetadata
about_none a = ([], tt, takes_none a)

all_append : {X : Type 0} (P : X → Type 0) (xs ys : List X) → AllByRecursion P xs → AllByRecursion P ys → AllByRecursion P (xs ++ ys)
all_append P [] ys h k = k
all_append P (x ∷ xs) ys h k = (h.0, all_append P xs ys h.1 k)

pub about_then : (a b c : Option (List Step)) → TakesSome a b AreMetadata → TakesSome b c AreMetadata → TakesSome a c AreMetadata
about_then a b c h k = (h.0 ++ k.0, all_append _ h.0 k.0 h.1 k.1, takes_then a b c h.0 k.0 h.2 k.2)

-- ---- a whole model

pub model_rows : (s : Schema) (is : List Instance) (a b c d e : Option (List Step)) → Goes a b (begun ∷ []) → TakesSome b c AreMetadata → TakesSome c d (RowsOfEach (AreInstanceRows s) is) → Goes d e (ended ∷ []) → GivesModel s is a e
model_rows s is a b c d e begins about others ends =
    let rows = about.0 ++ others.0 in
    let all = takes_then b c d about.0 others.0 about.2 others.2 in
    (rows, (about.0, others.0, about.1, others.1, refl), goes_then a b e (begun ∷ []) (map row rows ++ ended ∷ []) begins (goes_then b d e (map row rows) (ended ∷ []) all ends))

-- ---- the names of entities

-- the names are those of the entities of the records
abbrev pub NameAll : List Record → List (List ℕ) → Type 0
NameAll rs names = AllZip (λ e n. IsSpelled n e.keyword) (map plain_record rs) names

-- of some records the names of those before a place were written
pub record NamedUpTo (rs : List Record) (text : List ℕ) (i : ℕ) : Type 0 where
  pub names : List (List ℕ)
  pub count : length names ≡ i
  pub written : text ≡ joined names
  pub behind : (rest : List (List ℕ)) → NameAll (drop i rs) rest → NameAll rs (names ++ rest)

pub named_none : (rs : List Record) (text : List ℕ) → text ≡ [] → NamedUpTo rs text 0
named_none rs text e = record { names = []; count = refl; written = e; behind = λ rest h. h }

joined_first : (ns : List (List ℕ)) (n : List ℕ) → length ns ≡ 0 → joined ns ++ n ≡ joined (ns ++ n ∷ [])
joined_first [] n e = sym (append-nil n)
joined_first (m ∷ ns) n e = absurd (omega arith)

joined_next : (ns : List (List ℕ)) (n : List ℕ) → 0 < length ns → joined ns ++ 43 ∷ n ≡ joined (ns ++ n ∷ [])
joined_next [] n h = absurd (omega arith)
joined_next (m ∷ ns) n h =
    append_assoc m (flat_map (λ u. 43 ∷ u) ns) (43 ∷ n)
    ∙ ap (λ (l : List ℕ). m ++ l) (ap (λ (l : List ℕ). flat_map (λ u. 43 ∷ u) ns ++ l) (sym (append-nil (43 ∷ n))) ∙ sym (flat_map-append (λ u. 43 ∷ u) ns (n ∷ [])))

joined_more : (i : ℕ) (ns : List (List ℕ)) (n old new : List ℕ) → length ns ≡ i → old ≡ joined ns → (i ≡ 0 → new ≡ old ++ n) → (0 < i → new ≡ old ++ 43 ∷ n) → new ≡ joined (ns ++ n ∷ [])
joined_more zero ns n old new e w first next = first refl ∙ ap (λ (l : List ℕ). l ++ n) w ∙ joined_first ns n e
joined_more (suc i) ns n old new e w first next = next (omega arith) ∙ ap (λ (l : List ℕ). l ++ 43 ∷ n) w ∙ joined_next ns n (omega arith)

pub named_more : (rs : List Record) (old new n : List ℕ) (i : ℕ) (r : Record) → i < length rs → r ≡ get_or rs i r → IsSpelled n r.keyword.now → (i ≡ 0 → new ≡ old ++ n) → (0 < i → new ≡ old ++ 43 ∷ n) → NamedUpTo rs old i → NamedUpTo rs new (i + 1)
named_more rs old new n i r h e spelled first next u =
    let here : drop i rs ≡ r ∷ drop (i + 1) rs = drop_more rs i r h ∙ ap (λ (x : Record). x ∷ drop (i + 1) rs) (sym e) in
    record {
      names = u.names ++ n ∷ [];
      count = let one = length-append u.names (n ∷ []) in let so = u.count in omega arith;
      written = joined_more i u.names n old new u.count u.written first next;
      behind = λ rest k. subst (NameAll rs) (sym (append_assoc u.names (n ∷ []) rest)) (u.behind (n ∷ rest) (subst (λ (l : List Record). NameAll l (n ∷ rest)) (sym here) (spelled, k)));
    }

pub named_all : (rs : List Record) (text : List ℕ) (i : ℕ) → length rs ≤ i → NamedUpTo rs text i → AreNames (map plain_record rs) text
named_all rs text i h u =
    let last : NameAll (drop i rs) [] = subst (λ (l : List Record). NameAll l []) (sym (drop_all i rs h)) tt in
    (u.names, subst (NameAll rs) (append-nil u.names) (u.behind [] last), u.written)

-- ---- the cells of a record

there_at : (es : List Declared) (k : ℕ) → k < length es → IsIn es (get_or es k no_entity)
there_at [] k h = absurd (omega arith)
there_at (e ∷ es) zero h = inl refl
there_at (e ∷ es) (suc k) h = inr (there_at es k (omega arith))

-- the attributes by an id are those of its entity
pub attributes_by : (s : Schema) (c : Bool) (e : EntityId) (n : List ℕ) (os : List Origin) → IsEntityOf s e → entity_name s e ≡ n → AreAttributesOf s c e os → AreAttributes s c n os
attributes_by s true e n os h q a = attributes.complex (entity_at s e) (there_at s.entities e.index h) q (sym a)
attributes_by s false e n os h q a = attributes.simple (subst (λ (m : List ℕ). IsRow s m os) q a)

found_drop : (os : List Origin) (p : ℕ) (o : Origin) → slice_get os p ≡ Some o → drop p os ≡ o ∷ drop (suc p) os
found_drop [] p o h = cc
found_drop (x ∷ os) zero o h = let same : x ≡ o = cc in ap (λ (y : Origin). y ∷ os) same
found_drop (x ∷ os) (suc p) o h = found_drop os p o h

behind_drop : (ps : List Param) (p : ℕ) → behind_first (plain_all (drop p ps)) ≡ plain_all (drop (suc p) ps)
behind_drop [] zero = refl
behind_drop [] (suc p) = refl
behind_drop (x ∷ ps) zero = refl
behind_drop (x ∷ ps) (suc p) = behind_drop ps p

-- of some parameters the cells of those before a place were added
pub record AddedUpTo (s : Schema) (i : Instance) (os : List Origin) (ps : List Param) (start now : List Cell) (p : ℕ) : Type 0 where
  pub done : List Cell
  pub added : now ≡ start ++ done
  pub behind : (rest : List Cell) → AreCells s i (drop p os) (plain_all (drop p ps)) rest → AreCells s i os (plain_all ps) (done ++ rest)

pub added_none : (s : Schema) (i : Instance) (os : List Origin) (ps : List Param) (start : List Cell) → AddedUpTo s i os ps start start 0
added_none s i os ps start = record { done = []; added = sym (append-nil start); behind = λ rest h. h }

pub added_more : (s : Schema) (i : Instance) (os : List Origin) (ps : List Param) (start now new : List Cell) (p : ℕ) (o : Origin) (c : Cell) → slice_get os p ≡ Some o → IsCellOfFirst s i o (plain_all (drop p ps)) c → new ≡ now ++ c ∷ [] → AddedUpTo s i os ps start now p → AddedUpTo s i os ps start new (p + 1)
added_more s i os ps start now new p o c found is e u = subst (AddedUpTo s i os ps start new) (sym (add-one p)) (record {
  done = u.done ++ c ∷ [];
  added = e ∙ ap (λ (l : List Cell). l ++ c ∷ []) u.added ∙ append_assoc start u.done (c ∷ []);
  behind = λ rest k.
      let others : AreCells s i (drop (suc p) os) (behind_first (plain_all (drop p ps))) rest = subst (λ (ts : Trees). AreCells s i (drop (suc p) os) ts rest) (sym (behind_drop ps p)) k in
      let all : AreCells s i (o ∷ drop (suc p) os) (plain_all (drop p ps)) (c ∷ rest) = (is, others) in
      subst (AreCells s i os (plain_all ps)) (sym (append_assoc u.done (c ∷ []) rest)) (u.behind (c ∷ rest) (subst (λ (l : List Origin). AreCells s i l (plain_all (drop p ps)) (c ∷ rest)) (sym (found_drop os p o found)) all));
})

pub added_all : (s : Schema) (i : Instance) (os : List Origin) (ps : List Param) (start now : List Cell) (p : ℕ) → length os ≤ p → AddedUpTo s i os ps start now p → (values : List Cell) × (AreCells s i os (plain_all ps) values × (now ≡ start ++ values))
added_all s i os ps start now p h u =
    let last : AreCells s i (drop p os) (plain_all (drop p ps)) [] = subst (λ (l : List Origin). AreCells s i l (plain_all (drop p ps)) []) (sym (drop_all p os h)) refl in
    (u.done, (subst (AreCells s i os (plain_all ps)) (append-nil u.done) (u.behind [] last), u.added))

-- what stands in a row: the name, nulls, and the values
pub parts_of : (n m : Cell) (k j : ℕ) (none one two all values : List Cell) → n ≡ m → k ≡ j → none ≡ [] → one ≡ none ++ n ∷ [] → two ≡ one ++ replicate k Null → all ≡ two ++ values → all ≡ m ∷ (replicate j Null ++ values)
parts_of n m k j none one two all values p q a b d e =
    e ∙ ap (λ (l : List Cell). l ++ values) (d ∙ ap (λ (l : List Cell). l ++ replicate k Null) (b ∙ ap (λ (l : List Cell). l ++ n ∷ []) a)) ∙ ap (λ (h : Cell). h ∷ (replicate k Null ++ values)) p ∙ ap (λ (h : ℕ). m ∷ (replicate h Null ++ values)) q

-- ---- references

pub listed : (ps : List Param) → list_of (plain_all ps) ≡ map plain ps
listed [] = refl
listed (p ∷ ps) = ap (λ (l : List Tree). plain p ∷ l) (listed ps)

-- of some references in a column the rows of those before a place were taken
pub record ReferredUpTo (source : ℕ) (column : List ℕ) (start now : Option (List Step)) (ts : List ℕ) (i : ℕ) : Type 0 where
  pub done : List Row
  pub taken : Takes start now done
  pub behind : (rest : List Row) → AreReferenceRows source column i (drop i ts) rest → AreReferenceRows source column 0 ts (done ++ rest)

pub referred_none : (source : ℕ) (column : List ℕ) (a : Option (List Step)) (ts : List ℕ) → ReferredUpTo source column a a ts 0
referred_none source column a ts = record { done = []; taken = takes_none a; behind = λ rest h. h }

pub referred_more : (source : ℕ) (column : List ℕ) (a b c : Option (List Step)) (ts : List ℕ) (i t : ℕ) (r : Row) → i < length ts → t ≡ get_or ts i 0 → IsReferenceRow source column i t r → Takes b c (r ∷ []) → ReferredUpTo source column a b ts i → ReferredUpTo source column a c ts (i + 1)
referred_more source column a b c ts i t r h e is k u =
    let here : drop i ts ≡ t ∷ drop (i + 1) ts = drop_more ts i 0 h ∙ ap (λ (x : ℕ). x ∷ drop (i + 1) ts) (sym e) in
    record {
      done = u.done ++ r ∷ [];
      taken = takes_then a b c u.done (r ∷ []) u.taken k;
      behind = λ rest more. subst (AreReferenceRows source column 0 ts) (sym (append_assoc u.done (r ∷ []) rest)) (u.behind (r ∷ rest) (subst (λ (l : List ℕ). AreReferenceRows source column i l (r ∷ rest)) (sym here) (is, more)));
    }

pub referred_all : (source : ℕ) (column : List ℕ) (a b : Option (List Step)) (ts : List ℕ) (i : ℕ) → length ts ≤ i → ReferredUpTo source column a b ts i → TakesSome a b (AreReferenceRows source column 0 ts)
referred_all source column a b ts i h u =
    let last : AreReferenceRows source column i (drop i ts) [] = subst (λ (l : List ℕ). AreReferenceRows source column i l []) (sym (drop_all i ts h)) refl in
    (u.done, subst (AreReferenceRows source column 0 ts) (append-nil u.done) (u.behind [] last), u.taken)

-- ---- entities that are known

-- what is so of each item is so of the one at a place
all_at : {X Y : Type 0} (P : Y → Type 0) (f : X → Y) (xs : List X) (i : ℕ) (x : X) → AllByRecursion P (map f xs) → i < length xs → x ≡ get_or xs i x → P (f x)
all_at P f [] i x all less e = absurd (omega arith)
all_at P f (y ∷ ys) zero x all less e = subst (λ z. P (f z)) (sym e) all.0
all_at P f (y ∷ ys) (suc i) x all less e = all_at P f ys i x all.1 (omega arith) e

pub known_instance : (s : Schema) (is : List RawInstance) (i : ℕ) (x : RawInstance) → AllByRecursion (λ r. AreKnown s r.records) (map plain_instance is) → i < length is → x ≡ get_or is i x → AreKnown s (plain_instance x).records
known_instance s is i x all less e = all_at (λ r. AreKnown s r.records) plain_instance is i x all less e

pub known_record : (s : Schema) (rs : List Record) (i : ℕ) (r : Record) → AreKnown s (map plain_record rs) → i < length rs → r ≡ get_or rs i r → IsEntity s r.keyword.now
known_record s rs i r all less e = all_at (λ k. IsEntity s k.keyword) plain_record rs i r all less e

-- ---- what is told

pub told_of : {K : Type 0} {out : Change K} {a b : List ℕ} {due o : Outcome} → a ≡ b → IsTold out a due o → IsTold out b due o
told_of {K} {out} {a} {b} {due} {o} e told = subst (λ x. IsTold out x due o) e told
