-- The attributes of a schema as the code keeps them, and names before others in a row.
use Rattle.std.proofs.Common.{◌≡◌, ◌+◌, ◌<◌, ◌≤◌, ℕ, zero, suc, Bool, true, false, not, List, [], ◌∷◌, ◌++◌, Option, Some, None, is_some, option_map, length, get_or, take, map, refl, sym, ap, subst, ◌∙◌, ⊎_elim, append_assoc, arith}
use Rattle.std.specs.Prelude.{slice_get, ◌||◌}
use Rattle.std.specs.Str.{bytes_eq}
use Rattle.std.proofs.lemmas.Bool.{cases_eq, cases_lt, false≢true}
use Rattle.std.proofs.lemmas.List.{append-nil, get_or_append_left, get_or_past, get_or_push, length-append, map-append, take_more}
use Rattle.std.proofs.lemmas.Slice.Eq.{bytes_eq-Decides}
use Rattle.p21_express.specs.Schema.{Schema, Entity, Attribute}
use Rattle.p21_express.specs.WellFormed.{Origin, new_explicit, with_new}
use Rattle.p21_schema.specs.Place.{no_entity, entity_name}
use Rattle.p21_schema.specs.Row.{attributes_of, own_attributes}
use Rattle.p21_schema.specs.declared.ids.EntityId.{EntityId}
use Rattle.p21_schema.specs.Row.{IsRow}
use Rattle.p21_json.specs.Keys.{AreFlags, has_name}

-- ---- names before others

-- one of the first has the name
pub has_at : (os : List Origin) (q n : ℕ) (p : Origin) (m : List ℕ) → q < n → slice_get os q ≡ Some p → p.name ≡ m → has_name (take n os) m ≡ true
has_at os q zero p m l h e = absurd (omega arith)
has_at [] q (suc n) p m l h e = cc
has_at (o ∷ os) zero (suc n) p m l h e =
    let same : o ≡ p = cc in
    let is : bytes_eq o.name m ≡ true = (bytes_eq-Decides o.name m).1 (ap (λ (x : Origin). x.name) same ∙ e) in
    ap (λ (b : Bool). b || has_name (take n os) m) is
has_at (o ∷ os) (suc q) (suc n) p m l h e = either (bytes_eq o.name m) (has_at os q n p m (omega arith) h e) where
  either : (b : Bool) → has_name (take n os) m ≡ true → (b || has_name (take n os) m) ≡ true
  either true k = refl
  either false k = k

-- none of the first has it
pub has_none : (os : List Origin) (n : ℕ) (m : List ℕ) → ((q : ℕ) (p : Origin) → q < n → slice_get os q ≡ Some p → ¬ (p.name ≡ m)) → has_name (take n os) m ≡ false
has_none os zero m f = refl
has_none [] (suc n) m f = refl
has_none (o ∷ os) (suc n) m f = either (bytes_eq o.name m) refl (has_none os n m (λ q p l. f (suc q) p (omega arith))) where
  either : (b : Bool) → bytes_eq o.name m ≡ b → has_name (take n os) m ≡ false → (bytes_eq o.name m || has_name (take n os) m) ≡ false
  either true e k = absurd (f 0 o (omega arith) refl ((bytes_eq-Decides o.name m).0 e))
  either false e k = ap (λ (b : Bool). b || has_name (take n os) m) e ∙ k

-- what stands at a place that is there
pub there : (os : List Origin) (q : ℕ) → q < length os → (p : Origin) × (slice_get os q ≡ Some p)
there [] q l = absurd (omega arith)
there (o ∷ os) zero l = (o, refl)
there (o ∷ os) (suc q) l = there os q (omega arith)

-- ---- flags of rows

pub no_flags : (s : Schema) (e : EntityId) → AreFlags s e []
no_flags s e os r p o l h = absurd (omega arith)

-- one more flag
pub more_flags : (s : Schema) (e : EntityId) (flags : List Bool) (b : Bool) → AreFlags s e flags → ((os : List Origin) (o : Origin) → IsRow s (entity_name s e) os → slice_get os (length flags) ≡ Some o → b ≡ has_name (take (length flags) os) o.name) → AreFlags s e (flags ++ b ∷ [])
more_flags s e flags b f g os r p o l h =
    ⊎_elim
    (λ (q : p ≡ length flags). rw (q, get_or_push flags b false (length flags) refl) (g os o r (subst (λ (n : ℕ). slice_get os n ≡ Some o) q h)))
    (λ (n : ¬ (p ≡ length flags)). let before : p < length flags = (let long = length-append flags (b ∷ []) in omega arith) in rw (get_or_append_left flags (b ∷ []) false p before) (f os r p o before h))
    (cases_eq p (length flags))

same_entity : (d e : EntityId) → d.index ≡ e.index → d ≡ e
same_entity d e h = λ j. record { index = h j }

-- those of one more entity
pub more_rows : (s : Schema) (rows : List (List Bool)) (row : List Bool) → ((e : EntityId) → AreFlags s e (get_or rows e.index [])) → ((e : EntityId) → e.index ≡ length rows → AreFlags s e row) → (e : EntityId) → AreFlags s e (get_or (rows ++ row ∷ []) e.index [])
more_rows s rows row f g e =
    ⊎_elim
    (λ (q : e.index ≡ length rows). subst (λ (l : List Bool). AreFlags s e l) (sym (get_or_push rows row [] e.index (sym q))) (g e q))
    (λ (n : ¬ (e.index ≡ length rows)). ⊎_elim
    (λ (l : e.index < length rows). subst (λ (l : List Bool). AreFlags s e l) (sym (get_or_append_left rows (row ∷ []) [] e.index l)) (f e))
    (λ (m : length rows ≤ e.index). subst (λ (l : List Bool). AreFlags s e l) (sym (get_or_past (rows ++ row ∷ []) e.index [] (let long = length-append rows (row ∷ []) in omega arith))) (no_flags s e))
    (cases_lt e.index (length rows)))
    (cases_eq e.index (length rows))

pub by_entity : (s : Schema) (d e : EntityId) (row : List Bool) → d.index ≡ e.index → AreFlags s e row → AreFlags s d row
by_entity s d e row h f = subst (λ (x : EntityId). AreFlags s x row) (sym (same_entity d e h)) f

-- ---- attributes that entities newly declare

new_append : (xs ys : List Attribute) → new_explicit (xs ++ ys) ≡ new_explicit xs ++ new_explicit ys
new_append [] ys = refl
new_append (a ∷ xs) ys = more a.of a.name (new_explicit (xs ++ ys)) (new_explicit xs) (new_explicit ys) (new_append xs ys) where
  more : (of : Option (List ℕ)) (n : List ℕ) (all left right : List (List ℕ)) → all ≡ left ++ right → with_new of n all ≡ with_new of n left ++ right
  more None n all left right e = ap (λ (l : List (List ℕ)). n ∷ l) e
  more (Some o) n all left right e = e

-- the names up to one more attribute
new_next : (xs : List Attribute) (i : ℕ) (d : Attribute) → i < length xs → new_explicit (take (i + 1) xs) ≡ new_explicit (take i xs) ++ with_new (get_or xs i d).of (get_or xs i d).name []
new_next xs i d l = ap new_explicit (take_more xs i d l) ∙ new_append (take i xs) (get_or xs i d ∷ [])

pub names_more : (xs : List Attribute) (i : ℕ) (a : Attribute) → i < length xs → get_or xs i a ≡ a → a.of ≡ None → new_explicit (take (i + 1) xs) ≡ new_explicit (take i xs) ++ a.name ∷ []
names_more xs i a l at e =
    new_next xs i a l ∙ ap (λ (x : Attribute). new_explicit (take i xs) ++ with_new x.of x.name []) at ∙ ap (λ (o : Option (List ℕ)). new_explicit (take i xs) ++ with_new o a.name []) e

pub names_same : (xs : List Attribute) (i : ℕ) (a : Attribute) (o : List ℕ) → i < length xs → get_or xs i a ≡ a → a.of ≡ Some o → new_explicit (take (i + 1) xs) ≡ new_explicit (take i xs)
names_same xs i a o l at e =
    new_next xs i a l ∙ ap (λ (x : Attribute). new_explicit (take i xs) ++ with_new x.of x.name []) at ∙ ap (λ (o : Option (List ℕ)). new_explicit (take i xs) ++ with_new o a.name []) e ∙ append-nil (new_explicit (take i xs))

-- one more of some
pub push_one : {X Y : Type 0} (f : X → Y) (old now : List Y) (xs all : List X) (x : X) (y : Y) → now ≡ old ++ map f xs → all ≡ xs ++ x ∷ [] → y ≡ f x → now ++ y ∷ [] ≡ old ++ map f all
push_one f old now xs all x y h e q =
    ap (λ l. l ++ y ∷ []) h ∙ append_assoc old (map f xs) (y ∷ []) ∙ ap (λ z. old ++ (map f xs ++ z ∷ [])) q ∙ ap (λ l. old ++ l) (sym (map-append f xs (x ∷ []))) ∙ ap (λ l. old ++ map f l) (sym e)

pub is_new : {X Y : Type 0} (f : X → Y) (o : Option X) (b : Bool) → is_some o ≡ not b → b ≡ true → option_map f o ≡ None
is_new f None b e h = refl
is_new f (Some x) b e h = absurd (false≢true (sym (e ∙ ap not h)))

pub is_again : {X Y : Type 0} (f : X → Y) (o : Option X) (b : Bool) → is_some o ≡ not b → b ≡ false → (y : Y) × (option_map f o ≡ Some y)
is_again f None b e h = absurd (false≢true (e ∙ ap not h))
is_again f (Some x) b e h = (f x, refl)

attributes_append : (xs ys : List Entity) → attributes_of (xs ++ ys) ≡ attributes_of xs ++ attributes_of ys
attributes_append [] ys = refl
attributes_append (e ∷ xs) ys = ap (λ (l : List Origin). own_attributes e ++ l) (attributes_append xs ys) ∙ sym (append_assoc (own_attributes e) (attributes_of xs) (attributes_of ys))

-- the attributes up to one more entity
pub attributes_next : (es : List Entity) (i : ℕ) → i < length es → attributes_of (take (i + 1) es) ≡ attributes_of (take i es) ++ own_attributes (get_or es i no_entity)
attributes_next es i l =
    ap attributes_of (take_more es i no_entity l) ∙ attributes_append (take i es) (get_or es i no_entity ∷ []) ∙ ap (λ (l : List Origin). attributes_of (take i es) ++ l) (append-nil (own_attributes (get_or es i no_entity)))
