-- A header section and an instance have one fault, or none.
use Rattle.std.proofs.Common.{◌≡◌, ℕ, ◌+◌, ◌<◌, inl, inr, cond, eqb, List, [], ◌∷◌, ◌++◌, length, get_or, Option, Some, None, refl, sym, ap, subst, ◌∙◌, arith, length-append}
use Rattle.std.proofs.lemmas.List.{get_or_append_left, get_or-append-add}
use Rattle.p21_text.specs.Items.{Item, ItemsOf}
use Rattle.p21_text.specs.Laws.{HasOneItemListAtMost}
use Rattle.p21_express.specs.Schema.{Schema, Expr}
use Rattle.p21_tree.specs.Tree.{Tree, Trees, absent, derived, int, real, str, enumeration, binary, reference, items, typed, nil, cons}
use Rattle.p21_tree.specs.Sentence.{Instance, Opening}
use Rattle.p21_tree.specs.declared.faults.FaultKind.{FaultKind}
use Rattle.p21_tree.specs.declared.faults.FaultKind.TheVariants as kind
use Rattle.p21_check.specs.Header.{HasSchemaString, NameSchema, IsHeaderFault, only}
use Rattle.p21_check.specs.LocalFault.{HasFault, kind_number, kind_record, kind_attribute, ComesBefore, by_number, by_record, by_attribute, tree_get}
use Rattle.p21_check.specs.References.{Reference, Refers, RefersAmong, HasReference, HasFaultAt, IsAtFault, IsBefore, IsFirstFault, IsReferenceFault, name_count, names_count}
use Rattle.p21_check.specs.References as refers
use Rattle.p21_check.specs.Laws.{HasOneHeaderFault, HasOneLocalFault, HasOneReferenceFault}
use Rattle.p21_check.proofs.HeaderParams.{same_params}
use Rattle.p21_check.proofs.WalkLemmas.{refers_below}

same_number : (m n : ℕ) → ¬ (m < n) → ¬ (n < m) → m ≡ n
same_number m n h k = omega arith

-- The header section.

-- what is known where the header section has this fault, or none
data Header (s : Schema) (o : Opening) : Option FaultKind → Type 0 where
  entities : ((body : List ℕ) → ¬ (HasSchemaString o body)) → Header s o (Some kind.HeaderEntities)
  wrong : (body : List ℕ) (found : List Item) → HasSchemaString o body → ItemsOf body found → ¬ (NameSchema found s.name) → Header s o (Some kind.WrongSchema)
  right : (body : List ℕ) (found : List Item) → HasSchemaString o body → ItemsOf body found → NameSchema found s.name → Header s o None

header_case : (s : Schema) (o : Opening) (a : Option FaultKind) → IsHeaderFault s o a → Header s o a
header_case s o None h = right h.0 h.1 h.2 h.3 h.4
header_case s o (Some kind.HeaderEntities) h = entities h
header_case s o (Some kind.WrongSchema) h = wrong h.0 h.1 h.2 h.3 h.4
header_case s o (Some _) h = absurd h

body_of : Trees → List ℕ
body_of (cons (items (cons (str body) nil)) nil) = body
body_of other = []

body_once : (o : Opening) (a b : List ℕ) → HasSchemaString o a → HasSchemaString o b → a ≡ b
unfolding body_of
body_once o a b h k = ap body_of (same_params o (only (items (only (str a)))) (only (items (only (str b)))) h k)

-- no body has two lists of items
abbrev pub OneItemList : Type 0
OneItemList = (raw : List ℕ) → HasOneItemListAtMost raw

-- one string does not name the schema and name it not
both_names : OneItemList → (s : Schema) (o : Opening) (a b : List ℕ) (xs ys : List Item) → HasSchemaString o a → HasSchemaString o b → ItemsOf a xs → ItemsOf b ys → ¬ (NameSchema xs s.name) → NameSchema ys s.name → ⊥
both_names one s o a b xs ys h k x y other named =
    let same : xs ≡ ys = one b xs ys (subst (λ z. ItemsOf z xs) (body_once o a b h k) x) y in
    other (subst (λ z. NameSchema z s.name) (sym same) named)

header_same : OneItemList → (s : Schema) (o : Opening) (a b : Option FaultKind) → Header s o a → Header s o b → a ≡ b
header_same one s o _ _ (entities n) (entities m) = refl
header_same one s o _ _ (entities n) (wrong body found h i w) = absurd (n body h)
header_same one s o _ _ (entities n) (right body found h i w) = absurd (n body h)
header_same one s o _ _ (wrong body found h i w) (entities n) = absurd (n body h)
header_same one s o _ _ (wrong a xs h x n) (wrong b ys k y m) = refl
header_same one s o _ _ (wrong a xs h x n) (right b ys k y m) = absurd (both_names one s o a b xs ys h k x y n m)
header_same one s o _ _ (right body found h i w) (entities n) = absurd (n body h)
header_same one s o _ _ (right a xs h x n) (wrong b ys k y m) = absurd (both_names one s o b a ys xs k h y x m n)
header_same one s o _ _ (right a xs h x n) (right b ys k y m) = refl

pub header_once : OneItemList → (s : Schema) (o : Opening) → HasOneHeaderFault s o
header_once one s o a b h k = header_same one s o a b (header_case s o a h) (header_case s o b k)

-- An instance by itself.

-- the kind of this number, for this record and attribute
kind_of : ℕ → ℕ → ℕ → FaultKind
kind_of n r a = cond (eqb n 8) kind.UnknownEntity (cond (eqb n 9) kind.AbstractEntity (cond (eqb n 10) kind.BadComplex (cond (eqb n 11) (kind.WrongCount r) (cond (eqb n 12) (kind.BadAttribute r a) (kind.RepeatedReference r a)))))

kind_is : (s : Schema) (i : Instance) (k : FaultKind) → HasFault s i k → k ≡ kind_of (kind_number k) (kind_record k) (kind_attribute k)
unfolding kind_of
kind_is s i kind.UnknownEntity h = refl
kind_is s i kind.AbstractEntity h = refl
kind_is s i kind.BadComplex h = refl
kind_is s i (kind.WrongCount r) h = refl
kind_is s i (kind.BadAttribute r a) h = refl
kind_is s i (kind.RepeatedReference r a) h = refl
kind_is s i _ h = absurd h

-- what comes neither before nor after is the same
kind_same : (s : Schema) (i : Instance) (j k : FaultKind) → HasFault s i j → HasFault s i k → ¬ (ComesBefore j k) → ¬ (ComesBefore k j) → j ≡ k
kind_same s i j k f g before behind =
    let number : kind_number j ≡ kind_number k = same_number (kind_number j) (kind_number k) (λ h. before (by_number h)) (λ h. behind (by_number h)) in
    let rec_ : kind_record j ≡ kind_record k = same_number (kind_record j) (kind_record k) (λ h. before (by_record number h)) (λ h. behind (by_record (sym number) h)) in
    let attribute : kind_attribute j ≡ kind_attribute k = same_number (kind_attribute j) (kind_attribute k) (λ h. before (by_attribute number rec_ h)) (λ h. behind (by_attribute (sym number) (sym rec_) h)) in
    let one : j ≡ kind_of (kind_number j) (kind_record j) (kind_attribute j) = kind_is s i j f in
    let other : k ≡ kind_of (kind_number k) (kind_record k) (kind_attribute k) = kind_is s i k g in
    cc

pub local_once : (s : Schema) (i : Instance) → HasOneLocalFault s i
local_once s i None None h k = refl
local_once s i None (Some y) h k = absurd (h y k.0)
local_once s i (Some x) None h k = absurd (k x h.0)
local_once s i (Some x) (Some y) h k = ap Some (kind_same s i x y h.0 k.0 (λ b. k.1 x b h.0) (λ b. h.1 y b k.0))

-- The references of an instance.

mutual
  -- the instance names of a parameter, from the left
  names : Tree → List ℕ
  names absent = []
  names derived = []
  names (int s) = []
  names (real s) = []
  names (str s) = []
  names (enumeration s) = []
  names (binary s) = []
  names (reference n) = n ∷ []
  names (items ts) = all_names ts
  names (typed k t) = names t

  all_names : Trees → List ℕ
  all_names nil = []
  all_names (cons t ts) = names t ++ all_names ts

mutual
  unfolding names

  names_length : (t : Tree) → length (names t) ≡ name_count t
  names_length absent = refl
  names_length derived = refl
  names_length (int s) = refl
  names_length (real s) = refl
  names_length (str s) = refl
  names_length (enumeration s) = refl
  names_length (binary s) = refl
  names_length (reference n) = refl
  names_length (items ts) = all_length ts
  names_length (typed k t) = names_length t

  all_length : (ts : Trees) → length (all_names ts) ≡ names_count ts
  all_length nil = refl
  all_length (cons t ts) = let h = names_length t in let k = all_length ts in simp length-append (omega arith)

mutual
  unfolding names

  -- a reference has the instance name at its place, whatever is wanted there
  name_at : {s : Schema} {x : Expr} {p : Tree} {place : ℕ} {r : Reference} → Refers s x p place r → get_or (names p) place 0 ≡ r.name
  name_at (refers.entity h) = refl
  name_at (refers.select h) = refl
  name_at (refers.typed_as h reach r) = name_at r
  name_at (refers.defined t d m u r) = name_at r
  name_at (refers.element r) = name_among r

  name_among : {s : Schema} {x : Expr} {ts : Trees} {place : ℕ} {r : Reference} → RefersAmong s x ts place r → get_or (all_names ts) place 0 ≡ r.name
  name_among (refers.here {t} {ts} {place} r) =
      let below : place < length (names t) = (let h = refers_below r in let e = names_length t in omega arith) in
      get_or_append_left (names t) (all_names ts) 0 place below ∙ name_at r
  name_among (refers.behind {t} {ts} {place} r) =
      ap (λ k. get_or (names t ++ all_names ts) (k + place) 0) (sym (names_length t)) ∙ (get_or-append-add (names t) (all_names ts) place 0 ∙ name_among r)

-- one name stands at a place of an instance
name_once : (s : Schema) (i : Instance) (q a p : ℕ) (r t : Reference) → HasReference s i q a p r → HasReference s i q a p t → r.name ≡ t.name
name_once s i q a p r t h k =
    let entries : Some h.entry ≡ Some k.entry = sym h.there ∙ k.there in
    let entry : h.entry ≡ k.entry = cc in
    let parameters : Some h.parameter ≡ Some k.parameter = sym h.given ∙ (ap (λ e. tree_get e.params a) entry ∙ k.given) in
    let parameter : h.parameter ≡ k.parameter = cc in
    sym (name_at h.refers) ∙ (ap (λ x. get_or (names x) p 0) parameter ∙ name_at k.refers)

-- one fault stands at a place
fault_same : (s : Schema) (named : ℕ → Option Instance) (q a : ℕ) (r t : Reference) (j k : FaultKind) → r.name ≡ t.name → IsAtFault s named r q a j → IsAtFault s named t q a k → j ≡ k
fault_same s named q a r t j k e (inl f) (inl g) = f.1 ∙ (ap (λ n. kind.MissingReference q a n) e ∙ sym g.1)
fault_same s named q a r t j k e (inl f) (inr g) = absurd (let h : None ≡ Some g.0 = sym f.0 ∙ (ap named e ∙ g.1) in cc)
fault_same s named q a r t j k e (inr f) (inl g) = absurd (let h : Some f.0 ≡ None = sym f.1 ∙ (ap named e ∙ g.0) in cc)
fault_same s named q a r t j k e (inr f) (inr g) = f.3 ∙ (ap (λ n. kind.WrongReference q a n) e ∙ sym g.3)

fault_at_once : (s : Schema) (named : ℕ → Option Instance) (i : Instance) (q a p : ℕ) (j k : FaultKind) → HasFaultAt s named i q a p j → HasFaultAt s named i q a p k → j ≡ k
fault_at_once s named i q a p j k f g =
    fault_same s named q a f.refers_to g.refers_to j k (name_once s i q a p f.refers_to g.refers_to f.stands g.stands) f.fault g.fault

first_same : (s : Schema) (named : ℕ → Option Instance) (i : Instance) (j k : FaultKind) → IsFirstFault s named i j → IsFirstFault s named i k → j ≡ k
first_same s named i j k f g =
    let behind = λ (h : IsBefore f.rec_ f.attr f.place g.rec_ g.attr g.place). g.first f.rec_ f.attr f.place j h f.has in
    let before = λ (h : IsBefore g.rec_ g.attr g.place f.rec_ f.attr f.place). f.first g.rec_ g.attr g.place k h g.has in
    let q : f.rec_ ≡ g.rec_ = same_number f.rec_ g.rec_ (λ h. behind (refers.by_record h)) (λ h. before (refers.by_record h)) in
    let a : f.attr ≡ g.attr = same_number f.attr g.attr (λ h. behind (refers.by_attribute q h)) (λ h. before (refers.by_attribute (sym q) h)) in
    let p : f.place ≡ g.place = same_number f.place g.place (λ h. behind (refers.by_place q a h)) (λ h. before (refers.by_place (sym q) (sym a) h)) in
    let there : HasFaultAt s named i g.rec_ g.attr g.place j = subst (λ x. HasFaultAt s named i g.rec_ g.attr x j) p (subst (λ x. HasFaultAt s named i g.rec_ x f.place j) a (subst (λ x. HasFaultAt s named i x f.attr f.place j) q f.has)) in
    fault_at_once s named i g.rec_ g.attr g.place j k there g.has

pub reference_once : (s : Schema) (named : ℕ → Option Instance) (i : Instance) → HasOneReferenceFault s named i
reference_once s named i None None h k = refl
reference_once s named i None (Some y) h k = absurd (h k.rec_ k.attr k.place y k.has)
reference_once s named i (Some x) None h k = absurd (k h.rec_ h.attr h.place x h.has)
reference_once s named i (Some x) (Some y) h k = ap Some (first_same s named i x y h k)
