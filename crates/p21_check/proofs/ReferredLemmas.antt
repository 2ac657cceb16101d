-- The references of an instance, kept apart from it.
use Rattle.std.proofs.Common.{◌≡◌, ◌↔◌, ◌⊎◌, ⊎_elim, inl, inr, ℕ, zero, suc, ◌+◌, ◌<◌, ◌≤◌, Bool, false, List, [], ◌∷◌, ◌++◌, Option, Some, None, map, length, get_or, append_assoc, refl, sym, ap, subst, ◌∙◌, arith}
use Rattle.std.specs.Prelude.{All, Any, Contains, IsTrue, slice_get}
use Rattle.std.proofs.lemmas.Bool.{false≢true, cases_lt}
use Rattle.std.proofs.lemmas.List.{append-nil, map-append, length-map, get_or-map, get_or_append_left, get_or-append-add}
use Rattle.std.proofs.lemmas.List.Elements.{All-nil, All-cons, All-append, All-contains, All-map, Contains-append_left, Contains-append_right, Contains-append_cases}
use Rattle.p21_express.specs.Schema.{Schema}
use Rattle.p21_express.specs.WellFormed.{Origin}
use Rattle.p21_tree.specs.Tree.{Tree, Trees, reference, items, typed, cons}
use Rattle.p21_tree.specs.Grammar.{Entry}
use Rattle.p21_tree.specs.Plain.{plain, plain_all}
use Rattle.p21_tree.specs.Sentence.{Instance}
use Rattle.p21_tree.specs.Views.{plain_record}
use Rattle.p21_tree.specs.declared.faults.FaultKind.{FaultKind}
use Rattle.p21_tree.specs.declared.faults.FaultKind.TheVariants as kind
use Rattle.p21_tree.specs.declared.instances.Record.{Record}
use Rattle.p21_tree.specs.declared.params.Param.{Param}
use Rattle.p21_schema.specs.declared.ids.EntityId.{EntityId}
use Rattle.p21_schema.specs.declared.ids.TypeId.{TypeId}
use Rattle.p21_schema.specs.Place.{no_entity, no_type, entity_name, IsEntityOf, type_name, IsTypeOf}
use Rattle.p21_schema.specs.Declaration.{Declaration}
use Rattle.p21_check.specs.declared.referred.Reference.{Reference as Kept}
use Rattle.p21_check.specs.declared.wanted.Wanted.{Wanted}
use Rattle.p21_check.specs.declared.wanted.Wanted.TheVariants as asked
use Rattle.p21_check.specs.EntitySet.{IsInSet}
use Rattle.p21_check.specs.Attributes.{AreAttributes}
use Rattle.p21_check.specs.LocalFault.{tree_get}
use Rattle.p21_check.specs.Instances.{simple_instance}
use Rattle.p21_check.specs.References.{Reference, HasReference, IsWanted, IsAtFault, IsReferenceFault, name_count}
use Rattle.p21_check.specs.Walk.{IsAnswered}
use Rattle.p21_check.specs.Wanted.{Admits, Asks, AsksAmong, IsAsked, IsAskedInside, IsAskedOfElements, IsName, is_name}
use Rattle.p21_check.specs.Wanted as asks
use Rattle.p21_check.specs.Asked.{AskedBy, RefersCounting}
use Rattle.p21_check.specs.Referred.{numbered, plain_reference, Adds, AreReferencesOf, HasSomewhere, IsNumberOf, IsReferenceOf, Somewhere}
use Rattle.p21_check.proofs.AskerLemmas.{answered_well, asked_reference, reference_asked}
use Rattle.p21_check.proofs.AskedLemmas.{AskedUpTo, no_declaration, or_asked, up_to_more}
use Rattle.p21_check.proofs.AttributeLemmas.{param_there, param_below}
use Rattle.p21_check.proofs.Tests.{both, turned}
use Rattle.p21_check.proofs.WalkLemmas.{asks_below, refers_below}

-- ---- what a number stands for

number_of_entity : (s : Schema) (e : EntityId) (n : ℕ) → IsEntityOf s e → n ≡ e.index → get_or (numbered s) n [] ≡ entity_name s e
number_of_entity s e n h is =
    ap (λ k. get_or (numbered s) k []) is ∙ get_or_append_left (map (λ e. e.name) s.entities) (map (λ t. t.name) s.types) [] e.index (subst (λ k. e.index < k) (sym (length-map s.entities (λ e. e.name))) h)
    ∙ get_or-map (λ e. e.name) s.entities e.index no_entity [] h

number_of_select : (s : Schema) (t : TypeId) (n : ℕ) → IsTypeOf s t → n ≡ length s.entities + t.index → get_or (numbered s) n [] ≡ type_name s t
number_of_select s t n h is =
    ap (λ k. get_or (numbered s) k []) (is ∙ ap (λ k. k + t.index) (sym (length-map s.entities (λ e. e.name)))) ∙ get_or-append-add (map (λ e. e.name) s.entities) (map (λ t. t.name) s.types) t.index []
    ∙ get_or-map (λ t. t.name) s.types t.index no_type [] h

-- ---- whether a reference is answered

-- by the instance that has the name
answered_by : (s : Schema) (named : ℕ → Option Instance) (r : Reference) (i : Instance) (n : List ℕ) → r.wanted ≡ n → named r.name ≡ Some i → IsWanted s i n ↔ IsAnswered s named r
answered_by s named r i n e has = (
  λ w. record { found = i; has = has; wanted_ = subst (IsWanted s i) (sym e) w },
  λ a.
      let same : a.found ≡ i = (let f = a.has in cc) in
      subst (λ j. IsWanted s j n) same (subst (IsWanted s a.found) e a.wanted_),
)

-- it is answered where what is asked for admits the instance
pub admitted : (s : Schema) (w : Wanted) (r : Kept) (named : ℕ → Option Instance) (i : Instance) (b : Bool) → IsAsked s w → IsNumberOf s w r.wanted → named r.name ≡ Some i → (IsTrue b ↔ Admits s w i) → (IsTrue b ↔ IsAnswered s named (plain_reference s r))
admitted s asked.Nothing r named i b a n has f = absurd n
admitted s (asked.Entity e) r named i b a n has f =
    both f (answered_by s named (plain_reference s r) i (entity_name s e) (number_of_entity s e r.wanted a n) has)
admitted s (asked.Select t) r named i b a n has f =
    both f (answered_by s named (plain_reference s r) i (type_name s t) (number_of_select s t r.wanted a.0 n) has)
admitted s (asked.Elements e) r named i b a n has f = absurd n

-- ---- that the references decide

contains_map : {X Y : Type 0} (f : X → Y) (xs : List X) (x : X) → Contains xs x → Contains (map f xs) (f x)
contains_map f xs x h = (h.0, subst (λ n. h.0 < n) (sym (length-map xs f)) h.1, get_or-map f xs h.0 x (f x) h.1 ∙ ap f h.2)

-- a reference that is not answered is at fault
unanswered_fault : (s : Schema) (named : ℕ → Option Instance) (r : Reference) (q a : ℕ) → ¬ (IsAnswered s named r) → (k : FaultKind) × IsAtFault s named r q a k
unanswered_fault s named r q a not_answered = of (named r.name) refl where
  of : (o : Option Instance) → named r.name ≡ o → (k : FaultKind) × IsAtFault s named r q a k
  of None e = (kind.MissingReference q a r.name, inl (e, refl))
  of (Some i) e = (kind.WrongReference q a r.name, inr (i, e, (λ w. not_answered (record { found = i; has = e; wanted_ = w })), refl))

module _ (s : Schema) (named : ℕ → Option Instance) (i : Instance) (rs : List Kept) (are : AreReferencesOf s i rs) where
  pub all_answered : All (λ r. IsAnswered s named (plain_reference s r)) rs → IsReferenceFault s named i None
  all_answered all q a p k x =
      let r = x.refers_to in
      answered_well s named r q a k (All-contains (IsAnswered s named) (map (plain_reference s) rs) r (All-map (IsAnswered s named) (plain_reference s) rs all) ((are.same r).1 (q, a, p, x.stands))) x.fault

  pub one_unanswered : Any (λ r. ¬ (IsAnswered s named (plain_reference s r))) rs → ¬ (IsReferenceFault s named i None)
  one_unanswered any none =
      let r = plain_reference s any.1 in
      let at = (are.same r).0 (contains_map (plain_reference s) rs any.1 (any.0, any.2, any.3)) in
      let bad_ = unanswered_fault s named r at.0 at.1 any.4 in
      none at.0 at.1 at.2 bad_.0 (record { refers_to = r; stands = at.3; fault = bad_.1 })

-- ---- what is added

-- nothing, where there is no such reference
pub adds_none : (s : Schema) (A : Reference → Type 0) (xs : List Kept) → ((r : Reference) → ¬ (A r)) → Adds s A xs xs
adds_none s A xs none = ([], sym (append-nil xs), record { known_ = All-nil (IsReferenceOf s); same = λ r. ((λ h. absurd (let less = h.1 in omega arith)), λ a. absurd (none r a)) })

-- one, where there is no other
pub adds_one : (s : Schema) (A : Reference → Type 0) (xs : List Kept) (k : Kept) → IsReferenceOf s k → ((r : Reference) → A r ↔ (plain_reference s k ≡ r)) → Adds s A xs (xs ++ k ∷ [])
adds_one s A xs k known is = (
  k ∷ [],
  refl,
  record { known_ = All-cons (IsReferenceOf s) k [] known (All-nil (IsReferenceOf s)); same = λ r. ((λ h. (is r).1 (only r h.0 h.1 h.2)), λ a. (0, omega arith, (is r).0 a)) },
) where
  only : (r : Reference) (i : ℕ) → i < 1 → get_or (plain_reference s k ∷ []) i r ≡ r → plain_reference s k ≡ r
  only r zero less e = e
  only r (suc i) less e = absurd (omega arith)

-- some, and others after them
pub adds_both : (s : Schema) (A B C : Reference → Type 0) (xs ys zs : List Kept) → ((r : Reference) → C r ↔ (A r ⊎ B r)) → Adds s A xs ys → Adds s B ys zs → Adds s C xs zs
adds_both s A B C xs ys zs or a b = (
  a.0 ++ b.0,
  b.1 ∙ ap (λ l. l ++ b.0) a.1 ∙ append_assoc xs a.0 b.0,
  record { known_ = All-append (IsReferenceOf s) a.0 b.0 a.2.known_ b.2.known_; same = λ r. (there r, back r) },
) where
  there : (r : Reference) → Contains (map (plain_reference s) (a.0 ++ b.0)) r → C r
  there r h =
      (or r).1
      (⊎_elim
      (λ (x : Contains (map (plain_reference s) a.0) r). inl ((a.2.same r).0 x))
      (λ (x : Contains (map (plain_reference s) b.0) r). inr ((b.2.same r).0 x))
      (Contains-append_cases (map (plain_reference s) a.0) (map (plain_reference s) b.0) r (subst (λ (l : List Reference). Contains l r) (map-append (plain_reference s) a.0 b.0) h)))

  back : (r : Reference) → C r → Contains (map (plain_reference s) (a.0 ++ b.0)) r
  back r c =
      subst (λ (l : List Reference). Contains l r) (sym (map-append (plain_reference s) a.0 b.0))
      (⊎_elim
      (λ (x : A r). Contains-append_left (map (plain_reference s) a.0) (map (plain_reference s) b.0) r ((a.2.same r).1 x))
      (λ (x : B r). Contains-append_right (map (plain_reference s) a.0) (map (plain_reference s) b.0) r ((b.2.same r).1 x))
      ((or r).0 c))

-- the same in other words
pub adds_same : (s : Schema) (A B : Reference → Type 0) (xs ys : List Kept) → ((r : Reference) → B r ↔ A r) → Adds s A xs ys → Adds s B xs ys
adds_same s A B xs ys is a = (a.0, a.1, record { known_ = a.2.known_; same = λ r. both (a.2.same r) (turned (is r)) })

-- at whatever place
pub somewhere : {A B : ℕ → Reference → Type 0} → ((k : ℕ) (r : Reference) → A k r ↔ B k r) → (r : Reference) → Somewhere A r ↔ Somewhere B r
somewhere is r = ((λ a. (a.0, (is a.0 r).0 a.1)), λ b. (b.0, (is b.0 r).1 b.1))

-- ---- of an instance name

same_reference : (r q : Reference) → r.name ≡ q.name → r.wanted ≡ q.wanted → r ≡ q
same_reference r q e f = ap (λ n. record { name = n; wanted = r.wanted }) e ∙ ap (λ (n : List ℕ). record { name = q.name; wanted = n }) f

-- an instance name stands for the one reference whose number has this name
name_stands : (s : Schema) (k : Kept) (n : List ℕ) (r : Reference) → (plain_reference s k).wanted ≡ n → Somewhere (λ place r. IsName (reference k.name) place r n) r ↔ (plain_reference s k ≡ r)
name_stands s k n r e = (
  λ h. same_reference (plain_reference s k) r (let f = h.1.name in cc) (e ∙ sym h.1.for_),
  λ is. (0, record { name = ap (λ (q : Reference). reference q.name) is; first = refl; for_ = sym (ap (λ (q : Reference). q.wanted) is) ∙ e }),
)

pub name_asked : (s : Schema) (w : Wanted) (k : Kept) → IsAsked s w → IsNumberOf s w k.wanted → (r : Reference) → Somewhere (Asks s w (reference k.name)) r ↔ (plain_reference s k ≡ r)
name_asked s asked.Nothing k a n r = absurd n
name_asked s (asked.Entity e) k a n r = name_stands s k (entity_name s e) r (number_of_entity s e k.wanted a n)
name_asked s (asked.Select t) k a n r =
    let stands = name_stands s k (type_name s t) r (number_of_select s t k.wanted a.0 n) in
    ((λ h. stands.0 (h.0, untyped h.0 h.1)), λ is. (let h = stands.1 is in (h.0, inl h.1))) where
      untyped : (place : ℕ) → Asks s (asked.Select t) (reference k.name) place r → IsName (reference k.name) place r (type_name s t)
      untyped place (inl h) = h
      untyped place (inr h) = absurd (let f = h.typed_ in cc)
name_asked s (asked.Elements e) k a n r = absurd n

-- where no instance is asked for, an instance name is no reference
pub no_name_asked : (s : Schema) (w : Wanted) (n : ℕ) → is_name w ≡ false → (r : Reference) → ¬ (Somewhere (Asks s w (reference n)) r)
no_name_asked s asked.Nothing n h r a = a.1
no_name_asked s (asked.Entity e) n h r a = false≢true (sym h)
no_name_asked s (asked.Select t) n h r a = false≢true (sym h)
no_name_asked s (asked.Elements e) n h r a = let f = a.1.listed in cc

-- ---- of a parameter

-- a parameter that holds no instance name has no reference

pub nameless_asked : (s : Schema) (w : Wanted) (p : Tree) → name_count p ≡ 0 → (r : Reference) → ¬ (Somewhere (Asks s w p) r)
nameless_asked s w p none r a = let below = asks_below s w p a.0 r a.1 in omega (arith, none, below)

pub nameless_parameter : (s : Schema) (S : List ℕ → Type 0) (o : Origin) (p : Tree) → name_count p ≡ 0 → (r : Reference) → ¬ (Somewhere (AskedBy s S o p) r)
nameless_parameter s S o p none r a = let below = refers_below a.1.refers.refers in omega (arith, none, below)

-- an element, and those after it
pub adds_behind : (s : Schema) (w : Wanted) (t : Tree) (ts : Trees) (xs ys zs : List Kept) → Adds s (Somewhere (Asks s w t)) xs ys → Adds s (Somewhere (AsksAmong s w ts)) ys zs → Adds s (Somewhere (AsksAmong s w (cons t ts))) xs zs
adds_behind s w t ts xs ys zs = adds_both s (Somewhere (Asks s w t)) (Somewhere (AsksAmong s w ts)) (Somewhere (AsksAmong s w (cons t ts))) xs ys zs (λ r. ((λ h. split h.0 r h.1), join r)) where
  split : (place : ℕ) (r : Reference) → AsksAmong s w (cons t ts) place r → Somewhere (Asks s w t) r ⊎ Somewhere (AsksAmong s w ts) r
  split place r (asks.here a) = inl (place, a)
  split _ r (asks.behind {place = k} a) = inr (k, a)

  join : (r : Reference) → Somewhere (Asks s w t) r ⊎ Somewhere (AsksAmong s w ts) r → Somewhere (AsksAmong s w (cons t ts)) r
  join r (inl h) = (h.0, asks.here h.1)
  join r (inr h) = (name_count t + h.0, asks.behind h.1)

-- what is asked of elements is asked of the list
pub items_asked : (s : Schema) (w inner : Wanted) (t : Tree) (ts : Trees) → t ≡ items ts → IsAskedOfElements s w inner → (r : Reference) → Somewhere (Asks s w t) r ↔ Somewhere (AsksAmong s inner ts) r
items_asked s w inner t ts e a = somewhere (λ k r. subst (λ (u : Tree). Asks s w u k r ↔ AsksAmong s inner ts k r) (sym e) (a.same ts k r))

-- what is asked inside is asked of the typed parameter
pub typed_asked : (s : Schema) (w inner : Wanted) (t p : Tree) (keyword : List ℕ) → t ≡ typed keyword p → IsAskedInside s w inner keyword → (r : Reference) → Somewhere (Asks s w t) r ↔ Somewhere (Asks s inner p) r
typed_asked s w inner t p keyword e a = somewhere (λ k r. subst (λ (u : Tree). Asks s w u k r ↔ Asks s inner p k r) (sym e) (a.same p k r))

-- what one declaration more asks for
pub adds_declaration : (s : Schema) (S : List ℕ → Type 0) (ds : List Declaration) (i : ℕ) (p : Tree) (w : Wanted) → i < length ds → ((k : ℕ) (r : Reference) → RefersCounting s S ds (get_or ds i no_declaration) p k r ↔ Asks s w p k r) → (xs ys zs : List Kept) →
    Adds s (Somewhere (AskedUpTo s S ds i p)) xs ys → Adds s (Somewhere (Asks s w p)) ys zs → Adds s (Somewhere (AskedUpTo s S ds (i + 1) p)) xs zs
adds_declaration s S ds i p w less same xs ys zs = adds_both s (Somewhere (AskedUpTo s S ds i p)) (Somewhere (Asks s w p)) (Somewhere (AskedUpTo s S ds (i + 1) p)) xs ys zs (λ r. (split r, join r)) where
  more : (k : ℕ) (r : Reference) → or_asked (AskedUpTo s S ds i p) (RefersCounting s S ds (get_or ds i no_declaration) p) k r ↔ AskedUpTo s S ds (i + 1) p k r
  more = up_to_more s S ds i p no_declaration less

  split : (r : Reference) → Somewhere (AskedUpTo s S ds (i + 1) p) r → Somewhere (AskedUpTo s S ds i p) r ⊎ Somewhere (Asks s w p) r
  split r h = ⊎_elim (λ (x : AskedUpTo s S ds i p h.0 r). inl (h.0, x)) (λ (x : RefersCounting s S ds (get_or ds i no_declaration) p h.0 r). inr (h.0, (same h.0 r).0 x)) ((more h.0 r).1 h.1)

  join : (r : Reference) → Somewhere (AskedUpTo s S ds i p) r ⊎ Somewhere (Asks s w p) r → Somewhere (AskedUpTo s S ds (i + 1) p) r
  join r (inl h) = (h.0, (more h.0 r).0 (inl h.1))
  join r (inr h) = (h.0, (more h.0 r).0 (inr ((same h.0 r).1 h.1)))

-- ---- of a simple instance

-- the references in the parameters before one
abbrev pub HasBelow : Schema → Instance → ℕ → Reference → Type 0
HasBelow s i n r = (a : ℕ) × (a < n) × (place : ℕ) × HasReference s i 0 a place r

module _ (s : Schema) (name at : ℕ) (e : Record) (S : List ℕ → Type 0) (set : (n : List ℕ) → S n ↔ IsInSet s (simple_instance name at (plain_record e)) n) where
  abbrev one : Instance
  one = simple_instance name at (plain_record e)

  -- those of one parameter more
  pub adds_parameter : (os : List Origin) (a : ℕ) (d : Param) (o : Origin) → AreAttributes s false e.keyword.now os → ((os : List Origin) → AreAttributes s false e.keyword.now os → slice_get os a ≡ Some o) → a < length e.params → d ≡ get_or e.params a d →
      (xs ys zs : List Kept) → Adds s (HasBelow s one a) xs ys → Adds s (Somewhere (AskedBy s S o (plain d))) ys zs → Adds s (HasBelow s one (a + 1)) xs zs
  adds_parameter os a d o are for_ less is xs ys zs = adds_both s (HasBelow s one a) (Somewhere (AskedBy s S o (plain d))) (HasBelow s one (a + 1)) xs ys zs (λ r. (split r, join r)) where
    given : tree_get (plain_all e.params) a ≡ Some (plain d)
    given = param_there e.params a d less ∙ ap (λ (x : Param). Some (plain x)) (sym is)

    here : (place : ℕ) (r : Reference) → HasReference s one 0 a place r → AskedBy s S o (plain d) place r
    here place r h =
        let same : h.entry ≡ plain_record e = (let x = h.there in cc) in
        let are' = subst (λ (z : Entry). AreAttributes s false z.keyword h.attributes) same h.are in
        let given' = subst (λ (z : Entry). tree_get z.params a ≡ Some h.parameter) same h.given in
        let of : h.attribute ≡ o = (let x = h.for_ in let y = for_ h.attributes are' in cc) in
        let param : h.parameter ≡ plain d = (let x = given' in let y = given in cc) in
        subst (λ (x : Origin). AskedBy s S x (plain d) place r) of (subst (λ (t : Tree). AskedBy s S h.attribute t place r) param (reference_asked s one S 0 a place r (λ n. turned (set n)) h))

    split : (r : Reference) → HasBelow s one (a + 1) r → HasBelow s one a r ⊎ Somewhere (AskedBy s S o (plain d)) r
    split r h =
        ⊎_elim
        (λ (x : h.0 < a). inl (h.0, x, h.2, h.3))
        (λ (x : a ≤ h.0). inr (h.2, here h.2 r (let same : h.0 ≡ a = (let k = h.1 in omega arith) in subst (λ n. HasReference s one 0 n h.2 r) same h.3)))
        (cases_lt h.0 a)

    join : (r : Reference) → HasBelow s one a r ⊎ Somewhere (AskedBy s S o (plain d)) r → HasBelow s one (a + 1) r
    join r (inl h) = (h.0, (let k = h.1 in omega arith), h.2, h.3)
    join r (inr h) = (a, omega arith, h.0, asked_reference s one S 0 a h.0 r (plain_record e) os o (plain d) (λ n. turned (set n)) refl are (for_ os are) given h.1)

-- all parameters are those of the instance
pub all_below : (s : Schema) (name at : ℕ) (e : Record) (n : ℕ) → length e.params ≤ n → (r : Reference) → HasSomewhere s (simple_instance name at (plain_record e)) r ↔ HasBelow s (simple_instance name at (plain_record e)) n r
all_below s name at e n long r = ((λ h. first h.0 h.1 h.2 h.3), λ h. (0, h.0, h.2, h.3)) where
  first : (q a place : ℕ) → HasReference s (simple_instance name at (plain_record e)) q a place r → HasBelow s (simple_instance name at (plain_record e)) n r
  first zero a place h =
      let same : h.entry ≡ plain_record e = (let x = h.there in cc) in
      let below = param_below e.params a h.parameter (subst (λ (z : Entry). tree_get z.params a ≡ Some h.parameter) same h.given) in
      (a, omega (arith, long, below), place, h)
  first (suc q) a place h = absurd (let x = h.there in cc)
