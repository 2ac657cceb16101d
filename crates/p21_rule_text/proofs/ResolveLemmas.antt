-- What the names of attributes in clauses are.
use Rattle.std.proofs.Common.{◌≡◌, ℕ, zero, suc, ◌+◌, ◌<◌, ◌≤◌, Bool, true, false, List, [], ◌∷◌, ◌++◌, Option, Some, None, MatchBool, length, get_or, drop, map, refl, sym, ap, subst, ◌∙◌, inl, inr, ⊎_elim, arith, add-one, ◌⊎◌}
use Rattle.std.specs.Prelude.{slice_get, is_some, option_map, not}
use Rattle.std.proofs.lemmas.Bool.{cases_order}
use Rattle.std.proofs.lemmas.List.{drop_more}
use Rattle.p21_express.specs.declared.declarations.AttrDecl.{AttrDecl}
use Rattle.p21_express.specs.Grammar.{Naming}
use Rattle.p21_express.specs.Plain.{plain_attribute}
use Rattle.p21_express.specs.Schema.{Schema, Entity}
use Rattle.p21_express.specs.WellFormed.{IsAncestor, IsEntity, IsIn, Leads, Origin, new_explicit, with_new}
use Rattle.p21_schema.specs.Place.{entity_name, no_entity, IsEntityOf}
use Rattle.p21_schema.specs.Row.{attribute_at, attributes_of, no_attribute, own_attributes, IsAttributeOf}
use Rattle.p21_schema.specs.declared.ids.AttrId.{AttrId}
use Rattle.p21_schema.specs.declared.ids.EntityId.{EntityId}
use Rattle.p21_rule_text.specs.Entities.{EntityClauses}
use Rattle.p21_schema.specs.Declaration.{AreDeclarations, Chosen, Declaration}
use Rattle.p21_schema.specs.Declaration as chosen
use Rattle.p21_rule_text.specs.Resolve.{DeclaresExplicit, IsAgain, IsAmong, IsAttribute, IsDeclarer, IsDerivedAbove, IsMeant, IsOwn, is_derived, not_derived}
use Rattle.p21_rule_text.specs.declared.resolve.Found.{Found}
use Rattle.p21_rule_text.specs.declared.resolve.Found.TheVariants as found

-- ---- tests

pub same_test : (b : Bool) {P Q : Type 0} → (P → Q) → (Q → P) → MatchBool b P (¬ P) → MatchBool b Q (¬ Q)
same_test true to from h = to h
same_test false to from h = λ q. h (from q)

pub neither : {P Q : Type 0} → ¬ P → ¬ Q → ¬ (P ⊎ Q)
neither {P} {Q} p q h = ⊎_elim (λ (k : P). p k) (λ (k : Q). q k) h

-- ---- members

in_either : {X : Type 0} (xs ys : List X) (x : X) → IsIn (xs ++ ys) x → IsIn xs x ⊎ IsIn ys x
in_either [] ys x h = inr h
in_either (z ∷ zs) ys x (inl e) = inl (inl e)
in_either (z ∷ zs) ys x (inr h) = ⊎_elim (λ (l : IsIn zs x). inl (inr l)) (λ (r : IsIn ys x). inr r) (in_either zs ys x h)

from_map : {X Y : Type 0} (f : X → Y) (xs : List X) (y : Y) → IsIn (map f xs) y → (x : X) × (IsIn xs x × (f x ≡ y))
from_map f [] y h = absurd h
from_map f (x ∷ xs) y (inl e) = (x, (inl refl, e))
from_map f (x ∷ xs) y (inr h) = let r = from_map f xs y h in (r.0, (inr r.1.0, r.1.1))

in_map : {X Y : Type 0} (f : X → Y) (xs : List X) (x : X) → IsIn xs x → IsIn (map f xs) (f x)
in_map f [] x h = absurd h
in_map f (y ∷ ys) x (inl e) = inl (ap f e)
in_map f (y ∷ ys) x (inr h) = inr (in_map f ys x h)

at_place : {X : Type 0} (xs : List X) (k : ℕ) (d : X) → k < length xs → IsIn xs (get_or xs k d)
at_place [] k d h = absurd (omega arith)
at_place (y ∷ ys) zero d h = inl refl
at_place (y ∷ ys) (suc k) d h = inr (at_place ys k d (omega arith))

-- what the element at a place stands for
pub stands_at : {X Y : Type 0} (f : X → Y) (xs : List X) (k : ℕ) (d : X) → k < length xs → IsIn (map f xs) (f (get_or xs k d))
stands_at f [] k d h = absurd (omega arith)
stands_at f (y ∷ ys) zero d h = inl refl
stands_at f (y ∷ ys) (suc k) d h = inr (stands_at f ys k d (omega arith))

pub only : {X : Type 0} (x y : X) → IsIn (x ∷ []) y → x ≡ y
only x y h = ⊎_elim (λ (e : x ≡ y). e) (λ (n : ⊥). absurd n) h

-- ---- lists of which one element is sought

module _ {X Y : Type 0} (plain : X → Y) (P : Y → Type 0) where
  -- it is so of what one of them stands for
  abbrev pub OfOne : List X → Type 0
  OfOne xs = (y : Y) × (IsIn (map plain xs) y × P y)

  pub of_one : (xs : List X) (i : ℕ) (d : X) → i < length xs → P (plain (get_or xs i d)) → OfOne xs
  of_one xs i d less h = (plain (get_or xs i d), (stands_at plain xs i d less, h))

  pub of_others : (xs : List X) (i : ℕ) (d : X) → i < length xs → ¬ (P (plain (get_or xs i d))) → OfOne (drop i xs) → OfOne (drop (i + 1) xs)
  of_others xs i d less other h =
      let k = subst (λ (u : List X). OfOne u) (drop_more xs i d less) h in
      ⊎_elim (λ (e : plain (get_or xs i d) ≡ k.0). absurd (other (subst P (sym e) k.1.1))) (λ (j : IsIn (map plain (drop (i + 1) xs)) k.0). (k.0, (j, k.1.1))) k.1.0

pub at_some : {X : Type 0} (xs : List X) (k : ℕ) (x : X) → slice_get xs k ≡ Some x → IsIn xs x
at_some [] k x e = absurd cc
at_some (y ∷ ys) zero x e = inl (cc)
at_some (y ∷ ys) (suc k) x e = inr (at_some ys k x e)

pub map_get : {X Y : Type 0} (f : X → Y) (xs : List X) (k : ℕ) (x : X) (d : Y) → k < length xs → get_or (map f xs) k d ≡ f (get_or xs k x)
map_get f [] k x d less = absurd (omega arith)
map_get f (y ∷ ys) zero x d less = refl
map_get f (y ∷ ys) (suc k) x d less = map_get f ys k x d (omega arith)

pub map_past : {X Y : Type 0} (f : X → Y) (xs : List X) (k : ℕ) (d : Y) → length xs ≤ k → get_or (map f xs) k d ≡ d
map_past f [] k d past = refl
map_past f (y ∷ ys) zero d past = absurd (omega arith)
map_past f (y ∷ ys) (suc k) d past = map_past f ys k d (omega arith)

-- what the element at the place of an entity stands for
pub own_clauses : {X Y : Type 0} (f : X → Y) (xs : List X) (k : ℕ) (o : EntityId) (x : X) (d : Y) → k ≡ o.index → k < length xs → x ≡ get_or xs k x → f x ≡ get_or (map f xs) o.index d
own_clauses f xs k o x d same less is = ap f is ∙ sym (subst (λ (u : ℕ). get_or (map f xs) u d ≡ f (get_or xs k x)) same (map_get f xs k x d less))

-- ---- the places of the entities

module _ (P : EntityId → Type 0) where
  -- it is so of none in front of a place
  abbrev pub NoneBefore : ℕ → Type 0
  NoneBefore i = (o : EntityId) → P o → ¬ (o.index < i)

  pub none_further : (i : ℕ) → NoneBefore i → ((o : EntityId) → P o → ¬ (o.index ≡ i)) → NoneBefore (i + 1)
  none_further i before none o h less =
      ⊎_elim (λ (e : o.index ≡ i). none o h e) (λ (k : (o.index < i) ⊎ (i < o.index)). ⊎_elim (λ (l : o.index < i). before o h l) (λ (g : i < o.index). absurd (omega arith)) k) (cases_order o.index i)

pub same_owner : (a b : EntityId) → a.index ≡ b.index → a ≡ b
same_owner a b e = λ j. record { index = e j }

-- what has an ancestor is an entity
pub has_ancestor : (s : Schema) (a b : List ℕ) → IsAncestor s a b → IsEntity s a
has_ancestor s _ _ (Leads.one h) = subst (IsEntity s) h.name_is (in_map (λ e. e.name) s.entities h.entity h.declared)
has_ancestor s _ _ (Leads.more h k) = subst (IsEntity s) h.name_is (in_map (λ e. e.name) s.entities h.entity h.declared)

-- ---- names that are newly declared

-- those of the attributes from one on
abbrev pub NewFrom : List AttrDecl → ℕ → List (List ℕ)
NewFrom xs i = new_explicit (map plain_attribute (drop i xs))

by_of : {X : Type 0} (f : X → List ℕ) (o : Option X) (b : Bool) (n : List ℕ) (ns : List (List ℕ)) → is_some o ≡ not b → MatchBool b (with_new (option_map f o) n ns ≡ n ∷ ns) (with_new (option_map f o) n ns ≡ ns)
by_of f None true n ns e = refl
by_of f None false n ns e = absurd cc
by_of f (Some x) true n ns e = absurd cc
by_of f (Some x) false n ns e = refl

pub new_from : (xs : List AttrDecl) (i : ℕ) (x : AttrDecl) (b : Bool) → i < length xs → x ≡ get_or xs i x → is_some x.of ≡ not b → MatchBool b (NewFrom xs i ≡ x.name.items ∷ NewFrom xs (i + 1)) (NewFrom xs i ≡ NewFrom xs (i + 1))
new_from xs i x b less is e =
    let all : NewFrom xs i ≡ with_new (plain_attribute x).of x.name.items (NewFrom xs (i + 1)) = ap (λ (u : List AttrDecl). new_explicit (map plain_attribute u)) (drop_more xs i x less ∙ ap (λ (u : AttrDecl). u ∷ drop (i + 1) xs) (sym is)) in
    subst (λ (u : List (List ℕ)). MatchBool b (u ≡ x.name.items ∷ NewFrom xs (i + 1)) (u ≡ NewFrom xs (i + 1))) (sym all) (by_of (λ n. n.items) x.of b x.name.items (NewFrom xs (i + 1)) e)

pub first_behind : {X : Type 0} (xs ys : List X) (i : ℕ) (x : X) → drop i xs ≡ x ∷ ys → slice_get xs i ≡ Some x
first_behind [] ys zero x e = absurd cc
first_behind [] ys (suc i) x e = absurd cc
first_behind (z ∷ zs) ys zero x e = cc
first_behind (z ∷ zs) ys (suc i) x e = first_behind zs ys i x e

pub others_behind : {X : Type 0} (xs ys : List X) (i : ℕ) (x : X) → drop i xs ≡ x ∷ ys → drop (i + 1) xs ≡ ys
others_behind [] ys zero x e = absurd cc
others_behind [] ys (suc i) x e = absurd cc
others_behind (z ∷ zs) ys zero x e = cc
others_behind (z ∷ zs) ys (suc i) x e = rw add-one (rw add-one at (others_behind zs ys i x e))

-- ---- one meaning

-- an attribute is newly declared by an entity
newly : (es : List Entity) (a : Origin) → IsIn (attributes_of es) a → (d : ℕ) × ((d < length es) × (((get_or es d no_entity).name ≡ a.entity) × IsIn (new_explicit (get_or es d no_entity).attributes) a.name))
newly [] a i = absurd i
newly (e ∷ es) a i =
    ⊎_elim
    (λ (l : IsIn (own_attributes e) a).
    let f = from_map (λ n. let o : Origin = record { entity = e.name; name = n } in o) (new_explicit e.attributes) a l in
    (0, (omega arith, (ap (λ (u : Origin). u.entity) f.1.1, subst (λ (u : List ℕ). IsIn (new_explicit e.attributes) u) (ap (λ (u : Origin). u.name) f.1.1) f.1.0))))
    (λ (r : IsIn (attributes_of es) a).
    let h = newly es a r in
    let less : h.0 < length es = h.1.0 in
    (suc h.0, (omega (arith, less), h.1.1)))
    (in_either (own_attributes e) (attributes_of es) a i)

abbrev pub OneEntity : Schema → Type 0
OneEntity s = (a b : EntityId) → IsEntityOf s a → IsEntityOf s b → entity_name s a ≡ entity_name s b → a ≡ b

abbrev pub OneAttribute : Schema → Type 0
OneAttribute s = (a b : AttrId) → IsAttributeOf s a → IsAttributeOf s b → attribute_at s a ≡ attribute_at s b → a ≡ b

module _ {X Y : Type 0} {Wanted : X → Type 0} {image : X → Y} where
  chosen_once : {xs : List X} {ys zs : List Y} → Chosen Wanted image xs ys → Chosen Wanted image xs zs → ys ≡ zs
  chosen_once chosen.none chosen.none = refl
  chosen_once (chosen.kept {x = x} h a) (chosen.kept k b) = ap (λ l. image x ∷ l) (chosen_once a b)
  chosen_once (chosen.kept h a) (chosen.dropped n b) = absurd (n h)
  chosen_once (chosen.dropped n a) (chosen.kept h b) = absurd (n h)
  chosen_once (chosen.dropped n a) (chosen.dropped m b) = chosen_once a b

-- an attribute has one list of declarations
pub declarations_once : (s : Schema) (a : Origin) (ds es : List Declaration) → AreDeclarations s a ds → AreDeclarations s a es → ds ≡ es
declarations_once s a ds es h k = chosen_once h k

module _ (s : Schema) (one : OneEntity s) (one_attribute : OneAttribute s) where
  own_once : (o : EntityId) (n : List ℕ) (a b : AttrId) → IsOwn s o n a → IsOwn s o n b → a ≡ b
  own_once o n a b h k = one_attribute a b h.0 k.0 (h.1 ∙ sym k.1)

  pub own_declares : (o : EntityId) → IsEntityOf s o → (n : List ℕ) (a : AttrId) → IsOwn s o n a → DeclaresExplicit s o n
  own_declares o known n a h =
      let m = newly s.entities (attribute_at s a) (at_place (attributes_of s.entities) a.index no_attribute h.0) in
      let d : EntityId = record { index = m.0 } in
      let same : d ≡ o = one d o m.1.0 known (m.1.1.0 ∙ ap (λ (u : Origin). u.entity) h.1) in
      subst (λ (u : EntityId). DeclaresExplicit s u n) same (subst (λ (u : List ℕ). DeclaresExplicit s d u) (ap (λ (u : Origin). u.name) h.1) m.1.1.1)

  again_once : (o : EntityId) (n : List ℕ) (a b : AttrId) → IsAgain s o n a → IsAgain s o n b → a ≡ b
  again_once o n a b h k =
      ⊎_elim
      (λ (same : h.origin.index ≡ k.origin.index). own_once k.origin n a b (subst (λ (u : EntityId). IsOwn s u n a) (same_owner h.origin k.origin same) h.own) k.own)
      (λ (other : (h.origin.index < k.origin.index) ⊎ (k.origin.index < h.origin.index)).
      ⊎_elim
      (λ (less : h.origin.index < k.origin.index). absurd (k.first h.origin a h.above less h.own h.again))
      (λ (less : k.origin.index < h.origin.index). absurd (h.first k.origin b k.above less k.own k.again))
      other)
      (cases_order h.origin.index k.origin.index)

  module _ (es : List EntityClauses) (e : EntityId) where
    attribute_once : (a b : AttrId) (f g : Found) → a ≡ b → IsAttribute s e a f → IsAttribute s e b g → f ≡ g
    attribute_once a b _ _ q (not_derived n) (not_derived m) = ap (λ (u : AttrId). found.Explicit u) q
    attribute_once a b _ _ q (not_derived n) (is_derived d) = absurd (n (subst (λ (u : AttrId). IsDerivedAbove s e (attribute_at s u)) (sym q) d))
    attribute_once a b _ _ q (is_derived d) (not_derived n) = absurd (n (subst (λ (u : AttrId). IsDerivedAbove s e (attribute_at s u)) q d))
    attribute_once a b _ _ q (is_derived d) (is_derived c) = refl

    among_once : (o : EntityId) → IsEntityOf s o → (n : List ℕ) (f g : Found) → IsAmong s es e o n f → IsAmong s es e o n g → f ≡ g
    among_once o known n f g (IsAmong.own {a = a} h x) (IsAmong.own {a = b} k y) = attribute_once a b f g (own_once o n a b h k) x y
    among_once o known n f _ (IsAmong.own {a = a} h x) (IsAmong.new none d) = absurd (none (own_declares o known n a h))
    among_once o known n f g (IsAmong.own {a = a} h x) (IsAmong.again none k y) = absurd (none (inl (own_declares o known n a h)))
    among_once o known n f _ (IsAmong.own {a = a} h x) (IsAmong.again_other none m d) = absurd (none (inl (own_declares o known n a h)))
    among_once o known n f _ (IsAmong.own {a = a} h x) (IsAmong.nothing none m d) = absurd (none (inl (own_declares o known n a h)))
    among_once o known n _ g (IsAmong.new none d) (IsAmong.own {a = b} k y) = absurd (none (own_declares o known n b k))
    among_once o known n _ _ (IsAmong.new none d) (IsAmong.new m c) = refl
    among_once o known n _ g (IsAmong.new none d) (IsAmong.again m k y) = absurd (m d)
    among_once o known n _ _ (IsAmong.new none d) (IsAmong.again_other m k c) = refl
    among_once o known n _ _ (IsAmong.new none d) (IsAmong.nothing m k c) = absurd (m d)
    among_once o known n f g (IsAmong.again none h x) (IsAmong.own {a = b} k y) = absurd (none (inl (own_declares o known n b k)))
    among_once o known n f _ (IsAmong.again none h x) (IsAmong.new m c) = absurd (none c)
    among_once o known n f g (IsAmong.again {a = a} none h x) (IsAmong.again {a = b} m k y) = attribute_once a b f g (again_once o n a b h k) x y
    among_once o known n f _ (IsAmong.again {a = a} none h x) (IsAmong.again_other m k c) = absurd (k a h)
    among_once o known n f _ (IsAmong.again {a = a} none h x) (IsAmong.nothing m k c) = absurd (k a h)
    among_once o known n _ g (IsAmong.again_other none m d) (IsAmong.own {a = b} k y) = absurd (none (inl (own_declares o known n b k)))
    among_once o known n _ _ (IsAmong.again_other none m d) (IsAmong.new k c) = refl
    among_once o known n _ g (IsAmong.again_other none m d) (IsAmong.again {a = b} l k y) = absurd (m b k)
    among_once o known n _ _ (IsAmong.again_other none m d) (IsAmong.again_other l k c) = refl
    among_once o known n _ _ (IsAmong.again_other none m d) (IsAmong.nothing l k c) = absurd (c d)
    among_once o known n _ g (IsAmong.nothing none m d) (IsAmong.own {a = b} k y) = absurd (none (inl (own_declares o known n b k)))
    among_once o known n _ _ (IsAmong.nothing none m d) (IsAmong.new k c) = absurd (none c)
    among_once o known n _ g (IsAmong.nothing none m d) (IsAmong.again {a = b} l k y) = absurd (m b k)
    among_once o known n _ _ (IsAmong.nothing none m d) (IsAmong.again_other l k c) = absurd (d c)
    among_once o known n _ _ (IsAmong.nothing none m d) (IsAmong.nothing l k c) = refl

    declarer_known : (of : Option (List ℕ)) (n : List ℕ) (o : EntityId) → IsDeclarer s es e of n o → IsEntityOf s o
    declarer_known None n o h = h.lowest.owner.known
    declarer_known (Some of) n o h = h.owner.known

    declarer_once : (of : Option (List ℕ)) (n : List ℕ) (o p : EntityId) → IsDeclarer s es e of n o → IsDeclarer s es e of n p → o ≡ p
    declarer_once None n o p h k =
        ⊎_elim
        (λ (same : o.index ≡ p.index). same_owner o p same)
        (λ (other : (o.index < p.index) ⊎ (p.index < o.index)).
        ⊎_elim
        (λ (less : o.index < p.index). absurd (k.first o h.lowest less))
        (λ (less : p.index < o.index). absurd (h.first p k.lowest less))
        other)
        (cases_order o.index p.index)
    declarer_once (Some of) n o p h k = one o p h.owner.known k.owner.known (h.name ∙ sym k.name)

    pub one_meaning : (x : Naming) (f g : Found) → IsMeant s es e x f → IsMeant s es e x g → f ≡ g
    one_meaning x f g (IsMeant.by {o = o} h a) (IsMeant.by {o = p} k b) =
        let same = declarer_once x.of x.name o p h k in
        among_once p (declarer_known x.of x.name p k) x.name f g (subst (λ (u : EntityId). IsAmong s es e u x.name f) same a) b
    one_meaning x f _ (IsMeant.by {o = o} h a) (IsMeant.none m) = absurd (m o h)
    one_meaning x _ g (IsMeant.none m) (IsMeant.by {o = p} k b) = absurd (m p k)
    one_meaning x _ _ (IsMeant.none m) (IsMeant.none l) = refl

    attribute_name : (a b : AttrId) (n : List ℕ) (f : Found) → IsAttribute s e b f → (attribute_at s b).name ≡ n → f ≡ found.Explicit a → (attribute_at s a).name ≡ n
    attribute_name a b n _ (not_derived m) name q = let same : b ≡ a = cc in subst (λ (u : AttrId). (attribute_at s u).name ≡ n) same name
    attribute_name a b n _ (is_derived d) name q = absurd cc

    among_name : (o : EntityId) (n : List ℕ) (a : AttrId) (f : Found) → IsAmong s es e o n f → f ≡ found.Explicit a → (attribute_at s a).name ≡ n
    among_name o n a f (IsAmong.own {a = b} h x) q = attribute_name a b n f x (ap (λ (u : Origin). u.name) h.1) q
    among_name o n a _ (IsAmong.new none d) q = absurd cc
    among_name o n a f (IsAmong.again {a = b} none h x) q = attribute_name a b n f x (ap (λ (u : Origin). u.name) h.own.1) q
    among_name o n a _ (IsAmong.again_other none m d) q = absurd cc
    among_name o n a _ (IsAmong.nothing none m d) q = absurd cc

    -- the attribute that a name is has this name
    pub meant_name : (x : Naming) (a : AttrId) (f : Found) → IsMeant s es e x f → f ≡ found.Explicit a → (attribute_at s a).name ≡ x.name
    meant_name x a f (IsMeant.by {o = o} h k) q = among_name o x.name a f k q
    meant_name x a _ (IsMeant.none m) q = absurd cc
