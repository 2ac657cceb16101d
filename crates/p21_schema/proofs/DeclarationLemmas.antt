-- The declarations of attributes.
use Rattle.std.proofs.Common.{◌≡◌, ℕ, suc, ◌+◌, ◌<◌, Bool, true, false, List, [], ◌∷◌, ◌++◌, Option, Some, None, MatchOption, map, length, get_or, set, take, replicate, ◌≤◌, refl, sym, ap, ◌∙◌, subst, inl, inr, ⊎_elim, ◌⊎◌, arith, append_assoc}
use Rattle.std.specs.List.{AllByRecursion}
use Rattle.std.proofs.lemmas.Bool.{cases_eq, cases_lt}
use Rattle.std.proofs.lemmas.List.{length-map, get_or-map, length-set, get_or-set_same, get_or-set_other, take_more, append-nil, map-append, get_or-replicate, length-replicate, get_or_past}
use Rattle.std.proofs.lemmas.Slice.Zip.{all_zipped_more}
use Rattle.p21_express.specs.Schema.{Schema, Entity, Attribute, Derived}
use Rattle.p21_express.specs.WellFormed.{IsIn, IsEntity, IsKnown, Origin, IsOrigin, IsNewIn, IsAncestor, DeclaresAgain, DeclareAgain, IsRedeclaring, IsWellFormed, Redeclaration, redeclarations, again_explicit, again_derived, with_again, new_explicit, new_derived, with_new, HasNoUnknown}
use Rattle.p21_schema.specs.declared.declarations.Declaration.{Declaration as Coded}
use Rattle.p21_schema.specs.declared.rows.Own.{Own}
use Rattle.p21_schema.specs.Place.{no_entity, entity_name}
use Rattle.p21_schema.specs.Ancestry.{entity_id, IsA}
use Rattle.p21_schema.specs.Row.{own_attributes, attributes_of, no_attribute}
use Rattle.p21_schema.specs.RowTable.{IsOwnTable, no_own}
use Rattle.p21_schema.specs.Declaration.{derived, explicit, Declaration, Written, written_explicit, written_derived, explicit_in, derived_in, written, is_explicit, Declares, newly, again, Chosen, none, kept, dropped, declaration, AreDeclarations, IsResolvedDeclaration, AreResolvedIn}
use Rattle.p21_schema.specs.DeclarationTable.{AreAmong, IsDeclarationTable, IsNotOwn, IsOwnAt, IsOriginAt, IsDeclared}
use Rattle.p21_graph.specs.Graph.{one, more}
use Rattle.p21_graph.specs.MemberLaws.{at_place, in_either, in_left, in_right, from_map, holds_of, same_place}
use Rattle.p21_schema.proofs.AncestryLemmas.{distinct_entities, supertypes_known}
use Rattle.p21_schema.proofs.RowLemmas.{own_at, own_below, attributes_distinct}

pub not_last : {X : Type 0} (xs : List X) (y x : X) → ¬ (IsIn xs x) → ¬ (y ≡ x) → ¬ (IsIn (xs ++ y ∷ []) x)
not_last xs y x h n i = ⊎_elim (λ (l : IsIn xs x). h l) (λ (r : IsIn (y ∷ []) x). ⊎_elim (λ (e : y ≡ x). n e) (λ (f : ⊥). absurd f) r) (in_either xs (y ∷ []) x i)

-- ---- what is newly declared

-- an attribute without SELF is newly declared
in_new : (xs : List Attribute) (a : Attribute) → IsIn xs a → a.of ≡ None → IsIn (new_explicit xs) a.name
in_new [] a i e = absurd i
in_new (x ∷ xs) a (inl h) e = subst (λ (o : Option (List ℕ)). IsIn (with_new o x.name (new_explicit xs)) a.name) (sym (ap (λ (b : Attribute). b.of) h ∙ e)) (inl (ap (λ (b : Attribute). b.name) h))
in_new (x ∷ xs) a (inr h) e = later x.of x.name (new_explicit xs) (in_new xs a h e)
  where
    later : (o : Option (List ℕ)) (n : List ℕ) (ns : List (List ℕ)) → IsIn ns a.name → IsIn (with_new o n ns) a.name
    later None n ns i = inr i
    later (Some p) n ns i = i

-- an attribute of some entities is newly declared by one of them
from_attributes : (es : List Entity) (o : Origin) → IsIn (attributes_of es) o → (d : ℕ) × ((d < length es) × ((o.entity ≡ (get_or es d no_entity).name) × IsIn (new_explicit (get_or es d no_entity).attributes) o.name))
from_attributes [] o i = absurd i
from_attributes (e ∷ es) o i = ⊎_elim
    (λ (l : IsIn (own_attributes e) o).
    let f = from_map (λ n. let o : Origin = record { entity = e.name; name = n } in o) (new_explicit e.attributes) o l in
    (0, (omega arith, (sym (ap (λ (u : Origin). u.entity) f.1.1), subst (λ (u : List ℕ). IsIn (new_explicit e.attributes) u) (ap (λ (u : Origin). u.name) f.1.1) f.1.0))))
    (λ (r : IsIn (attributes_of es) o).
    let h = from_attributes es o r in
    let less : h.0 < length es = h.1.0 in
    (suc h.0, (omega (arith, less), h.1.1)))
    (in_either (own_attributes e) (attributes_of es) o i)

pub own_is_at : (s : Schema) (table : List Own) (e : ℕ) (own : Own) (n : List ℕ) (k i : ℕ) → IsOwnTable s table → e < length s.entities → get_or table e no_own ≡ own → (k < length (new_explicit (get_or s.entities e no_entity).attributes)) × (get_or (new_explicit (get_or s.entities e no_entity).attributes) k [] ≡ n) → i ≡ own.from + k → IsOwnAt s e n i
own_is_at s table e own n k i t less is found at =
    let entity = get_or s.entities e no_entity in
    let names = new_explicit entity.attributes in
    let origin : List ℕ → Origin = λ m. record { entity = entity.name; name = m } in
    let k_less : k < length names = found.0 in
    let k_less' : k < length (own_attributes entity) = rw (length-map names origin) k_less in
    let from : i ≡ length (attributes_of (take e s.entities)) + k = at ∙ ap (λ (u : ℕ). u + k) (sym (ap (λ (u : Own). u.from) is) ∙ (t.rows e less).from) in
    record {
      below = subst (λ u. u < length (attributes_of s.entities)) (sym from) (own_below s.entities e k less k_less');
      is = ap (λ (u : ℕ). get_or (attributes_of s.entities) u no_attribute) from ∙ own_at s.entities e k no_attribute less k_less' ∙ get_or-map origin names k [] no_attribute k_less ∙ ap origin found.1;
      newly = subst (λ (u : List ℕ). IsIn names u) found.1 (at_place names k [] k_less);
    }

-- ---- what is declared again

again_of : {s : Schema} {e : List ℕ} {rs : List Redeclaration} {os : List Origin} (r : Redeclaration) → DeclareAgain s e rs os → IsIn rs r → (d : List ℕ) × DeclaresAgain s e r d
again_of r DeclareAgain.none i = absurd i
again_of {s} {e} r (DeclareAgain.more {r = q} {d = d} h others) i = ⊎_elim (λ (k : q ≡ r). (d, subst (λ (x : Redeclaration). DeclaresAgain s e x d) k h)) (λ (j : IsIn _ r). again_of r others j) i

later_again : (o : Option (List ℕ)) (n : List ℕ) (b : Bool) (rs : List Redeclaration) (r : Redeclaration) → IsIn rs r → IsIn (with_again o n b rs) r
later_again None n b rs r i = i
later_again (Some p) n b rs r i = inr i

in_again_explicit : (xs : List Attribute) (a : Attribute) (of : List ℕ) → IsIn xs a → a.of ≡ Some of → IsIn (again_explicit xs) (record { of = of; name = a.name; explicit = true })
in_again_explicit [] a of i e = absurd i
in_again_explicit (x ∷ xs) a of (inl h) e = subst (λ (o : Option (List ℕ)). IsIn (with_again o x.name true (again_explicit xs)) (record { of = of; name = a.name; explicit = true })) (sym (ap (λ (b : Attribute). b.of) h ∙ e)) (inl (λ j. record { of = of; name = (h j).name; explicit = true }))
in_again_explicit (x ∷ xs) a of (inr h) e = later_again x.of x.name true (again_explicit xs) (record { of = of; name = a.name; explicit = true }) (in_again_explicit xs a of h e)

in_again_derived : (xs : List Derived) (a : Derived) (of : List ℕ) → IsIn xs a → a.of ≡ Some of → IsIn (again_derived xs) (record { of = of; name = a.name; explicit = false })
in_again_derived [] a of i e = absurd i
in_again_derived (x ∷ xs) a of (inl h) e = subst (λ (o : Option (List ℕ)). IsIn (with_again o x.name false (again_derived xs)) (record { of = of; name = a.name; explicit = false })) (sym (ap (λ (b : Derived). b.of) h ∙ e)) (inl (λ j. record { of = of; name = (h j).name; explicit = false }))
in_again_derived (x ∷ xs) a of (inr h) e = later_again x.of x.name false (again_derived xs) (record { of = of; name = a.name; explicit = false }) (in_again_derived xs a of h e)

module _ (s : Schema) (formed : IsWellFormed s) where
  redeclares : (e : ℕ) → e < length s.entities → (r : Redeclaration) → IsIn (redeclarations (get_or s.entities e no_entity)) r → (d : List ℕ) × DeclaresAgain s (get_or s.entities e no_entity).name r d
  redeclares e less r i =
      let entity = get_or s.entities e no_entity in
      let h : IsRedeclaring s entity = holds_of (IsRedeclaring s) s.entities entity formed.redeclared (at_place s.entities e no_entity less) in
      again_of r h.declare i

  pub explicit_redeclares : (e : ℕ) → e < length s.entities → (a : Attribute) (of : List ℕ) → IsIn (get_or s.entities e no_entity).attributes a → a.of ≡ Some of → (d : List ℕ) × DeclaresAgain s (get_or s.entities e no_entity).name (record { of = of; name = a.name; explicit = true }) d
  explicit_redeclares e less a of i h =
      let entity = get_or s.entities e no_entity in
      redeclares e less (record { of = of; name = a.name; explicit = true }) (in_left (again_explicit entity.attributes) (again_derived entity.derived) _ (in_again_explicit entity.attributes a of i h))

  pub derived_redeclares : (e : ℕ) → e < length s.entities → (a : Derived) (of : List ℕ) → IsIn (get_or s.entities e no_entity).derived a → a.of ≡ Some of → (d : List ℕ) × DeclaresAgain s (get_or s.entities e no_entity).name (record { of = of; name = a.name; explicit = false }) d
  derived_redeclares e less a of i h =
      let entity = get_or s.entities e no_entity in
      redeclares e less (record { of = of; name = a.name; explicit = false }) (in_right (again_explicit entity.attributes) (again_derived entity.derived) _ (in_again_derived entity.derived a of i h))

  -- an ancestor is an entity
  pub ancestor_known : {a b : List ℕ} → IsAncestor s a b → IsEntity s b
  ancestor_known {b = b} (one st) = supertypes_known s formed.unknown st.entity b st.declared st.named
  ancestor_known (more st l) = ancestor_known l

  -- what an entity or an ancestor of it newly declares under a name
  pub no_origin : (of : List ℕ) (i : ℕ) (n : List ℕ) → i < length s.entities → entity_name s (entity_id i) ≡ of
      → ((d : ℕ) → d < length s.entities → IsA s (entity_id i) (entity_id d) → IsNotOwn s d n)
      → (o : Origin) → IsIn (attributes_of s.entities) o → o.name ≡ n → ¬ (IsOrigin s of n o.entity)
  no_origin of i n less is h o there named origin =
      let f = from_attributes s.entities o there in
      let here : (of ≡ o.entity) ⊎ IsAncestor s of o.entity → IsA s (entity_id i) (entity_id f.0) =
      λ a. ⊎_elim (λ (e : of ≡ o.entity). inl (is ∙ e ∙ f.1.1.0)) (λ (l : IsAncestor s of o.entity). inr (subst (λ (u : List ℕ). IsAncestor s (entity_name s (entity_id i)) u) f.1.1.0 (subst (λ (u : List ℕ). IsAncestor s u o.entity) (sym is) l))) a in
      h f.0 f.1.0 (here origin.0) (subst (λ (u : List ℕ). IsIn (new_explicit (get_or s.entities f.0 no_entity).attributes) u) named f.1.1.1)

  pub origin_at : (of : List ℕ) (i : ℕ) (n : List ℕ) (k d : ℕ) → entity_name s (entity_id i) ≡ of → d < length s.entities → IsA s (entity_id i) (entity_id d) → IsOwnAt s d n k → IsOriginAt s of n k
  origin_at of i n k d is less over own =
      let entity = get_or s.entities d no_entity in
      let by : entity.name ≡ (get_or (attributes_of s.entities) k no_attribute).entity = sym (ap (λ (u : Origin). u.entity) own.is) in
      let above : (of ≡ entity.name) ⊎ IsAncestor s of entity.name = ⊎_elim (λ (e : entity_name s (entity_id i) ≡ entity.name). inl (sym is ∙ e)) (λ (l : IsAncestor s (entity_name s (entity_id i)) entity.name). inr (subst (λ (u : List ℕ). IsAncestor s u entity.name) is l)) over in
      let new : IsNewIn s entity.name n = record { entity = entity; declared = at_place s.entities d no_entity less; name_is = refl; newly = in_left (new_explicit entity.attributes) (new_derived entity.derived) n own.newly } in
      record {
        below = own.below;
        name = ap (λ (u : Origin). u.name) own.is;
        origin = subst (λ (u : List ℕ). IsOrigin s of n u) by (above, new);
      }

-- ---- what is declared

module _ (s : Schema) (formed : IsWellFormed s) where
  -- without SELF, by the entity itself
  pub declared_newly : (e : ℕ) (a : Attribute) (place : Option ℕ) → IsIn (get_or s.entities e no_entity).attributes a → a.of ≡ None → MatchOption place (IsNotOwn s e a.name) (λ i. IsOwnAt s e a.name i) → IsDeclared s (written_explicit (get_or s.entities e no_entity).name a) place
  declared_newly e a None there lone h = absurd (h (in_new (get_or s.entities e no_entity).attributes a there lone))
  declared_newly e a (Some i) there lone h = (h.below, newly a.optional a.texpr lone refl (sym (ap (λ (u : Origin). u.entity) h.is)) (sym (ap (λ (u : Origin). u.name) h.is)))

  -- with SELF, by the one origin that there is
  pub declared_again : (w : Written) (of d : List ℕ) (place : Option ℕ) → w.of ≡ Some of → DeclaresAgain s w.entity (record { of = of; name = w.name; explicit = is_explicit w.form }) d
      → MatchOption place ((o : Origin) → IsIn (attributes_of s.entities) o → o.name ≡ w.name → ¬ (IsOrigin s of w.name o.entity)) (λ i. IsOriginAt s of w.name i) → IsDeclared s w place
  declared_again w of d None self one_is h = λ o i. by o i
    where
      by : (o : Origin) → IsIn (attributes_of s.entities) o → ¬ (Declares s o w)
      by o i (newly b x lone f e n) = absurd (let bad : None ≡ Some of = sym lone ∙ self in cc)
      by o i (again of' f n r) = h o i (sym n) (subst (λ (u : List ℕ). IsOrigin s u w.name o.entity) (let same : of' ≡ of = cc in same) r.origin)
  declared_again w of d (Some i) self one_is h =
      let o = get_or (attributes_of s.entities) i no_attribute in
      let same : d ≡ o.entity = sym (one_is.only o.entity h.origin) in
      (h.below, again of self (sym h.name) (subst (λ (u : List ℕ). DeclaresAgain s w.entity (record { of = of; name = w.name; explicit = is_explicit w.form }) u) same one_is))

  -- it declares one attribute at most
  one_declared : {o p : Origin} {w : Written} → Declares s o w → Declares s p w → o ≡ p
  one_declared (newly b x lone f e n) (newly c y lone' f' e' n') = λ j. record { entity = (sym e ∙ e') j; name = (sym n ∙ n') j }
  one_declared (newly b x lone f e n) (again of f' n' r) = absurd (let bad : None ≡ Some of = sym lone ∙ f' in cc)
  one_declared (again of f' n' r) (newly b x lone f e n) = absurd (let bad : None ≡ Some of = sym lone ∙ f' in cc)
  one_declared {o} {p} {w} (again of f n r) (again of' f' n' r') =
      let same : of' ≡ of = cc in
      let e : p.entity ≡ o.entity = r.only p.entity (subst (λ (u : List ℕ). IsOrigin s u w.name p.entity) same r'.origin) in
      λ j. record { entity = sym e j; name = (sym n ∙ n') j }

  -- ---- one more that is written

  chosen_kept : {P : Written → Type 0} {ws : List Written} {ds : List Declaration} (w : Written) → P w → Chosen P declaration ws ds → Chosen P declaration (ws ++ w ∷ []) (ds ++ declaration w ∷ [])
  chosen_kept w p none = kept p none
  chosen_kept w p (kept q c) = kept q (chosen_kept w p c)
  chosen_kept w p (dropped q c) = dropped q (chosen_kept w p c)

  chosen_dropped : {P : Written → Type 0} {ws : List Written} {ds : List Declaration} (w : Written) → ¬ (P w) → Chosen P declaration ws ds → Chosen P declaration (ws ++ w ∷ []) ds
  chosen_dropped w p none = dropped p none
  chosen_dropped w p (kept q c) = kept q (chosen_dropped w p c)
  chosen_dropped w p (dropped q c) = dropped q (chosen_dropped w p c)

  among_kept : (o : Origin) (ws : List Written) (ds : List Coded) (w : Written) (d : Coded) → AreAmong s o ws ds → Declares s o w → IsResolvedDeclaration s d (declaration w) → AreAmong s o (ws ++ w ∷ []) (ds ++ d ∷ [])
  among_kept o ws ds w d h p r = record {
    all = h.all ++ declaration w ∷ [];
    chosen = chosen_kept w p h.chosen;
    resolved = all_zipped_more (IsResolvedDeclaration s) ds h.all d (declaration w) h.resolved r;
  }

  among_dropped : (o : Origin) (ws : List Written) (ds : List Coded) (w : Written) → AreAmong s o ws ds → ¬ (Declares s o w) → AreAmong s o (ws ++ w ∷ []) ds
  among_dropped o ws ds w h p = record { all = h.all; chosen = chosen_dropped w p h.chosen; resolved = h.resolved }

  -- it declares none
  pub table_same : (ws : List Written) (w : Written) (table : List (List Coded)) → IsDeclared s w None → IsDeclarationTable s ws table → IsDeclarationTable s (ws ++ w ∷ []) table
  table_same ws w table lone t = record {
    count = t.count;
    rows = λ i less. among_dropped (get_or (attributes_of s.entities) i no_attribute) ws (get_or table i []) w (t.rows i less) (lone (get_or (attributes_of s.entities) i no_attribute) (at_place (attributes_of s.entities) i no_attribute less));
  }

  -- it declares the one at a place
  pub table_more : (ws : List Written) (w : Written) (table : List (List Coded)) (k : ℕ) (d : Coded) → IsDeclared s w (Some k) → IsResolvedDeclaration s d (declaration w) → IsDeclarationTable s ws table → IsDeclarationTable s (ws ++ w ∷ []) (set table k (get_or table k [] ++ d ∷ []))
  table_more ws w table k d this r t = record {
    count = length-set table k (get_or table k [] ++ d ∷ []) ∙ t.count;
    rows = λ i less.
        let all = attributes_of s.entities in
        let o = get_or all i no_attribute in
        ⊎_elim
        (λ (e : i ≡ k).
        rw (e, get_or-set_same table k (get_or table k [] ++ d ∷ []) [] (subst (λ u. k < u) (sym t.count) this.0)) (among_kept (get_or all k no_attribute) ws (get_or table k []) w d (t.rows k this.0) this.1 r))
        (λ (ne : (i ≡ k) → ⊥).
        rw (get_or-set_other table k i (get_or table k [] ++ d ∷ []) [] ne)
        (among_dropped o ws (get_or table i []) w (t.rows i less) (λ p. ne (same_place all i k no_attribute (attributes_distinct s.entities (distinct_entities s formed.repeated) formed.repeated.attributes) less this.0 (one_declared p this.1)))))
        (cases_eq i k);
  }

-- an empty list has none
pub table_none : (s : Schema) (table : List (List Coded)) → length table ≡ length (attributes_of s.entities) → ((i : ℕ) → get_or table i [] ≡ []) → IsDeclarationTable s [] table
table_none s table count empty = record {
  count = count;
  rows = λ i less. rw (empty i) (record { all = []; chosen = none; resolved = tt });
}

-- what entities up to one more write
written_append : (xs ys : List Entity) → written (xs ++ ys) ≡ written xs ++ written ys
written_append [] ys = refl
written_append (e ∷ es) ys = ap (λ (u : List Written). explicit_in e ++ derived_in e ++ u) (written_append es ys) ∙ sym (append_assoc (explicit_in e ++ derived_in e) (written es) (written ys))

pub written_more : (es : List Entity) (i : ℕ) → i < length es → written (take (i + 1) es) ≡ (written (take i es) ++ explicit_in (get_or es i no_entity)) ++ derived_in (get_or es i no_entity)
written_more es i less =
    let e = get_or es i no_entity in
    ap written (take_more es i no_entity less) ∙ written_append (take i es) (e ∷ []) ∙ ap (λ (u : List Written). written (take i es) ++ u) (append-nil (explicit_in e ++ derived_in e)) ∙ sym (append_assoc (written (take i es)) (explicit_in e) (derived_in e))

-- the attributes of some entity up to one more
pub more_written : {X : Type 0} (ws : List Written) (f : X → Written) (xs : List X) (i : ℕ) (d : X) → i < length xs → (ws ++ map f (take i xs)) ++ f (get_or xs i d) ∷ [] ≡ ws ++ map f (take (i + 1) xs)
more_written {X} ws f xs i d less =
    append_assoc ws (map f (take i xs)) (f (get_or xs i d) ∷ []) ∙ ap (λ (u : List Written). ws ++ u) (sym (map-append f (take i xs) (get_or xs i d ∷ [])) ∙ ap (λ (u : List X). map f u) (sym (take_more xs i d less)))

-- the type of an attribute is known
pub texpr_known : (s : Schema) → HasNoUnknown s → (e : ℕ) → e < length s.entities → (a : Attribute) → IsIn (get_or s.entities e no_entity).attributes a → IsKnown s a.texpr
texpr_known s h e less a i = holds_of (λ (a : Attribute). IsKnown s a.texpr) (get_or s.entities e no_entity).attributes a (holds_of (λ (e : Entity). AllByRecursion (λ (a : Attribute). IsKnown s a.texpr) e.attributes) s.entities (get_or s.entities e no_entity) h.attributes (at_place s.entities e no_entity less)) i

-- the row of an attribute
pub row_tells : (s : Schema) (table : List (List Coded)) (i : ℕ) (ds : List Coded) → IsDeclarationTable s (written s.entities) table → i < length (attributes_of s.entities) → get_or table i [] ≡ ds → (all : List Declaration) × (AreDeclarations s (get_or (attributes_of s.entities) i no_attribute) all × AreResolvedIn s ds all)
row_tells s table i ds t less is =
    let h = t.rows i less in
    (h.all, (h.chosen, subst (λ (u : List Coded). AreResolvedIn s u h.all) is h.resolved))

-- ---- what the code goes over

pub item_at : {X Y : Type 0} (f : X → Y) (xs : List X) (k : ℕ) (x : X) (d : Y) → k < length xs → x ≡ get_or xs k x → get_or (map f xs) k d ≡ f x
item_at f xs k x d less is = get_or-map f xs k x d less ∙ ap f (sym is)

pub item_in : {X Y : Type 0} (f : X → Y) (xs : List X) (k : ℕ) (x : X) → k < length xs → x ≡ get_or xs k x → IsIn (map f xs) (f x)
item_in f xs k x less is = let less' : k < length (map f xs) = rw (length-map xs f) less in subst (λ u. IsIn (map f xs) u) (item_at f xs k x (f x) less is) (at_place (map f xs) k (f x) less')

module _ {X : Type 0} (s : Schema) (formed : IsWellFormed s) (f : X → Written) (xs : List X) (i : ℕ) (x : X) (ws : List Written) (old new : List (List Coded)) (less : i < length xs) (at : get_or xs i x ≡ x) where
  step : (ws ++ map f (take i xs)) ++ f x ∷ [] ≡ ws ++ map f (take (i + 1) xs)
  step = ap (λ (u : X). (ws ++ map f (take i xs)) ++ f u ∷ []) (sym at) ∙ more_written ws f xs i x less

  pub step_same : IsDeclared s (f x) None → new ≡ old → IsDeclarationTable s (ws ++ map f (take i xs)) old → IsDeclarationTable s (ws ++ map f (take (i + 1) xs)) new
  step_same lone is t = subst (λ (u : List (List Coded)). IsDeclarationTable s (ws ++ map f (take (i + 1) xs)) u) (sym is) (subst (λ (u : List Written). IsDeclarationTable s u old) step (table_same s formed (ws ++ map f (take i xs)) (f x) old lone t))

  pub step_more : (k : ℕ) (d : Coded) → IsDeclared s (f x) (Some k) → IsResolvedDeclaration s d (declaration (f x)) → new ≡ set old k (get_or old k [] ++ d ∷ []) → IsDeclarationTable s (ws ++ map f (take i xs)) old → IsDeclarationTable s (ws ++ map f (take (i + 1) xs)) new
  step_more k d this r is t = subst (λ (u : List (List Coded)). IsDeclarationTable s (ws ++ map f (take (i + 1) xs)) u) (sym is) (subst (λ (u : List Written). IsDeclarationTable s u (set old k (get_or old k [] ++ d ∷ []))) step (table_more s formed (ws ++ map f (take i xs)) (f x) old k d this r t))
