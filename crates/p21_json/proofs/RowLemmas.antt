-- The attributes of records, and the entities of instances without a fault.
use Rattle.std.proofs.Common.{◌≡◌, ◌⊎◌, ℕ, zero, suc, Bool, true, false, List, [], ◌∷◌, ◌++◌, Some, None, map, refl, sym, ap, subst, ◌∙◌, inl, inr, ⊎_elim}
use Rattle.std.specs.Prelude.{slice_get, not}
use Rattle.std.specs.List.{filter}
use Rattle.std.proofs.lemmas.Bool.{cases_Bool}
use Rattle.p21_tree.specs.Sentence.{Instance}
use Rattle.p21_express.specs.Schema.{Schema, Entity, Defined}
use Rattle.p21_express.specs.WellFormed.{IsIn, AreDistinct, IsWellFormed, IsAncestor, IsEntity, IsSupertype, Origin, Leads, new_explicit}
use Rattle.p21_schema.specs.Row.{IsRow, AreRows, own_attributes, first_places, same_origin}
use Rattle.p21_schema.specs.Row as rows
use Rattle.p21_tree.specs.declared.faults.FaultKind.TheVariants as kind
use Rattle.p21_check.specs.Attributes.{AreAttributes}
use Rattle.p21_check.specs.Attributes as attributes
use Rattle.p21_check.specs.EntitySet.{IsInSet, keywords}
use Rattle.p21_check.specs.EntitySet as set
use Rattle.p21_check.specs.LocalFault.{IsLocalFault, LacksSupertype}
use Rattle.p21_json.specs.Where.{IsOf}
use Rattle.p21_json.proofs.SlotLemmas.{IsNew, IsSetOfInstance}

-- ---- entities of one name

entity_name_in : (es : List Entity) (e : Entity) → IsIn es e → IsIn (map (λ (x : Entity). x.name) es) e.name
entity_name_in [] e h = absurd h
entity_name_in (x ∷ es) e (inl q) = inl (ap (λ (y : Entity). y.name) q)
entity_name_in (x ∷ es) e (inr h) = inr (entity_name_in es e h)

in_both : (ns ms : List (List ℕ)) (n : List ℕ) → IsIn ns n → IsIn (ns ++ ms) n
in_both [] ms n h = absurd h
in_both (m ∷ ns) ms n (inl e) = inl e
in_both (m ∷ ns) ms n (inr h) = inr (in_both ns ms n h)

one_of : (es : List Entity) (ms : List (List ℕ)) (a b : Entity) → AreDistinct (map (λ (x : Entity). x.name) es ++ ms) → IsIn es a → IsIn es b → a.name ≡ b.name → a ≡ b
one_of [] ms a b d h k e = absurd h
one_of (x ∷ es) ms a b d h k e =
    let twice : (y z : Entity) → x ≡ y → IsIn es z → y.name ≡ z.name → ⊥ = λ y z q i f.
    d.0 (subst (IsIn (map (λ (x : Entity). x.name) es ++ ms)) (sym (ap (λ (x : Entity). x.name) q ∙ f)) (in_both (map (λ (x : Entity). x.name) es) ms z.name (entity_name_in es z i))) in
    ⊎_elim
    (λ (p : x ≡ a). ⊎_elim (λ (q : x ≡ b). sym p ∙ q) (λ (i : IsIn es b). absurd (twice a b p i e)) k)
    (λ (i : IsIn es a). ⊎_elim (λ (q : x ≡ b). absurd (twice b a q i (sym e))) (λ (j : IsIn es b). one_of es ms a b d.1 i j e) k)
    h

one_entity : (s : Schema) → IsWellFormed s → (a b : Entity) (n : List ℕ) → IsIn s.entities a → a.name ≡ n → IsIn s.entities b → b.name ≡ n → a ≡ b
one_entity s wf a b n h e k f = one_of s.entities (map (λ (t : Defined). t.name) s.types) a b wf.repeated.declarations h k (e ∙ sym f)

-- ---- one row

mutual
  row_once : (s : Schema) → IsWellFormed s → {n : List ℕ} {os ps : List Origin} → IsRow s n os → IsRow s n ps → os ≡ ps
  row_once s wf {n} (rows.row {above = a} e i m r q) (rows.row {above = b} f j k t u) =
      let same : e ≡ f = one_entity s wf e f n i m j k in
      let t' : AreRows s e.supertypes b = subst (λ (x : Entity). AreRows s x.supertypes b) (sym same) t in
      let above : a ≡ b = rows_once s wf r t' in
      q ∙ ap (λ (l : List Origin). first_places same_origin (l ++ own_attributes e)) above ∙ ap (λ (x : Entity). first_places same_origin (b ++ own_attributes x)) same ∙ sym u

  rows_once : (s : Schema) → IsWellFormed s → {ns : List (List ℕ)} {os ps : List Origin} → AreRows s ns os → AreRows s ns ps → os ≡ ps
  rows_once s wf (rows.none e) (rows.none f) = e ∙ sym f
  rows_once s wf (rows.more {one = a} {rest = b} r rs e) (rows.more {one = c} {rest = d} t ts f) =
      e ∙ ap (λ (l : List Origin). l ++ b) (row_once s wf r t) ∙ ap (λ (l : List Origin). c ++ l) (rows_once s wf rs ts) ∙ sym f

-- a record has one list of attributes
pub attributes_once : (s : Schema) → IsWellFormed s → {c : Bool} {n : List ℕ} {os ps : List Origin} → AreAttributes s c n os → AreAttributes s c n ps → os ≡ ps
attributes_once s wf (attributes.simple r) (attributes.simple t) = row_once s wf r t
attributes_once s wf (attributes.complex {n = n} e i m q) (attributes.complex f j k u) =
    sym q ∙ ap own_attributes (one_entity s wf e f n i m j k) ∙ u

-- ---- where attributes come from

in_without : {X : Type 0} (p : X → Bool) (xs : List X) (x : X) → IsIn (filter p xs) x → IsIn xs x
in_without p [] x h = h
in_without p (y ∷ ys) x h =
    ⊎_elim
    (λ (t : p y ≡ true). ⊎_elim (λ (e : y ≡ x). inl e) (λ (i : IsIn (filter p ys) x). inr (in_without p ys x i)) (rw t at h))
    (λ (f : p y ≡ false). inr (in_without p ys x (rw f at h)))
    (cases_Bool (p y))

in_first : {X : Type 0} (same : X → X → Bool) (xs : List X) (x : X) → IsIn (first_places same xs) x → IsIn xs x
in_first same [] x h = h
in_first same (y ∷ ys) x (inl e) = inl e
in_first same (y ∷ ys) x (inr h) = inr (in_first same ys x (in_without (λ z. not (same y z)) (first_places same ys) x h))

in_either : {X : Type 0} (xs ys : List X) (x : X) → IsIn (xs ++ ys) x → IsIn xs x ⊎ IsIn ys x
in_either [] ys x h = inr h
in_either (y ∷ xs) ys x (inl e) = inl (inl e)
in_either (y ∷ xs) ys x (inr h) = ⊎_elim (λ (i : IsIn xs x). inl (inr i)) (λ (j : IsIn ys x). inr j) (in_either xs ys x h)

-- the attribute is newly declared by the entity of this name or an ancestor of it
pub record IsFrom (s : Schema) (n : List ℕ) (o : Origin) : Type 0 where
  pub new : IsNew s o
  pub above : (n ≡ o.entity) ⊎ IsAncestor s n o.entity

origin : List ℕ → List ℕ → Origin
origin n m = record { entity = n; name = m }

named_by : (n : List ℕ) (ms : List (List ℕ)) (o : Origin) → IsIn (map (λ m. let x : Origin = record { entity = n; name = m } in x) ms) o → (n ≡ o.entity) × IsIn ms o.name
named_by n [] o h = absurd h
named_by n (m ∷ ms) o (inl e) = (ap (λ (x : Origin). x.entity) e, inl (ap (λ (x : Origin). x.name) e))
named_by n (m ∷ ms) o (inr h) = let r = named_by n ms o h in (r.0, inr r.1)

own_from : (s : Schema) (e : Entity) (o : Origin) → IsIn s.entities e → IsIn (own_attributes e) o → IsFrom s e.name o
own_from s e o i h =
    let r = named_by e.name (new_explicit e.attributes) o h in record { new = record { entity = e; declared = i; name_is = r.0; newly = r.1 }; above = inl r.0 }

higher : (s : Schema) (n m : List ℕ) (o : Origin) → IsSupertype s n m → IsFrom s m o → IsFrom s n o
higher s n m o h f = record {
  new = f.new;
  above = ⊎_elim (λ (e : m ≡ o.entity). inr (subst (IsAncestor s n) e (Leads.one h))) (λ (a : IsAncestor s m o.entity). inr (Leads.more h a)) f.above;
}

mutual
  row_from : (s : Schema) {n : List ℕ} {os : List Origin} → IsRow s n os → (o : Origin) → IsIn os o → IsFrom s n o
  row_from s {n} (rows.row {above = a} e i m r q) o h =
      let there : IsIn (a ++ own_attributes e) o = in_first same_origin (a ++ own_attributes e) o (subst (λ (l : List Origin). IsIn l o) q h) in
      ⊎_elim
      (λ (up : IsIn a o). let f = rows_from s r o up in higher s n f.0 o (record { entity = e; declared = i; name_is = m; named = f.1 }) f.2)
      (λ (own : IsIn (own_attributes e) o). subst (λ (k : List ℕ). IsFrom s k o) m (own_from s e o i own))
      (in_either a (own_attributes e) o there)

  rows_from : (s : Schema) {ns : List (List ℕ)} {os : List Origin} → AreRows s ns os → (o : Origin) → IsIn os o → (n : List ℕ) × IsIn ns n × IsFrom s n o
  rows_from s (rows.none e) o h = absurd (subst (λ (l : List Origin). IsIn l o) e h)
  rows_from s (rows.more {n} {one = a} {rest = b} r rs e) o h =
      ⊎_elim (λ (i : IsIn a o). (n, inl refl, row_from s r o i)) (λ (j : IsIn b o). let f = rows_from s rs o j in (f.0, inr f.1, f.2)) (in_either a b o (subst (λ (l : List Origin). IsIn l o) e h))

found_in : (os : List Origin) (p : ℕ) (o : Origin) → slice_get os p ≡ Some o → IsIn os o
found_in [] p o h = cc
found_in (x ∷ os) zero o h = let same : x ≡ o = cc in inl same
found_in (x ∷ os) (suc p) o h = inr (found_in os p o h)

-- ---- the entities of an instance

is_entity : (s : Schema) (e : Entity) (n : List ℕ) → IsIn s.entities e → e.name ≡ n → IsEntity s n
is_entity s e n h q = subst (IsEntity s) q (entity_name_in s.entities e h)

below_entity : (s : Schema) {k n : List ℕ} → IsAncestor s k n → IsEntity s k
below_entity s {k} (Leads.one h) = is_entity s h.entity k h.declared h.name_is
below_entity s {k} (Leads.more h a) = is_entity s h.entity k h.declared h.name_is

is_of : (s : Schema) (i : Instance) (n : List ℕ) → IsInSet s i n → IsOf s i n
is_of s i n (set.named w e) = record { keyword = n; written = w; below = (e, inl refl) }
is_of s i n (set.ancestor {k} c w a) = record { keyword = k; written = w; below = (below_entity s a, inr a) }

written_of : (s : Schema) (i : Instance) (n : List ℕ) → i.complex ≡ true → IsInSet s i n → IsIn (keywords i) n
written_of s i n c (set.named w e) = w
written_of s i n c (set.ancestor d w a) = let both : true ≡ false = sym c ∙ d in cc

up_complex : (s : Schema) (i : Instance) → i.complex ≡ true → ¬ (LacksSupertype s i) → {k n : List ℕ} → IsIn (keywords i) k → IsAncestor s k n → ¬ (¬ (IsInSet s i n))
up_complex s i c full {k} {n} w (Leads.one h) out = full (record { keyword = k; supertype = n; written = w; above = h; lacking = out })
up_complex s i c full {k} w (Leads.more {b = b} h a) out =
    full (record { keyword = k; supertype = b; written = w; above = h; lacking = λ there. up_complex s i c full (written_of s i b c there) a out })

lacks_none : (s : Schema) (i : Instance) → IsLocalFault s i None → i.complex ≡ true → ¬ (LacksSupertype s i)
lacks_none s i h c l = h kind.BadComplex (record { complex = c; bad = inr (inl l) })

holds_by : (s : Schema) (i : Instance) → IsLocalFault s i None → (c : Bool) → i.complex ≡ c → {k n : List ℕ} → IsIn (keywords i) k → IsAncestor s k n → ¬ (¬ (IsInSet s i n))
holds_by s i h true e w a k = up_complex s i e (lacks_none s i h e) w a k
holds_by s i h false e w a k = k (set.ancestor e w a)

-- the entity set of an instance without a fault has the entities that it is of
pub set_of : (s : Schema) (i : Instance) → IsLocalFault s i None → IsSetOfInstance s (IsInSet s i) i
set_of s i h = record {
  is_of = is_of s i;
  holds = λ n o k.
      ⊎_elim (λ (e : o.keyword ≡ n). k (subst (IsInSet s i) e (set.named o.written o.below.0))) (λ (a : IsAncestor s o.keyword n). holds_by s i h i.complex refl o.written a k) o.below.1;
}

-- an attribute of a record is newly declared by an entity of the set
pub attribute_from : (s : Schema) (i : Instance) (k : List ℕ) (os : List Origin) (p : ℕ) (o : Origin) → IsIn (keywords i) k → AreAttributes s i.complex k os → slice_get os p ≡ Some o → IsNew s o × IsInSet s i o.entity
attribute_from s i k os p o w a g = by i.complex refl a where
  by : (c : Bool) → i.complex ≡ c → AreAttributes s c k os → IsNew s o × IsInSet s i o.entity
  by _ e (attributes.simple r) =
      let f = row_from s r o (found_in os p o g) in
      (f.new, ⊎_elim (λ (q : k ≡ o.entity). set.named (subst (IsIn (keywords i)) q w) (is_entity s f.new.entity o.entity f.new.declared f.new.name_is)) (λ (x : IsAncestor s k o.entity). set.ancestor e w x) f.above)
  by _ e (attributes.complex d j m q) =
      let r = named_by d.name (new_explicit d.attributes) o (subst (λ (l : List Origin). IsIn l o) (sym q) (found_in os p o g)) in
      (record { entity = d; declared = j; name_is = r.0; newly = r.1 }, set.named (subst (IsIn (keywords i)) (sym m ∙ r.0) w) (is_entity s d o.entity j r.0))
