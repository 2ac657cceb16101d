-- Instances that are asked for.
use Rattle.std.proofs.Common.{◌≡◌, ◌↔◌, ℕ, ◌⊎◌, inl, inr, Bool, true, false, Some, List, [], ◌∷◌, refl, sym, subst, ◌∙◌}
use Rattle.std.specs.Prelude.{IsTrue}
use Rattle.std.proofs.lemmas.Bool.{false≢true}
use Rattle.p21_express.specs.Schema.{Schema, Entity}
use Rattle.p21_express.specs.WellFormed.{IsIn, IsEntity, IsAncestor, IsWellFormed, Leads}
use Rattle.p21_tree.specs.Sentence.{Instance}
use Rattle.p21_schema.specs.declared.ids.EntityId.{EntityId}
use Rattle.p21_schema.specs.Place.{entity_name, IsEntityOf, type_name}
use Rattle.p21_schema.specs.Select.{ReachesA}
use Rattle.p21_schema.specs.Select as reach
use Rattle.p21_check.specs.EntitySet.{IsInSet, keywords}
use Rattle.p21_check.specs.EntitySet as held
use Rattle.p21_check.specs.References.{IsWanted}
use Rattle.p21_check.specs.References as wanted_is
use Rattle.p21_check.specs.declared.wanted.Wanted.{Wanted}
use Rattle.p21_check.specs.declared.wanted.Wanted.TheVariants as asked
use Rattle.p21_check.specs.declared.entity_of.Named.{Named}
use Rattle.p21_check.specs.declared.entity_of.Named.TheVariants as known_as
use Rattle.p21_check.specs.EntityOf.{IsKnownAs}
use Rattle.p21_check.specs.Wanted.{Admits, IsAsked, IsMetFrom, IsNamed, is_name}
use Rattle.p21_check.proofs.NamedTypes.{in_map, no_select}
use Rattle.p21_check.proofs.MetLemmas.{entity_is}

-- the set of a complex instance

complex_in : (s : Schema) (i : Instance) (n : List ℕ) → i.complex ≡ true → IsInSet s i n → IsIn (keywords i) n × IsEntity s n
complex_in s i n c (held.named k e) = (k, e)
complex_in s i n c (held.ancestor simple k a) = absurd (false≢true (sym simple ∙ c))

pub complex_admits : (s : Schema) → IsWellFormed s → (i : Instance) (w : Wanted) → i.complex ≡ true → is_name w ≡ true → IsAsked s w → IsNamed s w (keywords i) ↔ Admits s w i
complex_admits s well i asked.Nothing c n a = absurd (false≢true n)
complex_admits s well i (asked.Elements e) c n a = absurd (false≢true n)
complex_admits s well i (asked.Entity e) c n a = (there, back) where
  is : IsEntity s (entity_name s e)
  is = entity_is s e (entity_name s e) a refl

  there : IsNamed s (asked.Entity e) (keywords i) → IsWanted s i (entity_name s e)
  there h = wanted_is.entity is (held.named (subst (IsIn (keywords i)) h.meets.1 h.among) is)

  back : IsWanted s i (entity_name s e) → IsNamed s (asked.Entity e) (keywords i)
  back (wanted_is.entity h set) = (let k = complex_in s i (entity_name s e) c set in record { name = entity_name s e; among = k.0; meets = (is, refl) })
  back (wanted_is.reached selects r set) = absurd (no_select s well (entity_name s e) is selects)
complex_admits s well i (asked.Select t) c n a = (there, back) where
  there : IsNamed s (asked.Select t) (keywords i) → IsWanted s i (type_name s t)
  there h = wanted_is.reached a.1 h.meets.1 (held.named h.among h.meets.0)

  back : IsWanted s i (type_name s t) → IsNamed s (asked.Select t) (keywords i)
  back (wanted_is.entity h set) = absurd (no_select s well (type_name s t) h a.1)
  back (wanted_is.reached {e = m} selects r set) = (let k = complex_in s i m c set in record { name = m; among = k.0; meets = (k.1, r) })

-- the set of a simple instance

one_in : (k n : List ℕ) → IsIn (k ∷ []) n → k ≡ n
one_in k n (inl e) = e
one_in k n (inr h) = elim h [ ]

simple_in : (s : Schema) (i : Instance) (k n : List ℕ) → keywords i ≡ k ∷ [] → IsInSet s i n → (IsEntity s n × (k ≡ n)) ⊎ IsAncestor s k n
simple_in s i k n e (held.named m h) = inl (h, one_in k n (subst (λ (ks : List (List ℕ)). IsIn ks n) e m))
simple_in s i k n e (held.ancestor {k = j} simple m a) = inr (subst (λ (x : List ℕ). IsAncestor s x n) (sym (one_in k j (subst (λ (ks : List (List ℕ)). IsIn ks j) e m))) a)

here_in : (s : Schema) (i : Instance) (k : List ℕ) → keywords i ≡ k ∷ [] → IsIn (keywords i) k
here_in s i k e = subst (λ (ks : List (List ℕ)). IsIn ks k) (sym e) (inl refl)

pub simple_admits : (s : Schema) → IsWellFormed s → (i : Instance) (w : Wanted) (own : EntityId) (k : List ℕ) → i.complex ≡ false → keywords i ≡ k ∷ [] → IsEntityOf s own → entity_name s own ≡ k → is_name w ≡ true → IsAsked s w → IsMetFrom s w own ↔ Admits s w i
simple_admits s well i asked.Nothing own k c ks known named n a = absurd (false≢true n)
simple_admits s well i (asked.Elements e) own k c ks known named n a = absurd (false≢true n)
simple_admits s well i (asked.Entity e) own k c ks known named n a = (there, back) where
  is : IsEntity s (entity_name s e)
  is = entity_is s e (entity_name s e) a refl

  there : (entity_name s own ≡ entity_name s e) ⊎ IsAncestor s (entity_name s own) (entity_name s e) → IsWanted s i (entity_name s e)
  there (inl f) = wanted_is.entity is (held.named (subst (IsIn (keywords i)) (sym named ∙ f) (here_in s i k ks)) is)
  there (inr f) = wanted_is.entity is (held.ancestor c (here_in s i k ks) (subst (λ (x : List ℕ). IsAncestor s x (entity_name s e)) named f))

  back : IsWanted s i (entity_name s e) → (entity_name s own ≡ entity_name s e) ⊎ IsAncestor s (entity_name s own) (entity_name s e)
  back (wanted_is.entity h set) = elim (simple_in s i k (entity_name s e) ks set) [
    | inl m ↦ inl (named ∙ m.1)
    | inr m ↦ inr (subst (λ (x : List ℕ). IsAncestor s x (entity_name s e)) (sym named) m)
  ]
  back (wanted_is.reached selects r set) = absurd (no_select s well (entity_name s e) is selects)
simple_admits s well i (asked.Select t) own k c ks known named n a = (there, back) where
  there : ReachesA s (type_name s t) (entity_name s own) → IsWanted s i (type_name s t)
  there (reach.itself r) = wanted_is.reached a.1 r (held.named (subst (IsIn (keywords i)) (sym named) (here_in s i k ks)) (entity_is s own (entity_name s own) known refl))
  there (reach.above {a = m} up r) = wanted_is.reached a.1 r (held.ancestor c (here_in s i k ks) (subst (λ (x : List ℕ). IsAncestor s x m) named up))

  back : IsWanted s i (type_name s t) → ReachesA s (type_name s t) (entity_name s own)
  back (wanted_is.entity h set) = absurd (no_select s well (type_name s t) h a.1)
  back (wanted_is.reached {e = m} selects r set) = elim (simple_in s i k m ks set) [
    | inl f ↦ reach.itself (subst (reach.SelectReaches s (type_name s t)) (sym f.1 ∙ sym named) r)
    | inr f ↦ reach.above (subst (λ (x : List ℕ). IsAncestor s x m) (sym named) f) r
  ]

above_is : (s : Schema) (a b : List ℕ) → IsAncestor s a b → IsEntity s a
above_is s a b (Leads.one h) = subst (IsEntity s) h.name_is (in_map (λ (e : Entity). e.name) s.entities h.entity h.declared)
above_is s a b (Leads.more h r) = subst (IsEntity s) h.name_is (in_map (λ (e : Entity). e.name) s.entities h.entity h.declared)

unknown_in : (s : Schema) (i : Instance) (k n : List ℕ) → keywords i ≡ k ∷ [] → ¬ (IsEntity s k) → ¬ (IsInSet s i n)
unknown_in s i k n ks none set = elim (simple_in s i k n ks set) [
  | inl m ↦ none (subst (IsEntity s) (sym m.1) m.0)
  | inr m ↦ none (above_is s k n m)
]

pub unknown_admits : (s : Schema) (i : Instance) (w : Wanted) (k : List ℕ) → keywords i ≡ k ∷ [] → ¬ (IsEntity s k) → is_name w ≡ true → ¬ (Admits s w i)
unknown_admits s i asked.Nothing k ks none n _ = absurd (false≢true n)
unknown_admits s i (asked.Elements e) k ks none n _ = absurd (false≢true n)
unknown_admits s i (asked.Entity e) k ks none n (wanted_is.entity h set) = unknown_in s i k (entity_name s e) ks none set
unknown_admits s i (asked.Entity e) k ks none n (wanted_is.reached {e = m} h r set) = unknown_in s i k m ks none set
unknown_admits s i (asked.Select t) k ks none n (wanted_is.entity h set) = unknown_in s i k (type_name s t) ks none set
unknown_admits s i (asked.Select t) k ks none n (wanted_is.reached {e = m} h r set) = unknown_in s i k m ks none set

pub both : {P Q R : Type 0} → P ↔ Q → Q ↔ R → P ↔ R
both a b = ((λ p. b.0 (a.0 p)), (λ r. a.1 (b.1 r)))

some_one : {X : Type 0} {x y : X} → Some x ≡ Some y → x ≡ y
some_one e = cc

-- an instance that is known to be of an entity
pub known_admits : (s : Schema) → IsWellFormed s → (i : Instance) (w : Wanted) (own : EntityId) (b : Bool) (known : Named) → known ≡ known_as.Simple own → IsKnownAs s (Some i) known → is_name w ≡ true → IsAsked s w → IsTrue b ↔ IsMetFrom s w own → IsTrue b ↔ Admits s w i
known_admits s well i w own b known e k name a met =
    let is = subst (IsKnownAs s (Some i)) e k in
    let same : i ≡ is.0 = some_one is.1 in
    let simple = is.2 in
    subst (λ (j : Instance). IsTrue b ↔ Admits s w j) (sym same)
    (both met (simple_admits s well is.0 w own (entity_name s own) simple.simple simple.keyword simple.known_ refl name a))
