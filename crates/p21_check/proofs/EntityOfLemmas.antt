-- The entity of an instance.
use Rattle.std.proofs.Common.{◌≡◌, inl, inr, ℕ, suc, ◌<◌, true, false, Bool, List, [], ◌∷◌, Option, Some, None, map, length, get_or, refl, sym, ap, subst, ◌∙◌, arith}
use Rattle.std.specs.Prelude.{MatchOption}
use Rattle.std.proofs.lemmas.Bool.{cases_Bool}
use Rattle.p21_express.specs.Schema.{Schema, Entity}
use Rattle.p21_express.specs.WellFormed.{IsIn, IsEntity}
use Rattle.p21_tree.specs.Sentence.{Instance}
use Rattle.p21_tree.specs.Grammar.{Entry}
use Rattle.p21_tree.specs.Views.{plain_instance, plain_record}
use Rattle.p21_tree.specs.declared.instances.RawInstance.{RawInstance}
use Rattle.p21_tree.specs.declared.instances.Record.{Record}
use Rattle.p21_schema.specs.declared.ids.EntityId.{EntityId}
use Rattle.p21_schema.specs.Ancestry.{entity_id}
use Rattle.p21_schema.specs.Place.{no_entity, entity_name, IsEntityOf}
use Rattle.p21_check.specs.EntityOf.{IsSimpleOf, IsSimpleEntity}
use Rattle.p21_check.specs.EntitySet.{keywords}
use Rattle.p21_check.specs.Instances.{simple_instance, complex_instance}
use Rattle.p21_check.specs.LocalFault.{HasUnknownEntity, IsLocalFault}
use Rattle.p21_tree.specs.declared.faults.FaultKind.TheVariants as kind
use Rattle.p21_check.proofs.ComplexLemmas.{one_record}
use Rattle.p21_check.proofs.SetLemmas.{is_entity}

place_of : (es : List Entity) (n : List ℕ) → IsIn (map (λ (e : Entity). e.name) es) n → (i : ℕ) × (i < length es) × ((get_or es i no_entity).name ≡ n)
place_of [] n h = elim h [ ]
place_of (e ∷ es) n (inl f) = (0, omega arith, f)
place_of (e ∷ es) n (inr h) = let more = place_of es n h in (suc more.0, (let less = more.1 in omega arith), more.2)

-- an entity has an id
pub id_of : (s : Schema) (n : List ℕ) → IsEntity s n → (e : EntityId) × IsEntityOf s e × (entity_name s e ≡ n)
id_of s n h = let place = place_of s.entities n h in (entity_id place.0, place.1, place.2)

head_is : {k n : List ℕ} → k ∷ [] ≡ n ∷ [] → k ≡ n
head_is e = cc

pub one_keyword : (rs : List Record) (d : Record) → length rs ≡ 1 → d ≡ get_or rs 0 d → map (λ (e : Entry). e.keyword) (map plain_record rs) ≡ d.keyword.now ∷ []
one_keyword [] d h e = cc
one_keyword (r ∷ []) d h e = ap (λ (x : Record). x.keyword.now ∷ []) (sym e)
one_keyword (r ∷ q ∷ rs) d h e = cc

-- the keyword of an instance that is not complex
pub keyword_of : (i : RawInstance) (x : Record) → i.complex ≡ false → x ≡ get_or i.records 0 x → keywords (plain_instance i) ≡ x.keyword.now ∷ []
keyword_of i x simple first = one_keyword i.records x (i.single simple) first

-- a simple instance whose keyword is no entity has none
pub of_unknown : (s : Schema) (i : Instance) (k : List ℕ) → keywords i ≡ k ∷ [] → ¬ (IsEntity s k) → IsSimpleEntity s i None
of_unknown s i k ks unknown e h = unknown (subst (IsEntity s) (sym (head_is (sym ks ∙ h.keyword))) (is_entity s e h.known_))

first_of : (rs : List Record) → length rs ≡ 1 → (x : Record) × (x ≡ get_or rs 0 x)
first_of [] e = absurd (cc)
first_of (r ∷ rs) e = (r, refl)

-- the one keyword of a simple instance that has none is no entity
pub unknown_keyword : (s : Schema) (i : RawInstance) → i.complex ≡ false → IsSimpleEntity s (plain_instance i) None → (k : List ℕ) × (keywords (plain_instance i) ≡ k ∷ []) × ¬ (IsEntity s k)
unknown_keyword s i simple none =
    let first = first_of i.records (i.single simple) in
    let ks = keyword_of i first.0 simple first.1 in (
      first.0.keyword.now,
      ks,
      λ h.
          let id = id_of s first.0.keyword.now h in
          none id.0 (record { simple = simple; known_ = id.1; keyword = ks ∙ ap (λ (n : List ℕ). n ∷ []) (sym id.2) }),
    )

-- and so it has this fault
pub unknown_has : (s : Schema) (i : RawInstance) → i.complex ≡ false → IsSimpleEntity s (plain_instance i) None → HasUnknownEntity s (plain_instance i)
unknown_has s i simple none =
    let one = unknown_keyword s i simple none in
    record { keyword = one.0; written = subst (λ (ns : List (List ℕ)). IsIn ns one.0) (sym one.1) (inl refl); unknown = one.2 }

-- what the schema answers to the keyword of a simple instance
pub of_keyword : (s : Schema) (i : RawInstance) (x : Record) (r : Option EntityId) → i.complex ≡ false → x ≡ get_or i.records 0 x → MatchOption r (¬ (IsEntity s x.keyword.now)) (λ e. IsEntityOf s e × (entity_name s e ≡ x.keyword.now)) → IsSimpleEntity s (plain_instance i) r
of_keyword s i x None simple first h = of_unknown s (plain_instance i) x.keyword.now (keyword_of i x simple first) h
of_keyword s i x (Some e) simple first h = record { simple = simple; known_ = h.0; keyword = keyword_of i x simple first ∙ ap (λ (n : List ℕ). n ∷ []) (sym h.1) }

-- the record of a simple instance names its entity
pub names : (s : Schema) (i : RawInstance) (x : Record) (e : EntityId) → x ≡ get_or i.records 0 x → IsSimpleOf s (plain_instance i) e → entity_name s e ≡ x.keyword.now
names s i x e first h = head_is (sym h.keyword ∙ keyword_of i x h.simple first)

-- an instance of an entity is simple, and another without a fault by itself is complex

pub is_simple : (s : Schema) (i : RawInstance) (x : Record) (e : EntityId) → x ≡ get_or i.records 0 x → IsSimpleOf s (plain_instance i) e → plain_instance i ≡ simple_instance i.name i.at (plain_record x)
is_simple s i x e first h =
    ap (λ (b : Bool). instance_of i b i.records) h.simple ∙ ap (instance_of i false) (one_record i.records x (i.single h.simple) first) where
      instance_of : RawInstance → Bool → List Record → Instance
      instance_of i b rs = record { name = i.name; at = i.at; complex = b; records = map plain_record rs }

pub is_complex : (i : RawInstance) → i.complex ≡ true → plain_instance i ≡ complex_instance i.name i.at i.records
is_complex i complex = ap (λ (b : Bool). record { name = i.name; at = i.at; complex = b; records = map plain_record i.records }) complex

pub complex_of : (s : Schema) (i : RawInstance) → IsLocalFault s (plain_instance i) None → IsSimpleEntity s (plain_instance i) None → i.complex ≡ true
complex_of s i fine none = elim (cases_Bool i.complex) [ inl complex ↦ complex | inr simple ↦ absurd (fine kind.UnknownEntity (unknown_has s i simple none)) ]
