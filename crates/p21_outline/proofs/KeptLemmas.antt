-- An instance that is kept whole is complex.
use Rattle.std.proofs.Common.{◌≡◌, inl, inr, ℕ, suc, ◌<◌, true, List, [], ◌∷◌, None, map, length, get_or, refl, sym, ap, subst, ◌∙◌, arith}
use Rattle.std.proofs.lemmas.Bool.{cases_Bool}
use Rattle.p21_express.specs.Schema.{Schema, Entity}
use Rattle.p21_express.specs.WellFormed.{IsIn, IsEntity}
use Rattle.p21_schema.specs.Ancestry.{entity_id}
use Rattle.p21_schema.specs.Place.{no_entity}
use Rattle.p21_tree.specs.Grammar.{Entry}
use Rattle.p21_tree.specs.Views.{plain_instance, plain_record}
use Rattle.p21_tree.specs.declared.faults.FaultKind.TheVariants as kind
use Rattle.p21_tree.specs.declared.instances.RawInstance.{RawInstance}
use Rattle.p21_tree.specs.declared.instances.Record.{Record}
use Rattle.p21_check.specs.EntityOf.{IsSimpleEntity}
use Rattle.p21_check.specs.LocalFault.{IsLocalFault}

-- the place of an entity of this name
entity_place : (es : List Entity) (n : List ℕ) → IsIn (map (λ (e : Entity). e.name) es) n → (k : ℕ) × (k < length es) × ((get_or es k no_entity).name ≡ n)
entity_place [] n h = elim h [ ]
entity_place (e ∷ es) n (inl f) = (0, omega arith, f)
entity_place (e ∷ es) n (inr h) = let more = entity_place es n h in (suc more.0, (let less = more.1 in omega arith), more.2)

-- the keyword of a lone record
lone_keyword : (rs : List Record) → length rs ≡ 1 → (k : List ℕ) × (map (λ (e : Entry). e.keyword) (map plain_record rs) ≡ k ∷ [])
lone_keyword [] h = absurd (cc)
lone_keyword (r ∷ []) h = (r.keyword.now, refl)
lone_keyword (r ∷ q ∷ rs) h = absurd (cc)

-- a simple instance has an entity, or the fault that it has none
pub is_complex : (s : Schema) (i : RawInstance) → IsLocalFault s (plain_instance i) None → IsSimpleEntity s (plain_instance i) None → i.complex ≡ true
is_complex s i sound none = elim (cases_Bool i.complex) [
  | inl complex ↦ complex
  | inr simple ↦
      let word = lone_keyword i.records (i.single simple) in
      let unknown : ¬ (IsEntity s word.0) = λ known.
      let at = entity_place s.entities word.0 known in
      none (entity_id at.0) (record { simple = simple; known_ = at.1; keyword = word.1 ∙ ap (λ (n : List ℕ). n ∷ []) (sym at.2) }) in
      absurd (sound kind.UnknownEntity (record { keyword = word.0; written = subst (λ (ns : List (List ℕ)). IsIn ns word.0) (sym word.1) (inl refl); unknown = unknown }))
]
