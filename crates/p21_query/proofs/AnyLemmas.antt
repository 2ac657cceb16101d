-- Records of which one is as wanted.
use Rattle.std.proofs.Common.{◌≡◌, ◌<◌, ℕ, zero, suc, List, [], ◌∷◌, Bool, inl, inr, map, length, drop, get_or, refl, sym, ap, subst, arith}
use Rattle.p21_express.specs.Schema.{Schema, Entity}
use Rattle.p21_express.specs.WellFormed.{IsIn, IsEntity}
use Rattle.p21_tree.specs.Grammar.{Entry}
use Rattle.p21_tree.specs.declared.instances.RawInstance.{RawInstance}
use Rattle.p21_tree.specs.declared.instances.Record.{Record}
use Rattle.p21_tree.specs.Views.{plain_instance, plain_record}
use Rattle.p21_schema.specs.declared.ids.EntityId.{EntityId}
use Rattle.p21_schema.specs.Place.{no_entity, entity_at, entity_name, IsEntityOf}
use Rattle.p21_check.specs.Sets.{AnyIn}
use Rattle.p21_query.specs.Wanted.{IsMeant, IsWanted}
use Rattle.p21_query.specs.Names.{AnyHasName, HasNameIn}

there_at : (es : List Entity) (i : ℕ) → i < length es → IsIn es (get_or es i no_entity)
there_at [] i h = absurd (omega arith)
there_at (e ∷ es) zero h = inl refl
there_at (e ∷ es) (suc i) h = inr (there_at es i (omega arith))

named_in : (es : List Entity) (e : Entity) → IsIn es e → IsIn (map (λ (x : Entity). x.name) es) e.name
named_in [] e h = absurd h
named_in (x ∷ es) e (inl q) = inl (ap (λ (y : Entity). y.name) q)
named_in (x ∷ es) e (inr h) = inr (named_in es e h)

-- the name of an id is an entity's
pub is_entity : (s : Schema) (e : EntityId) (n : List ℕ) → IsEntityOf s e → entity_name s e ≡ n → IsEntity s n
is_entity s e n h q = subst (IsEntity s) q (named_in s.entities (entity_at s e) (there_at s.entities e.index h))

module _ {X : Type 0} where
  in_drop : (xs : List X) (i : ℕ) (x : X) → IsIn (drop i xs) x → IsIn xs x
  in_drop xs zero x h = h
  in_drop [] (suc i) x h = h
  in_drop (y ∷ xs) (suc i) x h = inr (in_drop xs i x h)

  pub any_there : (P : X → Type 0) (xs rest : List X) (i : ℕ) (x : X) → drop i xs ≡ x ∷ rest → P x → AnyIn xs P
  any_there P xs rest i x e p = (x, in_drop xs i x (subst (λ (l : List X). IsIn l x) (sym e) (inl refl)), p)

  any_next : (P : X → Type 0) (rest : List X) (x : X) → ¬ (P x) → AnyIn (x ∷ rest) P → AnyIn rest P
  any_next P rest x n (y, inl e, p) = absurd (n (subst P (sym e) p))
  any_next P rest x n (y, inr h, p) = (y, h, p)

  pub any_further : (P : X → Type 0) (l rest : List X) (x : X) → l ≡ x ∷ rest → ¬ (P x) → AnyIn l P → AnyIn rest P
  any_further P l rest x e n h = any_next P rest x n (subst (λ (k : List X). AnyIn k P) e h)

  pub none_left : (P : X → Type 0) (l : List X) → l ≡ [] → ¬ (AnyIn l P)
  none_left P l e h = let k = subst (λ (m : List X). AnyIn m P) e h in absurd k.1

keyword_in : (rs : List Record) (r : Record) → IsIn rs r → IsIn (map (λ (e : Entry). e.keyword) (map plain_record rs)) r.keyword.now
keyword_in [] r h = absurd h
keyword_in (x ∷ rs) r (inl e) = inl (ap (λ (y : Record). y.keyword.now) e)
keyword_in (x ∷ rs) r (inr h) = inr (keyword_in rs r h)

in_keywords : (rs : List Record) (k : List ℕ) → IsIn (map (λ (e : Entry). e.keyword) (map plain_record rs)) k → (r : Record) × IsIn rs r × (r.keyword.now ≡ k)
in_keywords [] k h = absurd h
in_keywords (x ∷ rs) k (inl e) = (x, inl refl, e)
in_keywords (x ∷ rs) k (inr h) = let r = in_keywords rs k h in (r.0, inr r.1, r.2)

-- an instance is wanted where a record of it names what is meant
pub wanted_any : (s : Schema) (b : Bool) (n : List ℕ) (i : RawInstance) → AnyIn i.records (λ (r : Record). IsMeant s b r.keyword.now n) → IsWanted s b n (plain_instance i)
wanted_any s b n i h = record { keyword = h.0.keyword.now; written = keyword_in i.records h.0 h.1; meant = h.2 }

pub any_wanted : (s : Schema) (b : Bool) (n : List ℕ) (i : RawInstance) → IsWanted s b n (plain_instance i) → AnyIn i.records (λ (r : Record). IsMeant s b r.keyword.now n)
any_wanted s b n i h =
    let r = in_keywords i.records h.keyword h.written in
    (r.0, r.1, subst (λ (k : List ℕ). IsMeant s b k n) (sym r.2) h.meant)

entry_in : (rs : List Record) (r : Record) → IsIn rs r → IsIn (map plain_record rs) (plain_record r)
entry_in [] r h = absurd h
entry_in (x ∷ rs) r (inl e) = inl (ap plain_record e)
entry_in (x ∷ rs) r (inr h) = inr (entry_in rs r h)

in_entries : (rs : List Record) (e : Entry) → IsIn (map plain_record rs) e → (r : Record) × IsIn rs r × (plain_record r ≡ e)
in_entries [] e h = absurd h
in_entries (x ∷ rs) e (inl q) = (x, inl refl, q)
in_entries (x ∷ rs) e (inr h) = let r = in_entries rs e h in (r.0, inr r.1, r.2)

-- an instance has a name where a record of it has
pub named_any : (n : ℕ) (i : RawInstance) → AnyIn i.records (λ (r : Record). HasNameIn n (plain_record r).params) → AnyHasName n (plain_instance i).records
named_any n i h = record { entry = plain_record h.0; among = entry_in i.records h.0 h.1; named = h.2 }

pub any_named : (n : ℕ) (i : RawInstance) → AnyHasName n (plain_instance i).records → AnyIn i.records (λ (r : Record). HasNameIn n (plain_record r).params)
any_named n i h =
    let r = in_entries i.records h.entry h.among in
    (r.0, r.1, subst (λ (e : Entry). HasNameIn n e.params) (sym r.2) h.named)
