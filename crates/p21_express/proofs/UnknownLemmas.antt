-- Names that are declared as what they are used for.
use Rattle.std.proofs.Common.{◌≡◌, ℕ, List, map, Option, Some, None, sym, ap, subst, ◌∙◌, inl, inr, ◌⊎◌}
use Rattle.p21_express.specs.declared.checks.names.Declared.{Declared}
use Rattle.p21_express.specs.declared.checks.names.Declared.TheVariants as found
use Rattle.p21_express.specs.Schema.{Schema, Entity, Defined, Expr, integer, number, boolean, logical, real, text, binary, aggregate, named}
use Rattle.p21_express.specs.Checks.{lone_name}
use Rattle.p21_express.specs.SchemaFault.{IsNoEntityAlone, IsNoSelectAlone}
use Rattle.p21_express.specs.WellFormed.{IsIn, AreDistinct, declared_names, IsEntity, IsType, IsSelect}
use Rattle.p21_express.specs.Index.{Declares, IsEntityAt, IsSelectAt, IsTypeAt}
use Rattle.p21_express.proofs.IndexLemmas.{is_in_at, at_is_in, entity_named, select_named, type_named, entity_or_type, select_or_type}

pub at_entity : (s : Schema) (n : List ℕ) (o : Option Declared) (d : Declared) (i : ℕ) → o ≡ Some d → d ≡ found.Entity i → Declares s n o → IsEntityAt s i n
at_entity s n o d i some is h = subst (Declares s n) (some ∙ ap (λ (x : Declared). Some x) is) h

pub at_select : (s : Schema) (n : List ℕ) (o : Option Declared) (d : Declared) (i : ℕ) → o ≡ Some d → d ≡ found.Select i → Declares s n o → IsSelectAt s i n
at_select s n o d i some is h = subst (Declares s n) (some ∙ ap (λ (x : Declared). Some x) is) h

pub at_type : (s : Schema) (n : List ℕ) (o : Option Declared) (d : Declared) (i : ℕ) → o ≡ Some d → d ≡ found.Type i → Declares s n o → IsTypeAt s i n
at_type s n o d i some is h = subst (Declares s n) (some ∙ ap (λ (x : Declared). Some x) is) h

pub is_entity : (s : Schema) (i : ℕ) (n : List ℕ) → IsEntityAt s i n → IsEntity s n
is_entity s i n h = is_in_at (map (λ (x : Entity). x.name) s.entities) i n (entity_named s i n h)

select_is_type : (s : Schema) (i : ℕ) (n : List ℕ) → IsSelectAt s i n → IsType s n
select_is_type s i n h = is_in_at (map (λ (x : Defined). x.name) s.types) i n (select_named s i n h)

other_is_type : (s : Schema) (i : ℕ) (n : List ℕ) → IsTypeAt s i n → IsType s n
other_is_type s i n h = is_in_at (map (λ (x : Defined). x.name) s.types) i n (type_named s i n h)

no_entity : (s : Schema) (i : ℕ) (n : List ℕ) → AreDistinct (declared_names s) → IsIn (map (λ t. t.name) s.types) n → ¬ (IsEntity s n)
no_entity s i n d t e =
    let a = at_is_in (map (λ (x : Entity). x.name) s.entities) n e in
    let b = at_is_in (map (λ (x : Defined). x.name) s.types) n t in
    entity_or_type s a.0 b.0 n d a.1 b.1

pub select_no_entity : (s : Schema) (i : ℕ) (n : List ℕ) → AreDistinct (declared_names s) → IsSelectAt s i n → ¬ (IsEntity s n)
select_no_entity s i n d h = no_entity s i n d (select_is_type s i n h)

pub type_no_entity : (s : Schema) (i : ℕ) (n : List ℕ) → AreDistinct (declared_names s) → IsTypeAt s i n → ¬ (IsEntity s n)
type_no_entity s i n d h = no_entity s i n d (other_is_type s i n h)

pub select_at : (s : Schema) (n : List ℕ) → IsSelect s n → (i : ℕ) × IsSelectAt s i n
select_at s n h = let k = at_is_in s.types h.type h.declared in (k.0, record { type = h.type; there = k.1; name_is = h.name_is; selects = h.selects })

pub is_select : (s : Schema) (i : ℕ) (n : List ℕ) → IsSelectAt s i n → IsSelect s n
is_select s i n h = record { type = h.type; declared = is_in_at s.types i h.type h.there; name_is = h.name_is; selects = h.selects }

pub type_no_select : (s : Schema) (i : ℕ) (n : List ℕ) → AreDistinct (declared_names s) → IsTypeAt s i n → ¬ (IsSelect s n)
type_no_select s i n d h k = let at = select_at s n k in select_or_type s at.0 i n d at.1 h

pub entity_no_select : (s : Schema) (i : ℕ) (n : List ℕ) → AreDistinct (declared_names s) → IsEntityAt s i n → ¬ (IsSelect s n)
entity_no_select s i n d h k = let at = select_at s n k in select_no_entity s at.0 n d at.1 (is_entity s i n h)

pub none_no_select : (s : Schema) (n : List ℕ) → ¬ (IsType s n) → ¬ (IsSelect s n)
none_no_select s n none k = let at = select_at s n k in none (select_is_type s at.0 n at.1)

pub is_known : (s : Schema) (n : List ℕ) (d : Declared) → Declares s n (Some d) → IsEntity s n ⊎ IsType s n
is_known s n (found.Entity i) d = inl (is_entity s i n d)
is_known s n (found.Select i) d = inr (select_is_type s i n d)
is_known s n (found.Type i) d = inr (other_is_type s i n d)

pub not_known : (s : Schema) (n : List ℕ) → Declares s n None → ¬ (IsEntity s n ⊎ IsType s n)
not_known s n d (inl h) = d.0 h
not_known s n d (inr h) = d.1 h

pub lone_named : (e : Expr) (n : List ℕ) → lone_name e ≡ Some n → e ≡ named n
lone_named integer n h = absurd cc
lone_named number n h = absurd cc
lone_named boolean n h = absurd cc
lone_named logical n h = absurd cc
lone_named real n h = absurd cc
lone_named (text w) n h = absurd cc
lone_named (binary w) n h = absurd cc
lone_named (aggregate a e) n h = absurd cc
lone_named (named m) n h = ap named (let k : m ≡ n = cc in k)

-- a name that stands alone, seen at its type
pub lone_entity : (s : Schema) (e : Expr) (n : List ℕ) → lone_name e ≡ Some n → ¬ (IsEntity s n) → IsNoEntityAlone s e
lone_entity s e n h ok = subst (IsNoEntityAlone s) (sym (lone_named e n h)) ok

pub entity_lone : (s : Schema) (e : Expr) (n : List ℕ) → lone_name e ≡ Some n → IsNoEntityAlone s e → ¬ (IsEntity s n)
entity_lone s e n h ok = subst (IsNoEntityAlone s) (lone_named e n h) ok

pub lone_select : (s : Schema) (e : Expr) (n : List ℕ) → lone_name e ≡ Some n → ¬ (IsSelect s n) → IsNoSelectAlone s e
lone_select s e n h ok = subst (IsNoSelectAlone s) (sym (lone_named e n h)) ok

pub select_lone : (s : Schema) (e : Expr) (n : List ℕ) → lone_name e ≡ Some n → IsNoSelectAlone s e → ¬ (IsSelect s n)
select_lone s e n h ok = subst (IsNoSelectAlone s) (lone_named e n h) ok
