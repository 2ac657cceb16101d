-- Flags that spread until nothing more has to have one are just those of types of BOOLEAN or LOGICAL.
use Rattle.std.proofs.Common.{◌≡◌, ◌≢◌, ◌<◌, ℕ, zero, suc, Bool, false, true, List, [], ◌∷◌, length, map, get_or, set, refl, sym, ap, subst, ◌∙◌, arith, ⊎_elim, inl, inr, get_or-set_other}
use Rattle.std.proofs.lemmas.Bool.{cases_eq}
use Rattle.p21_express.specs.Schema.{Schema, Defined, Expr, Aggregate, Underlying, items, select, plain, integer, number, boolean, logical, real, text, binary, aggregate, named}
use Rattle.p21_express.specs.WellFormed.{IsIn, IsType}
use Rattle.p21_schema.specs.Place.{no_type, type_name, IsTypeOf}
use Rattle.p21_schema.specs.declared.ids.TypeId.{TypeId}
use Rattle.p21_json.specs.Logical.{TakesLogical}
use Rattle.p21_json.specs.Logical as takes
use Rattle.p21_json.specs.Flags.{HasFlag, IsFlagged, IsFlaggedUnder, AreSound, IsClosed, AreLogical}

-- what is flagged is of BOOLEAN or LOGICAL
flagged_takes : (s : Schema) (flags : List Bool) → AreSound s flags → (e : Expr) → IsFlagged s flags e → TakesLogical s e
flagged_takes s flags h boolean f = takes.boolean
flagged_takes s flags h logical f = takes.logical
flagged_takes s flags h (aggregate a e) f = takes.element (flagged_takes s flags h e f)
flagged_takes s flags h (named n) f = subst (λ (m : List ℕ). TakesLogical s (named m)) f.named (h f.place f.below f.flagged)
flagged_takes s flags h integer f = absurd f
flagged_takes s flags h number f = absurd f
flagged_takes s flags h real f = absurd f
flagged_takes s flags h (text w) f = absurd f
flagged_takes s flags h (binary w) f = absurd f

at_in : (ts : List Defined) (i : ℕ) → i < length ts → IsIn ts (get_or ts i no_type)
at_in [] i h = absurd (omega arith)
at_in (t ∷ ts) zero h = inl refl
at_in (t ∷ ts) (suc i) h = inr (at_in ts i (omega arith))

in_at : (ts : List Defined) (t : Defined) → IsIn ts t → (i : ℕ) × (i < length ts) × (get_or ts i no_type ≡ t)
in_at [] t h = absurd h
in_at (u ∷ ts) t (inl e) = (0, omega arith, e)
in_at (u ∷ ts) t (inr h) = let k = in_at ts t h in (suc k.0, (let l = k.1 in omega arith), k.2)

under_takes : (s : Schema) (flags : List Bool) → AreSound s flags → (t : Defined) → IsIn s.types t → (u : Underlying) → t.under ≡ u → IsFlaggedUnder s flags u → TakesLogical s (named t.name)
under_takes s flags h t m (plain e) q f = takes.defined t m refl q (flagged_takes s flags h e f)
under_takes s flags h t m (items ns) q f = absurd f
under_takes s flags h t m (select ns) q f = absurd f

-- one more flag, there where it has to be
pub sound_set : (s : Schema) (flags : List Bool) (i : ℕ) → length flags ≡ length s.types → i < length s.types → AreSound s flags → IsFlaggedUnder s flags (get_or s.types i no_type).under → AreSound s (set flags i true)
sound_set s flags i count below h f k l flagged =
    ⊎_elim
    (λ (same : k ≡ i). subst (λ (j : ℕ). TakesLogical s (named (get_or s.types j no_type).name)) (sym same) (under_takes s flags h (get_or s.types i no_type) (at_in s.types i below) _ refl f))
    (λ (other : k ≢ i). h k l (sym (get_or-set_other flags i k true false other) ∙ flagged))
    (cases_eq k i)

-- where no type lacks a flag that it has to have, what is of BOOLEAN or LOGICAL is flagged
takes_flagged : (s : Schema) (flags : List Bool) → IsClosed s flags → {e : Expr} → TakesLogical s e → IsFlagged s flags e
takes_flagged s flags h takes.boolean = tt
takes_flagged s flags h takes.logical = tt
takes_flagged s flags h (takes.element t) = takes_flagged s flags h t
takes_flagged s flags h (takes.defined {e = f} t m named_n under inner) =
    let at = in_at s.types t m in
    let under_at : IsFlaggedUnder s flags (get_or s.types at.0 no_type).under = subst (IsFlaggedUnder s flags) (sym under ∙ sym (ap (λ (d : Defined). d.under) at.2)) (takes_flagged s flags h inner) in
    record { place = at.0; below = at.1; named = ap (λ (d : Defined). d.name) at.2 ∙ named_n; flagged = h at.0 at.1 under_at }

-- flags that are sound and closed are those of the types of BOOLEAN or LOGICAL
pub are_logical : (s : Schema) (flags : List Bool) → ((a b : TypeId) → IsTypeOf s a → IsTypeOf s b → type_name s a ≡ type_name s b → a ≡ b) → length flags ≡ length s.types → AreSound s flags → IsClosed s flags → AreLogical s flags
are_logical s flags one count sound closed = record {
  count = count;
  each = λ i l. (
    sound i l,
    λ t.
        let f = takes_flagged s flags closed t in
        let a : TypeId = record { index = f.place } in
        let b : TypeId = record { index = i } in
        let same : f.place ≡ i = ap (λ (x : TypeId). x.index) (one a b f.below l f.named) in
        subst (λ (j : ℕ). get_or flags j false ≡ true) same f.flagged,
  );
}

name_in : (ts : List Defined) (t : Defined) (n : List ℕ) → IsIn ts t → t.name ≡ n → IsIn (map (λ (d : Defined). d.name) ts) n
name_in [] t n h e = absurd h
name_in (u ∷ ts) t n (inl same) e = inl (ap (λ (d : Defined). d.name) same ∙ e)
name_in (u ∷ ts) t n (inr h) e = inr (name_in ts t n h e)

pub takes_type : (s : Schema) {e : Expr} → TakesLogical s e → (n : List ℕ) → e ≡ named n → IsType s n
takes_type s takes.boolean n q = absurd (let f : boolean ≡ named n = q in cc)
takes_type s takes.logical n q = absurd (let f : logical ≡ named n = q in cc)
takes_type s (takes.element {a = a} {e = e} t) n q = absurd (let f : aggregate a e ≡ named n = q in cc)
takes_type s (takes.defined {n = m} t h same under inner) n q = name_in s.types t n h (same ∙ (let f : named m ≡ named n = q in cc))

-- what is no type is of no values
pub no_type_takes : (s : Schema) (n : List ℕ) → ¬ (IsType s n) → ¬ (TakesLogical s (named n))
no_type_takes s n h t = h (takes_type s t n refl)

element_takes_at : (s : Schema) {e : Expr} → TakesLogical s e → (a : Aggregate) (f : Expr) → e ≡ aggregate a f → TakesLogical s f
element_takes_at s takes.boolean a f q = absurd (let g : boolean ≡ aggregate a f = q in cc)
element_takes_at s takes.logical a f q = absurd (let g : logical ≡ aggregate a f = q in cc)
element_takes_at s (takes.element {a = b} {e = e} t) a f q = subst (TakesLogical s) (let g : aggregate b e ≡ aggregate a f = q in cc) t
element_takes_at s (takes.defined {n = m} t h same under inner) a f q = absurd (let g : named m ≡ aggregate a f = q in cc)

-- an aggregate is of the values of its elements
pub element_takes : (s : Schema) (a : Aggregate) (f : Expr) → TakesLogical s (aggregate a f) → TakesLogical s f
element_takes s a f t = element_takes_at s t a f refl

name_at : (ts : List Defined) (i : ℕ) → i < length ts → IsIn (map (λ (d : Defined). d.name) ts) (get_or ts i no_type).name
name_at [] i h = absurd (omega arith)
name_at (t ∷ ts) zero h = inl refl
name_at (t ∷ ts) (suc i) h = inr (name_at ts i (omega arith))

-- what has a flag is a type
pub flag_of_type : (s : Schema) (flags : List Bool) (n : List ℕ) → HasFlag s flags n → IsType s n
flag_of_type s flags n h = subst (IsIn (map (λ (d : Defined). d.name) s.types)) h.named (name_at s.types h.place h.below)

-- what has a flag has it at its place
pub flag_at : (s : Schema) (flags : List Bool) (n : List ℕ) (id : TypeId) → ((a b : TypeId) → IsTypeOf s a → IsTypeOf s b → type_name s a ≡ type_name s b → a ≡ b) → IsTypeOf s id → type_name s id ≡ n → HasFlag s flags n → get_or flags id.index false ≡ true
flag_at s flags n id one known named_n h =
    let a : TypeId = record { index = h.place } in
    let same : h.place ≡ id.index = ap (λ (x : TypeId). x.index) (one a id h.below known (h.named ∙ sym named_n)) in
    subst (λ (k : ℕ). get_or flags k false ≡ true) same h.flagged

default_none : {X : Type 0} (xs : List X) (i : ℕ) (d e : X) → i < length xs → get_or xs i d ≡ get_or xs i e
default_none [] i d e h = absurd (omega arith)
default_none (x ∷ xs) zero d e h = refl
default_none (x ∷ xs) (suc i) d e h = default_none xs i d e (omega arith)

-- the flag at the place of a type says whether it is of BOOLEAN or LOGICAL
pub flag_says : (s : Schema) (flags : List Bool) (i : ℕ) (n : List ℕ) (r : Bool) → AreLogical s flags → i < length s.types → (get_or s.types i no_type).name ≡ n → r ≡ get_or flags i r → (r ≡ true → TakesLogical s (named n)) × (TakesLogical s (named n) → r ≡ true)
flag_says s flags i n r h l q e =
    let long : i < length flags = (let c = h.count in omega arith) in
    let same : r ≡ get_or flags i false = e ∙ default_none flags i r false long in
    let one = h.each i l in (
      λ t. subst (λ (m : List ℕ). TakesLogical s (named m)) q (one.0 (sym same ∙ t)),
      λ t. same ∙ one.1 (subst (λ (m : List ℕ). TakesLogical s (named m)) (sym q) t),
    )
