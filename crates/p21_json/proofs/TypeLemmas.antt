-- What conforms to one type in a well-formed schema.
use Rattle.std.proofs.Common.{◌≡◌, ℕ, Bool, List, [], ◌∷◌, ◌++◌, map, inl, inr, sym, ap, subst, ◌∙◌, ⊎_elim}
use Rattle.p21_tree.specs.Tree.{Tree, Trees, absent, derived, str, enumeration, items, typed}
use Rattle.p21_express.specs.Schema.{Schema, Entity, Defined, Expr, Underlying, named, plain}
use Rattle.p21_express.specs.Schema as type
use Rattle.p21_express.specs.WellFormed.{IsIn, AreDistinct, IsWellFormed}
use Rattle.p21_check.specs.Conforms.{Conforms, AreElements, IsLogical}
use Rattle.p21_check.specs.Conforms as conforms
use Rattle.p21_json.specs.Logical.{TakesLogical}
use Rattle.p21_json.specs.Logical as takes

-- ---- types of one name

distinct_behind : (ns ms : List (List ℕ)) → AreDistinct (ns ++ ms) → AreDistinct ms
distinct_behind [] ms h = h
distinct_behind (n ∷ ns) ms h = distinct_behind ns ms h.1

name_in : (ts : List Defined) (t : Defined) → IsIn ts t → IsIn (map (λ (t : Defined). t.name) ts) t.name
name_in [] t h = h
name_in (x ∷ ts) t h = ⊎_elim (λ (e : x ≡ t). inl (ap (λ (d : Defined). d.name) e)) (λ (i : IsIn ts t). inr (name_in ts t i)) h

one_of : (ts : List Defined) (t u : Defined) → AreDistinct (map (λ (t : Defined). t.name) ts) → IsIn ts t → IsIn ts u → t.name ≡ u.name → t ≡ u
one_of [] t u d h k e = absurd h
one_of (x ∷ ts) t u d h k e =
    let twice : (y z : Defined) → x ≡ y → IsIn ts z → y.name ≡ z.name → ⊥ = λ y z q i f. d.0 (subst (IsIn (map (λ (t : Defined). t.name) ts)) (sym (ap (λ (t : Defined). t.name) q ∙ f)) (name_in ts z i)) in
    ⊎_elim
    (λ (p : x ≡ t). ⊎_elim (λ (q : x ≡ u). sym p ∙ q) (λ (i : IsIn ts u). absurd (twice t u p i e)) k)
    (λ (i : IsIn ts t). ⊎_elim (λ (q : x ≡ u). absurd (twice u t q i (sym e))) (λ (j : IsIn ts u). one_of ts t u d.1 i j e) k)
    h

-- two types of one name have the same under them
pub one_under : (s : Schema) → IsWellFormed s → (t u : Defined) (n : List ℕ) → IsIn s.types t → t.name ≡ n → IsIn s.types u → u.name ≡ n → t.under ≡ u.under
one_under s wf t u n h e k f =
    ap (λ (d : Defined). d.under) (one_of s.types t u (distinct_behind (map (λ (e : Entity). e.name) s.entities) (map (λ (t : Defined). t.name) s.types) wf.repeated.declarations) h k (e ∙ sym f))

same_plain : (a b : Underlying) (e f : Expr) → a ≡ b → a ≡ plain e → b ≡ plain f → e ≡ f
same_plain a b e f q h k = cc

no_items : (a b : Underlying) (e : Expr) (ns : List (List ℕ)) → a ≡ b → a ≡ plain e → b ≡ type.items ns → ⊥
no_items a b e ns q h k = cc

-- ---- values of one type

-- no string and item of an enumeration are of one type
pub string_or_item : (s : Schema) → IsWellFormed s → {e : Expr} {v w : List ℕ} → Conforms s e (str v) → Conforms s e (enumeration w) → ⊥
string_or_item s wf (conforms.string h) k = elim k [ ]
string_or_item s wf (conforms.defined {n} {e} t i m u c) (conforms.enumeration {names = ns} t' i' m' u' x) = no_items t.under t'.under e ns (one_under s wf t t' n i m i' m') u u'
string_or_item s wf {w = w} (conforms.defined {n} {e} t i m u c) (conforms.defined {e = f} t' i' m' u' c') =
    string_or_item s wf c (subst (λ (x : Expr). Conforms s x (enumeration w)) (sym (same_plain t.under t'.under e f (one_under s wf t t' n i m i' m') u u')) c')

-- an item of a type of BOOLEAN or LOGICAL is one of them
pub logical_item : (s : Schema) → IsWellFormed s → {e : Expr} {v : List ℕ} → Conforms s e (enumeration v) → TakesLogical s e → IsLogical v
logical_item s wf (conforms.boolean h) k = inl h
logical_item s wf (conforms.logical h) k = h
logical_item s wf (conforms.enumeration {n} {names = ns} t i m u x) (takes.defined {e = f} t' i' e' u' l) = absurd (no_items t'.under t.under f ns (one_under s wf t' t n i' e' i m) u' u)
logical_item s wf (conforms.defined {n} {e} t i m u c) (takes.defined {e = f} t' i' m' u' l) =
    logical_item s wf c (subst (TakesLogical s) (sym (same_plain t.under t'.under e f (one_under s wf t t' n i m i' m') u u')) l)

-- two lists of one type have elements of one type
pub record AreBoth (s : Schema) (e : Expr) (ts us : Trees) : Type 0 where
  pub optional : Bool
  pub element : Expr
  pub first : AreElements s optional element ts
  pub second : AreElements s optional element us
  pub logical : TakesLogical s e → TakesLogical s element

pub both_lists : (s : Schema) → IsWellFormed s → {e : Expr} {ts us : Trees} → Conforms s e (items ts) → Conforms s e (items us) → AreBoth s e ts us
both_lists s wf (conforms.aggregate {a} {e} c h) (conforms.aggregate c' h') = record { optional = conforms.may_be_absent a; element = e; first = h; second = h'; logical = λ l. elim l [ takes.element m ↦ m ] }
both_lists s wf {us = us} (conforms.defined {n} {e} t i m u c) (conforms.defined {e = f} t' i' m' u' c') =
    let more = both_lists s wf c (subst (λ (x : Expr). Conforms s x (items us)) (sym (same_plain t.under t'.under e f (one_under s wf t t' n i m i' m') u u')) c') in
    record {
      optional = more.optional;
      element = more.element;
      first = more.first;
      second = more.second;
      logical = λ l. more.logical (under_takes s wf t e n i m u l);
    }
  where
    under_takes : (s : Schema) → IsWellFormed s → (t : Defined) (e : Expr) (n : List ℕ) → IsIn s.types t → t.name ≡ n → t.under ≡ plain e → TakesLogical s (named n) → TakesLogical s e
    under_takes s wf t e n i m u (takes.defined {e = f} t' i' m' u' l) = subst (TakesLogical s) (sym (same_plain t.under t'.under e f (one_under s wf t t' n i m i' m') u u')) l

-- a typed value is of the type that is its keyword
pub typed_value : (s : Schema) → {e : Expr} {k : List ℕ} {t : Tree} → Conforms s e (typed k t) → Conforms s (named k) t
typed_value s (conforms.defined t i m u c) = typed_value s c
typed_value s (conforms.select_type a b c) = c

-- nothing is of a type that is left out
pub no_star : (s : Schema) → {e : Expr} → Conforms s e derived → ⊥
no_star s (conforms.defined t i m u c) = no_star s c

pub no_dollar : (s : Schema) → {e : Expr} → Conforms s e absent → ⊥
no_dollar s (conforms.defined t i m u c) = no_dollar s c
