-- How a schema is stored as numbers, so that the type of the code can stand for it.
use Rattle.std.specs.Prelude.{◌≡◌, ◌⊎◌, ℕ, zero, suc, ℤ, Bool, List, [], ◌∷◌, Option, refl}
use Rattle.std.proofs.Common.{inl, inr, ap}
use Rattle.std.specs.Coded.{Coded, code_by, coded_ℕ, coded_ℤ, coded_bool, coded_list, coded_option, coded×, coded⊎}
use Rattle.p21_express.specs.declared.declarations.Width.{Width}
use Rattle.p21_express.specs.declared.declarations.Bounds.{Bounds}
use Rattle.p21_express.specs.Schema.{Schema, Entity, Attribute, Derived, Defined, Underlying, Expr, Aggregate, items, select, plain, integer, number, boolean, logical, real, text, binary, aggregate, named, array, list, set, bag}

abbrev pub width_code : Coded Width
width_code = code_by (Option ℕ × Bool) (coded× (coded_option coded_ℕ) coded_bool) (λ w. (w.count, w.fixed)) (λ p. record { count = p.0; fixed = p.1 }) (λ _. refl)

abbrev pub bounds_code : Coded Bounds
bounds_code = code_by (Option ℤ × Option ℤ) (coded× (coded_option coded_ℤ) (coded_option coded_ℤ)) (λ b. (b.low, b.high)) (λ p. record { low = p.0; high = p.1 }) (λ _. refl)

-- an ARRAY; LIST; SET; BAG
abbrev AggregateCases : Type 0
AggregateCases = (Bounds × Bool) ⊎ ((Bounds × Bool) ⊎ (Bounds ⊎ Bounds))

abbrev aggregate_cases : Aggregate → AggregateCases
aggregate_cases (array b o) = inl (b, o)
aggregate_cases (list b u) = inr (inl (b, u))
aggregate_cases (set b) = inr (inr (inl b))
aggregate_cases (bag b) = inr (inr (inr b))

abbrev from_aggregate_cases : AggregateCases → Aggregate
from_aggregate_cases (inl p) = array p.0 p.1
from_aggregate_cases (inr (inl p)) = list p.0 p.1
from_aggregate_cases (inr (inr (inl b))) = set b
from_aggregate_cases (inr (inr (inr b))) = bag b

pub aggregate_there : (a : Aggregate) → from_aggregate_cases (aggregate_cases a) ≡ a
aggregate_there (array b o) = refl
aggregate_there (list b u) = refl
aggregate_there (set b) = refl
aggregate_there (bag b) = refl

abbrev pub aggregate_code : Coded Aggregate
aggregate_code = code_by AggregateCases (coded⊎ (coded× bounds_code coded_bool) (coded⊎ (coded× bounds_code coded_bool) (coded⊎ bounds_code bounds_code))) aggregate_cases from_aggregate_cases aggregate_there

-- what stands below the aggregates of a type: a number for a word alone, a width, a width, a name
abbrev Leaf : Type 0
Leaf = ℕ ⊎ (Width ⊎ (Width ⊎ List ℕ))

abbrev leaf_code : Coded Leaf
leaf_code = coded⊎ coded_ℕ (coded⊎ width_code (coded⊎ width_code (coded_list coded_ℕ)))

abbrev levels : Expr → List Aggregate
levels (aggregate a e) = a ∷ levels e
levels integer = []
levels number = []
levels boolean = []
levels logical = []
levels real = []
levels (text w) = []
levels (binary w) = []
levels (named n) = []

abbrev leaf : Expr → Leaf
leaf (aggregate a e) = leaf e
leaf integer = inl 0
leaf number = inl 1
leaf boolean = inl 2
leaf logical = inl 3
leaf real = inl 4
leaf (text w) = inr (inl w)
leaf (binary w) = inr (inr (inl w))
leaf (named n) = inr (inr (inr n))

abbrev word : ℕ → Expr
word zero = integer
word (suc zero) = number
word (suc (suc zero)) = boolean
word (suc (suc (suc zero))) = logical
word (suc (suc (suc (suc n)))) = real

abbrev from_leaf : Leaf → Expr
from_leaf (inl n) = word n
from_leaf (inr (inl w)) = text w
from_leaf (inr (inr (inl w))) = binary w
from_leaf (inr (inr (inr n))) = named n

abbrev from_levels : List Aggregate → Leaf → Expr
from_levels [] l = from_leaf l
from_levels (a ∷ others) l = aggregate a (from_levels others l)

pub expr_there : (e : Expr) → from_levels (levels e) (leaf e) ≡ e
expr_there (aggregate a e) = ap (aggregate a) (expr_there e)
expr_there integer = refl
expr_there number = refl
expr_there boolean = refl
expr_there logical = refl
expr_there real = refl
expr_there (text w) = refl
expr_there (binary w) = refl
expr_there (named n) = refl

abbrev pub expr_code : Coded Expr
expr_code = code_by (List Aggregate × Leaf) (coded× (coded_list aggregate_code) leaf_code) (λ e. (levels e, leaf e)) (λ p. from_levels p.0 p.1) expr_there

abbrev name_code : Coded (List ℕ)
name_code = coded_list coded_ℕ

abbrev names_code : Coded (List (List ℕ))
names_code = coded_list name_code

abbrev attribute_code : Coded Attribute
attribute_code = code_by (List ℕ × (Option (List ℕ) × (Bool × Expr))) (coded× name_code (coded× (coded_option name_code) (coded× coded_bool expr_code))) (λ a. (a.name, (a.of, (a.optional, a.texpr)))) (λ p. record { name = p.0; of = p.1.0; optional = p.1.1.0; texpr = p.1.1.1 }) (λ _. refl)

abbrev derived_code : Coded Derived
derived_code = code_by (List ℕ × Option (List ℕ)) (coded× name_code (coded_option name_code)) (λ d. (d.name, d.of)) (λ p. record { name = p.0; of = p.1 }) (λ _. refl)

abbrev EntityParts : Type 0
EntityParts = List ℕ × (Bool × (List (List ℕ) × (List Attribute × List Derived)))

abbrev entity_code : Coded Entity
entity_code = code_by EntityParts (coded× name_code (coded× coded_bool (coded× names_code (coded× (coded_list attribute_code) (coded_list derived_code))))) (λ e. (e.name, (e.is_abstract, (e.supertypes, (e.attributes, e.derived))))) (λ p. record { name = p.0; is_abstract = p.1.0; supertypes = p.1.1.0; attributes = p.1.1.1.0; derived = p.1.1.1.1 }) (λ _. refl)

abbrev UnderCases : Type 0
UnderCases = List (List ℕ) ⊎ (List (List ℕ) ⊎ Expr)

abbrev under_cases : Underlying → UnderCases
under_cases (items ns) = inl ns
under_cases (select ns) = inr (inl ns)
under_cases (plain e) = inr (inr e)

abbrev from_under_cases : UnderCases → Underlying
from_under_cases (inl ns) = items ns
from_under_cases (inr (inl ns)) = select ns
from_under_cases (inr (inr e)) = plain e

pub under_there : (u : Underlying) → from_under_cases (under_cases u) ≡ u
under_there (items ns) = refl
under_there (select ns) = refl
under_there (plain e) = refl

abbrev under_code : Coded Underlying
under_code = code_by UnderCases (coded⊎ names_code (coded⊎ names_code expr_code)) under_cases from_under_cases under_there

abbrev type_code : Coded Defined
type_code = code_by (List ℕ × Underlying) (coded× name_code under_code) (λ t. (t.name, t.under)) (λ p. record { name = p.0; under = p.1 }) (λ _. refl)

abbrev pub schema_code : Coded Schema
schema_code = code_by (List ℕ × (List Entity × (List Defined × Bool))) (coded× name_code (coded× (coded_list entity_code) (coded× (coded_list type_code) coded_bool))) (λ s. (s.name, (s.entities, (s.types, s.distinct)))) (λ p. record { name = p.0; entities = p.1.0; types = p.1.1.0; distinct = p.1.1.1 }) (λ _. refl)
