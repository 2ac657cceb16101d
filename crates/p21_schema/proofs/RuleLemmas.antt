-- Declarations that fit together do so under any rules.
use Rattle.std.proofs.Common.{ℕ, Bool, List, [], ◌∷◌, inl, inr, ⊎_elim}
use Rattle.std.specs.List.{AllByRecursion}
use Rattle.p21_express.specs.Schema.{Schema, Entity, Defined, Expr, Underlying, items, select, plain, integer, number, boolean, logical, real, text, binary, aggregate, named}
use Rattle.p21_express.specs.WellFormed.{IsSelect, IsSupertype, IsOther, IsInnerSelect, Leads, HasNoCycle, IsNewIn, IsNewInDerive, IsOrigin, DeclaresAgain, DeclareAgain, IsRedeclaring, Redeclaration, Origin, IsKnownUnder, IsAllowedAlone, IsWellFormed}
use Rattle.p21_graph.specs.Graph as way
use Rattle.p21_schema.specs.declared.rules.Rules.{Rules}
use Rattle.p21_schema.specs.declared.rows.Own.{Own}
use Rattle.p21_schema.specs.RowTable.{IsOwnTable}
use Rattle.p21_schema.specs.Rules.{with_rules}

module _ (n : List ℕ) (es : List Entity) (ts : List Defined) where
  -- these declarations, with the rule or without
  abbrev under : Bool → Schema
  under b = record { name = n; entities = es; types = ts; distinct = b }

  module _ (a b : Bool) where
    select_too : {m : List ℕ} → IsSelect (under a) m → IsSelect (under b) m
    select_too h = record { type = h.type; declared = h.declared; name_is = h.name_is; selects = h.selects }

    supertype_too : (x y : List ℕ) → IsSupertype (under a) x y → IsSupertype (under b) x y
    supertype_too x y h = record { entity = h.entity; declared = h.declared; name_is = h.name_is; named = h.named }

    other_too : (x y : List ℕ) → IsOther (under a) x y → IsOther (under b) x y
    other_too x y h = record { type = h.type; declared = h.declared; name_is = h.name_is; under = h.under }

    new_too : {d m : List ℕ} → IsNewIn (under a) d m → IsNewIn (under b) d m
    new_too h = record { entity = h.entity; declared = h.declared; name_is = h.name_is; newly = h.newly }

    derived_too : {d m : List ℕ} → IsNewInDerive (under a) d m → IsNewInDerive (under b) d m
    derived_too h = record { entity = h.entity; declared = h.declared; name_is = h.name_is; newly = h.newly }

  leads_too : {X : Type 0} {P Q : X → X → Type 0} {x y : X} → ((a b : X) → P a b → Q a b) → Leads P x y → Leads Q x y
  leads_too f (way.one {a = a} {b = b} h) = way.one (f a b h)
  leads_too f (way.more {a = a} {b = b} h others) = way.more (f a b h) (leads_too f others)

  no_cycle_too : {X : Type 0} {P Q : X → X → Type 0} → ((a b : X) → Q a b → P a b) → HasNoCycle P → HasNoCycle Q
  no_cycle_too f none x h = none x (leads_too f h)

  all_too : {X : Type 0} {P Q : X → Type 0} → ((x : X) → P x → Q x) → (xs : List X) → AllByRecursion P xs → AllByRecursion Q xs
  all_too f [] h = tt
  all_too f (x ∷ xs) h = (f x h.0, all_too f xs h.1)

  module _ (a b : Bool) where
    inner_too : (x y : List ℕ) → IsInnerSelect (under a) x y → IsInnerSelect (under b) x y
    inner_too x y h = record { type = h.type; items = h.items; declared = h.declared; name_is = h.name_is; under = h.under; item = h.item; selects = select_too a b h.selects }

    origin_too : {o m d : List ℕ} → IsOrigin (under a) o m d → IsOrigin (under b) o m d
    origin_too h = (⊎_elim (λ e. inl e) (λ k. inr (leads_too (supertype_too a b) k)) h.0, new_too a b h.1)

  module _ (a b : Bool) where
    again_too : {e d : List ℕ} {r : Redeclaration} → DeclaresAgain (under a) e r d → DeclaresAgain (under b) e r d
    again_too h = record { ancestor = leads_too (supertype_too a b) h.ancestor; origin = origin_too a b h.origin; only = λ other k. h.only other (origin_too b a k); allowed = λ x k. h.allowed x (derived_too b a k) }

    all_again_too : {e : List ℕ} {rs : List Redeclaration} {os : List Origin} → DeclareAgain (under a) e rs os → DeclareAgain (under b) e rs os
    all_again_too DeclareAgain.none = DeclareAgain.none
    all_again_too (DeclareAgain.more h others) = DeclareAgain.more (again_too h) (all_again_too others)

    redeclaring_too : (e : Entity) → IsRedeclaring (under a) e → IsRedeclaring (under b) e
    redeclaring_too e h = record { origins = h.origins; declare = all_again_too h.declare; distinct = h.distinct }

    alone_too : (x : Expr) → IsAllowedAlone (under a) x → IsAllowedAlone (under b) x
    alone_too (named m) h = (h.0, λ k. h.1 (select_too b a k))
    alone_too integer h = tt
    alone_too number h = tt
    alone_too boolean h = tt
    alone_too logical h = tt
    alone_too real h = tt
    alone_too (text w) h = tt
    alone_too (binary w) h = tt
    alone_too (aggregate g x) h = tt

    under_too : (u : Underlying) → IsKnownUnder (under a) u → IsKnownUnder (under b) u
    under_too (items ns) h = tt
    under_too (select ns) h = h
    under_too (plain x) h = (h.0, alone_too x h.1)

    fit_too : IsWellFormed (under a) → IsWellFormed (under b)
    fit_too h = record {
      repeated = record { declarations = h.repeated.declarations; attributes = h.repeated.attributes; supertypes = h.repeated.supertypes; enumerations = h.repeated.enumerations };
      unknown = record { supertypes = h.unknown.supertypes; attributes = h.unknown.attributes; types = all_too (λ t. under_too t.under) ts h.unknown.types };
      cycles = record { entities = no_cycle_too (supertype_too b a) h.cycles.entities; types = no_cycle_too (other_too b a) h.cycles.types; selects = no_cycle_too (inner_too b a) h.cycles.selects };
      redeclared = all_too redeclaring_too es h.redeclared;
    }

pub own_with : (s : Schema) (r : Rules) (table : List Own) → IsOwnTable s table → IsOwnTable (with_rules s r) table
own_with s r table h = record { count = h.count; rows = λ i less. let k = h.rows i less in record { from = k.from; count = k.count } }

pub fits_with : (s : Schema) (r : Rules) → IsWellFormed s → IsWellFormed (with_rules s r)
fits_with s r h = fit_too s.name s.entities s.types s.distinct r.distinct h
