-- Declarations that fit together, check by check.
use Rattle.std.proofs.Common.{◌≡◌, Option, None, IsSome, Result, Ok, Err, sym, subst}
use Rattle.std.specs.Prelude.{MatchResult}
use Rattle.std.specs.List.{AllByRecursion}
use Rattle.p21_express.specs.declared.misfit.Misfit.{Misfit}
use Rattle.p21_express.specs.declared.misfit.Misfit.TheVariants as misfit
use Rattle.p21_express.specs.declared.misfit.Unfit.{Unfit}
use Rattle.p21_express.specs.declared.misfit.Unfit.TheVariants as unfit
use Rattle.p21_express.specs.Schema.{Schema, Entity, Attribute, Defined, Underlying, Expr, items, select, plain, integer, number, boolean, logical, real, text, binary, aggregate, named}
use Rattle.p21_express.specs.Checks.{Finds, HasKnownNames, HasKnownUnder, HasNoSelectUnder}
use Rattle.p21_express.specs.Misfit.{OnUnfit, Only, OfNames, IsMisfit}
use Rattle.p21_express.specs.SchemaFault.{AreNamesKnown, AreKnownUnder, IsNoEntityAlone, IsNoSelectAlone, IsNoLoneSelect, HasNoLoneSelect}
use Rattle.p21_express.specs.WellFormed.{IsEntity, IsKnown, IsKnownUnder, IsAllowedAlone, HasNoRepeated, HasNoUnknown, HasNoCycles, IsRedeclaring, IsWellFormed}
use Rattle.p21_express.proofs.ChecksLemmas.{all_both, all_parts, all_same, finds_both, found_none, found_some}

-- ---- names: what is unknown, and SELECTs that stand alone

alone_both : (s : Schema) (e : Expr) → IsNoEntityAlone s e → IsNoSelectAlone s e → IsAllowedAlone s e
alone_both s integer h k = tt
alone_both s number h k = tt
alone_both s boolean h k = tt
alone_both s logical h k = tt
alone_both s real h k = tt
alone_both s (text w) h k = tt
alone_both s (binary w) h k = tt
alone_both s (aggregate a e) h k = tt
alone_both s (named n) h k = (h, k)

under_both : (s : Schema) (u : Underlying) → AreKnownUnder s u → IsNoLoneSelect s u → IsKnownUnder s u
under_both s (items ns) h k = tt
under_both s (select ns) h k = h
under_both s (plain e) h k = (h.0, alone_both s e h.1 k)

no_entity_alone : (s : Schema) (e : Expr) → IsAllowedAlone s e → IsNoEntityAlone s e
no_entity_alone s integer h = tt
no_entity_alone s number h = tt
no_entity_alone s boolean h = tt
no_entity_alone s logical h = tt
no_entity_alone s real h = tt
no_entity_alone s (text w) h = tt
no_entity_alone s (binary w) h = tt
no_entity_alone s (aggregate a e) h = tt
no_entity_alone s (named n) h = h.0

no_select_alone : (s : Schema) (e : Expr) → IsAllowedAlone s e → IsNoSelectAlone s e
no_select_alone s integer h = tt
no_select_alone s number h = tt
no_select_alone s boolean h = tt
no_select_alone s logical h = tt
no_select_alone s real h = tt
no_select_alone s (text w) h = tt
no_select_alone s (binary w) h = tt
no_select_alone s (aggregate a e) h = tt
no_select_alone s (named n) h = h.1

known_under : (s : Schema) (u : Underlying) → IsKnownUnder s u → AreKnownUnder s u
known_under s (items ns) h = tt
known_under s (select ns) h = h
known_under s (plain e) h = (h.0, no_entity_alone s e h.1)

no_lone_under : (s : Schema) (u : Underlying) → IsKnownUnder s u → IsNoLoneSelect s u
no_lone_under s (items ns) h = tt
no_lone_under s (select ns) h = tt
no_lone_under s (plain e) h = no_select_alone s e h.1

no_unknown : (s : Schema) → AreNamesKnown s → HasNoLoneSelect s → HasNoUnknown s
no_unknown s h k = record {
  supertypes = h.supertypes;
  attributes = h.attributes;
  types = all_same (λ (t : Defined). AreKnownUnder s t.under × IsNoLoneSelect s t.under) (λ (t : Defined). IsKnownUnder s t.under) s.types (λ t b. under_both s t.under b.0 b.1) (all_both (λ (t : Defined). AreKnownUnder s t.under) (λ (t : Defined). IsNoLoneSelect s t.under) s.types h.types k);
}

names_known : (s : Schema) → HasNoUnknown s → AreNamesKnown s
names_known s h = record {
  supertypes = h.supertypes;
  attributes = h.attributes;
  types = all_same (λ (t : Defined). IsKnownUnder s t.under) (λ (t : Defined). AreKnownUnder s t.under) s.types (λ t b. known_under s t.under b) h.types;
}

no_lone_select : (s : Schema) → HasNoUnknown s → HasNoLoneSelect s
no_lone_select s h = all_same (λ (t : Defined). IsKnownUnder s t.under) (λ (t : Defined). IsNoLoneSelect s t.under) s.types (λ t b. no_lone_under s t.under b) h.types

checked_names : (s : Schema) → AllByRecursion (HasKnownNames s) s.entities × AllByRecursion (HasKnownUnder s) s.types → AreNamesKnown s
checked_names s h =
    let parts = all_parts (λ (e : Entity). AllByRecursion (IsEntity s) e.supertypes) (λ (e : Entity). AllByRecursion (λ (a : Attribute). IsKnown s a.texpr) e.attributes) s.entities h.0 in
    record { supertypes = parts.0; attributes = parts.1; types = h.1 }

names_checked : (s : Schema) → AreNamesKnown s → AllByRecursion (HasKnownNames s) s.entities × AllByRecursion (HasKnownUnder s) s.types
names_checked s h = (all_both (λ (e : Entity). AllByRecursion (IsEntity s) e.supertypes) (λ (e : Entity). AllByRecursion (λ (a : Attribute). IsKnown s a.texpr) e.attributes) s.entities h.supertypes h.attributes, h.types)

of_names : (P P' Q Q' : Type 0) (m : Misfit) → (P → P') → (Q → Q') → OfNames P Q m → OfNames P' Q' m
of_names P P' Q Q' misfit.Repeated f g h = h
of_names P P' Q Q' misfit.UnknownName f g h = f h
of_names P P' Q Q' misfit.LoneSelect f g h = g h
of_names P P' Q Q' misfit.Cycle f g h = h
of_names P P' Q Q' misfit.BadRedeclaration f g h = h

-- what is found among the names, and among the SELECTs
pub names_refused : {X : Type 0} (s : Schema) (start middle unknown again selects : Option X) (r : Result (Unit {0}) Unfit) → start ≡ None → again ≡ None → Finds start middle (AllByRecursion (HasKnownNames s) s.entities) → Finds middle unknown (AllByRecursion (HasKnownUnder s) s.types) → Finds again selects (AllByRecursion (HasNoSelectUnder s) s.types) → MatchResult r (λ _. (unknown ≡ None) × (selects ≡ None)) (λ e. OnUnfit e (OfNames (IsSome unknown) (IsSome selects))) → MatchResult r (λ _. HasNoUnknown s) (λ e. OnUnfit e (OfNames (¬ (AreNamesKnown s)) (¬ (HasNoLoneSelect s))))
names_refused s start middle unknown again selects (Ok x) p q f g k h =
    let both = finds_both (AllByRecursion (HasKnownNames s) s.entities) (AllByRecursion (HasKnownUnder s) s.types) start middle unknown f g in
    no_unknown s (checked_names s (found_none start unknown (AllByRecursion (HasKnownNames s) s.entities × AllByRecursion (HasKnownUnder s) s.types) both h.0)) (found_none again selects (AllByRecursion (HasNoSelectUnder s) s.types) k h.1)
names_refused s start middle unknown again selects (Err unfit.Memory) p q f g k h = tt
names_refused s start middle unknown again selects (Err (unfit.Found m left)) p q f g k h =
    let both = finds_both (AllByRecursion (HasKnownNames s) s.entities) (AllByRecursion (HasKnownUnder s) s.types) start middle unknown f g in
    of_names (IsSome unknown) (¬ (AreNamesKnown s)) (IsSome selects) (¬ (HasNoLoneSelect s)) m
    (λ some known. found_some start unknown (AllByRecursion (HasKnownNames s) s.entities × AllByRecursion (HasKnownUnder s) s.types) p both some (names_checked s known))
    (λ some none. found_some again selects (AllByRecursion (HasNoSelectUnder s) s.types) q k some none) h

-- ---- the checks one after the other

pub only_misfit : (s : Schema) (m : Misfit) (P : Type 0) (u : Unfit) → (P → IsMisfit s m) → OnUnfit u (Only m P) → OnUnfit u (IsMisfit s)
only_misfit s m P unfit.Memory to h = tt
only_misfit s m P (unfit.Found k left) to h = subst (IsMisfit s) (sym h.0) (to h.1)

names_misfit : (s : Schema) (m : Misfit) → HasNoRepeated s → OfNames (¬ (AreNamesKnown s)) (¬ (HasNoLoneSelect s)) m → IsMisfit s m
names_misfit s misfit.Repeated r h = absurd h
names_misfit s misfit.UnknownName r h = (r, h)
names_misfit s misfit.LoneSelect r h = (r, h)
names_misfit s misfit.Cycle r h = absurd h
names_misfit s misfit.BadRedeclaration r h = absurd h

pub unknown_misfit : (s : Schema) (u : Unfit) → HasNoRepeated s → OnUnfit u (OfNames (¬ (AreNamesKnown s)) (¬ (HasNoLoneSelect s))) → OnUnfit u (IsMisfit s)
unknown_misfit s unfit.Memory r h = tt
unknown_misfit s (unfit.Found m left) r h = names_misfit s m r h

-- the last check, after the others
pub checked : (s : Schema) (r : Result (Unit {0}) Unfit) → HasNoRepeated s → HasNoUnknown s → HasNoCycles s → MatchResult r (λ _. AllByRecursion (IsRedeclaring s) s.entities) (λ e. OnUnfit e (Only misfit.BadRedeclaration (¬ (AllByRecursion (IsRedeclaring s) s.entities)))) → MatchResult r (λ _. IsWellFormed s) (λ e. OnUnfit e (IsMisfit s))
checked s (Ok x) repeated unknown cycles h = record { repeated = repeated; unknown = unknown; cycles = cycles; redeclared = h }
checked s (Err e) repeated unknown cycles h = only_misfit s misfit.BadRedeclaration (¬ (AllByRecursion (IsRedeclaring s) s.entities)) e (λ n. (repeated, unknown, cycles, n)) h

-- declarations of which something is wrong are not well-formed
pub not_well_formed : (s : Schema) (m : Misfit) → IsMisfit s m → ¬ (IsWellFormed s)
not_well_formed s misfit.Repeated h = λ w. h w.repeated
not_well_formed s misfit.UnknownName h = λ w. h.1 (names_known s w.unknown)
not_well_formed s misfit.LoneSelect h = λ w. h.1 (no_lone_select s w.unknown)
not_well_formed s misfit.Cycle h = λ w. h.2 w.cycles
not_well_formed s misfit.BadRedeclaration h = λ w. h.3 w.redeclared
