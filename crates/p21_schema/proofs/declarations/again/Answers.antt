use Rattle.std.proofs.Common.{◌≡◌, ◌<◌, ℕ, List, [], Option, Some, None, MatchOption, length, get_or, sym, ap, subst, ◌∙◌}
use Rattle.p21_express.specs.Schema.{Schema}
use Rattle.p21_schema.specs.DeclarationTable.{known_schema, IsNotOwn, IsOwnAt, IsOriginAt}
use Rattle.p21_express.specs.WellFormed.{IsIn, IsOrigin, Origin, IsWellFormed}
use Rattle.p21_schema.specs.Ancestry.{entity_id, IsA}
use Rattle.p21_schema.specs.Place.{entity_name}
use Rattle.p21_schema.specs.Row.{attributes_of}
use Rattle.p21_schema.proofs.AncestryLemmas.{name_at, name_count}
use Rattle.p21_schema.proofs.DeclarationLemmas.{no_origin, origin_at}
use Rattle.p21_schema.proofs.declarations.again.Goals as goal

by : (s : Schema) → IsWellFormed s → (of n : List ℕ) (i : ℕ) → i < length s.entities → entity_name s (entity_id i) ≡ of → (r : Option ℕ)
    → MatchOption r ((d : ℕ) → d < length s.entities → IsA s (entity_id i) (entity_id d) → IsNotOwn s d n) (λ k. (d : ℕ) × ((d < length s.entities) × (IsA s (entity_id i) (entity_id d) × IsOwnAt s d n k)))
    → MatchOption r ((o : Origin) → IsIn (attributes_of s.entities) o → o.name ≡ n → ¬ (IsOrigin s of n o.entity)) (λ k. IsOriginAt s of n k)
by s formed of n i less is None h = no_origin s formed of i n less is h
by s formed of n i less is (Some k) h = origin_at s formed of i n k h.0 is h.1.0 h.1.1.0 h.1.1.1

pub attribute_above-requires-clause-entity : goal.attribute_above-requires-clause-entity
attribute_above-requires-clause-entity c =
    let s = known_schema c.args.known.now in
    subst (λ u. c.known.result < u) (ap (λ (u : List (List ℕ)). length u) c.requires.known.entities ∙ name_count s) c.known.ensures.0

pub returns : goal.returns
returns c =
    let s = known_schema c.args.known.now in
    let less : c.known.result < length s.entities = subst (λ u. c.known.result < u) (ap (λ (u : List (List ℕ)). length u) c.requires.known.entities ∙ name_count s) c.known.ensures.0 in
    let is : entity_name s (entity_id c.known.result) ≡ c.args.of.now = sym (name_at s c.known.result) ∙ ap (λ (u : List (List ℕ)). get_or u c.known.result []) (sym c.requires.known.entities) ∙ c.known.ensures.1 in
    by s c.requires.known.well_formed c.args.of.now c.args.name.now c.known.result less is c.attribute_above.result c.attribute_above.ensures
