-- Ids that name the same are equal.
use Rattle.std.proofs.Common.{◌≡◌, ℕ, ◌<◌, List, [], length, sym, ◌∙◌}
use Rattle.std.proofs.lemmas.List.{length-map, get_or-map}
use Rattle.p21_express.specs.Schema.{Schema, Defined}
use Rattle.p21_express.specs.WellFormed.{IsWellFormed}
use Rattle.p21_graph.specs.MemberLaws.{same_place}
use Rattle.p21_schema.specs.declared.ids.EntityId.{EntityId}
use Rattle.p21_schema.specs.declared.ids.AttrId.{AttrId}
use Rattle.p21_schema.specs.declared.ids.TypeId.{TypeId}
use Rattle.p21_schema.specs.Place.{no_type, entity_name, IsEntityOf, type_name, IsTypeOf}
use Rattle.p21_schema.specs.Row.{attributes_of, no_attribute, attribute_at, IsAttributeOf}
use Rattle.p21_schema.proofs.AncestryLemmas.{same_entity, distinct_entities}
use Rattle.p21_schema.proofs.RowLemmas.{attributes_distinct}
use Rattle.p21_schema.proofs.UnderLemmas.{distinct_types, type_names}

module _ (s : Schema) (formed : IsWellFormed s) where
  pub one_entity : (a b : EntityId) → IsEntityOf s a → IsEntityOf s b → entity_name s a ≡ entity_name s b → a ≡ b
  one_entity a b la lb e = let i = same_entity s (distinct_entities s formed.repeated) a.index b.index la lb e in λ j. record { index = i j }

  pub one_attribute : (a b : AttrId) → IsAttributeOf s a → IsAttributeOf s b → attribute_at s a ≡ attribute_at s b → a ≡ b
  one_attribute a b la lb e =
      let i = same_place (attributes_of s.entities) a.index b.index no_attribute (attributes_distinct s.entities (distinct_entities s formed.repeated) formed.repeated.attributes) la lb e in
      λ j. record { index = i j }

  pub one_type : (a b : TypeId) → IsTypeOf s a → IsTypeOf s b → type_name s a ≡ type_name s b → a ≡ b
  one_type a b la lb e =
      let name : Defined → List ℕ = λ t. t.name in
      let na : a.index < length (type_names s) = rw (length-map s.types name) la in
      let nb : b.index < length (type_names s) = rw (length-map s.types name) lb in
      let i = same_place (type_names s) a.index b.index [] (distinct_types s formed.repeated) na nb (get_or-map name s.types a.index no_type [] la ∙ e ∙ sym (get_or-map name s.types b.index no_type [] lb)) in
      λ j. record { index = i j }
