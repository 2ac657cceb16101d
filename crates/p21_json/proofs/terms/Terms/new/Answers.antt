use Rattle.std.proofs.Common.{◌∙◌, ap, map, sym}
use Rattle.p21_express.specs.Schema.{Defined, Entity}
use Rattle.p21_express.specs.WellFormed.{Origin}
use Rattle.p21_schema.specs.Row.{attributes_of}
use Rattle.p21_spelling.specs.Spelled.{lower}
use Rattle.p21_json.specs.Spelled.{text_of}
use Rattle.p21_json.proofs.TermLemmas.{are_texts, attribute_names, lower_names}
use Rattle.p21_json.proofs.terms.Terms.new.Goals as goal

pub invariant_of-result : goal.invariant_of-result
invariant_of-result c =
    let s = c.args.schema.now in
    record {
      entities = are_texts c.in_ok-entities.entities.items c.args.spelled.now.entities.items (map (λ (e : Entity). e.name) s.entities)
          (c.in_ok-entities.ensures ∙ ap (λ vs. map (λ v. text_of v.items) vs) c.deref.ensures.value) (c.requires.entities ∙ lower_names (λ (e : Entity). e.name) s.entities);
      attributes = are_texts c.in_ok-attributes.attributes.items c.args.spelled.now.attributes.items (map (λ (o : Origin). o.name) (attributes_of s.entities))
          (c.in_ok-attributes.ensures ∙ ap (λ vs. map (λ v. text_of v.items) vs) c.deref-2.ensures.value) (c.requires.attributes ∙ ap (map lower) (sym (attribute_names s.entities)));
      types = are_texts c.in_ok-types.types.items c.args.spelled.now.types.items (map (λ (t : Defined). t.name) s.types)
          (c.in_ok-types.ensures ∙ ap (λ vs. map (λ v. text_of v.items) vs) c.deref-3.ensures.value) (c.requires.types ∙ lower_names (λ (t : Defined). t.name) s.types);
      logical = c.in_ok-logical.ensures;
      declared = c.in_ok-declared.ensures;
      taken = c.in_ok-taken.ensures;
    }
