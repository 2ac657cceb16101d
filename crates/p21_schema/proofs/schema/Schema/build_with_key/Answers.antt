use Rattle.std.proofs.Common.{◌≡◌, length, sym, List, [], map, get_or, ap, ◌∙◌}
use Rattle.p21_express.specs.Schema.{Entity, Defined}
use Rattle.p21_express.specs.Plain.{plain_schema, plain_entity, plain_type}
use Rattle.p21_graph.specs.Graph.{plain_graph}
use Rattle.p21_graph.specs.GraphLaws.{row_count}
use Rattle.std.proofs.lemmas.List.{length-map, length-replicate}
use Rattle.p21_schema.specs.Row.{attributes_of}
use Rattle.p21_schema.specs.Rules.{with_rules}
use Rattle.p21_schema.specs.Ancestry.{AreSupertypesNamed, IsAncestryTable}
use Rattle.p21_schema.specs.SelectTable.{AreSelectTables}
use Rattle.p21_schema.specs.Under.{AreResolved}
use Rattle.p21_schema.proofs.RuleLemmas.{fits_with, own_with}
use Rattle.p21_schema.proofs.AncestryLemmas.{named_by, distinct_entities, supertypes_known, edges_below, no_cycle, supertype_table, ancestry_table}
use Rattle.p21_schema.specs.RowTable.{IsOwnTable}
use Rattle.p21_schema.proofs.RowLemmas.{own_upward, own_within, all_alike}
use Rattle.p21_schema.proofs.UnderLemmas.{distinct_types, other_known, unders_known}
use Rattle.p21_schema.proofs.schema.Schema.build_with_key.Goals as goal

pub entity_names-requires : goal.entity_names-requires
entity_names-requires c = rw c.deref.ensures.value (distinct_entities (with_rules (plain_schema c.args.declarations) c.args.rules) (fits_with (plain_schema c.args.declarations) c.args.rules c.requires).repeated)

pub supertypes-requires : goal.supertypes-requires
supertypes-requires c = rw (c.in_ok-entity_names.ensures, c.deref.ensures.value, c.deref-2.ensures.value) (supertypes_known (with_rules (plain_schema c.args.declarations) c.args.rules) (fits_with (plain_schema c.args.declarations) c.args.rules c.requires).unknown)

pub order-requires-clause-edges : goal.order-requires-clause-edges
order-requires-clause-edges c =
    let s = with_rules (plain_schema c.args.declarations) c.args.rules in
    let h : AreSupertypesNamed (map (λ (e : Entity). e.name) s.entities) (plain_graph c.in_ok-graph.graph) s.entities = named_by plain_entity c.in_ok-entity_names.entity_names (plain_graph c.in_ok-graph.graph) c.deref.result.now c.deref-2.result.now c.args.declarations.entities.items c.in_ok-entity_names.ensures c.deref.ensures.value c.deref-2.ensures.value c.in_ok-graph.ensures in
    edges_below s (plain_graph c.in_ok-graph.graph) h

pub order-requires-clause-cycles : goal.order-requires-clause-cycles
order-requires-clause-cycles c =
    let s = with_rules (plain_schema c.args.declarations) c.args.rules in
    let h : AreSupertypesNamed (map (λ (e : Entity). e.name) s.entities) (plain_graph c.in_ok-graph.graph) s.entities = named_by plain_entity c.in_ok-entity_names.entity_names (plain_graph c.in_ok-graph.graph) c.deref.result.now c.deref-2.result.now c.args.declarations.entities.items c.in_ok-entity_names.ensures c.deref.ensures.value c.deref-2.ensures.value c.in_ok-graph.ensures in
    no_cycle s (plain_graph c.in_ok-graph.graph) h (fits_with (plain_schema c.args.declarations) c.args.rules c.requires).cycles.entities

pub invariant_of-result : goal.invariant_of-result
invariant_of-result c =
    let s = with_rules (plain_schema c.args.declarations) c.args.rules in
    let g = plain_graph c.in_ok-graph.graph in
    let h : AreSupertypesNamed (map (λ (e : Entity). e.name) s.entities) g s.entities = named_by plain_entity c.in_ok-entity_names.entity_names (plain_graph c.in_ok-graph.graph) c.deref.result.now c.deref-2.result.now c.args.declarations.entities.items c.in_ok-entity_names.ensures c.deref.ensures.value c.deref-2.ensures.value c.in_ok-graph.ensures in
    let names_are : c.in_ok-entity_names.entity_names ≡ map (λ (e : Entity). e.name) s.entities = c.in_ok-entity_names.ensures ∙ ap (λ (es : List _). map (λ (e : Entity). e.name) (map plain_entity es)) c.deref.ensures.value in
    let types_are : c.in_ok-type_names.type_names ≡ map (λ (t : Defined). t.name) s.types = c.in_ok-type_names.ensures ∙ ap (λ (ts : List _). map (λ (t : Defined). t.name) (map plain_type ts)) c.deref-6.ensures.value in
    let found : AreResolved (map (λ (e : Entity). e.name) s.entities) (map (λ (t : Defined). t.name) s.types) c.in_ok-unders.unders.items s.types = rw (← names_are, ← types_are, ← c.deref-8.ensures.value) c.in_ok-unders.ensures in
    let formed = fits_with (plain_schema c.args.declarations) c.args.rules c.requires in
    let selects : AreSelectTables s c.in_ok-selects.selects = c.in_ok-selects.ensures s formed (rw c.deref-10.ensures.value found) (c.len-2.ensures ∙ c.args.declarations.entities.ok.0 ∙ sym (length-map c.args.declarations.entities.items plain_entity)) in
    record {
      types = types_are;
      attributes = c.in_ok-attributes.ensures;
      selects = selects;
      ends = c.in_ok-ends.ensures s (ap (λ (ts : List _). map plain_type ts) (sym c.deref-7.ensures.value));
      resolved = found;
      own = own_with (plain_schema c.args.declarations) c.args.rules _ c.in_ok-own.ensures.own;
      rows = c.in_ok-rows.ensures s (fits_with (plain_schema c.args.declarations) c.args.rules c.requires) h (rw c.deref-4.ensures.value (own_with (plain_schema c.args.declarations) c.args.rules _ c.in_ok-own.ensures.own));
      well_formed = fits_with (plain_schema c.args.declarations) c.args.rules c.requires;
      names = names_are;
      supertypes = rw c.in_ok-supertypes.ensures (supertype_table s g h);
      ancestry = ancestry_table s g h (distinct_entities s formed.repeated) c.in_ok-ancestry.ancestry c.in_ok-ancestry.ensures;
    }

pub type_names-requires : goal.type_names-requires
type_names-requires c = rw c.deref-6.ensures.value (distinct_types (with_rules (plain_schema c.args.declarations) c.args.rules) (fits_with (plain_schema c.args.declarations) c.args.rules c.requires).repeated)

pub type_ends-requires-clause-known : goal.type_ends-requires-clause-known
type_ends-requires-clause-known c = rw (c.in_ok-type_names.ensures, c.deref-6.ensures.value, c.deref-7.ensures.value) (other_known (with_rules (plain_schema c.args.declarations) c.args.rules) (fits_with (plain_schema c.args.declarations) c.args.rules c.requires).unknown)

pub type_ends-requires-clause-cycles : goal.type_ends-requires-clause-cycles
type_ends-requires-clause-cycles c = (with_rules (plain_schema c.args.declarations) c.args.rules, (ap (λ (ts : List _). map plain_type ts) (sym c.deref-7.ensures.value), (fits_with (plain_schema c.args.declarations) c.args.rules c.requires).cycles.types))

pub resolved-requires : goal.resolved-requires
resolved-requires c = rw (c.in_ok-entity_names.ensures, c.in_ok-type_names.ensures, c.deref.ensures.value, c.deref-6.ensures.value, c.deref-8.ensures.value) (unders_known (with_rules (plain_schema c.args.declarations) c.args.rules) (fits_with (plain_schema c.args.declarations) c.args.rules c.requires).unknown)

pub all_declarations-requires-clause-known : goal.all_declarations-requires-clause-known
all_declarations-requires-clause-known c =
    let s = with_rules (plain_schema c.args.declarations) c.args.rules in
    let g = plain_graph c.in_ok-graph.graph in
    let h : AreSupertypesNamed (map (λ (e : Entity). e.name) s.entities) g s.entities = named_by plain_entity c.in_ok-entity_names.entity_names (plain_graph c.in_ok-graph.graph) c.deref.result.now c.deref-2.result.now c.args.declarations.entities.items c.in_ok-entity_names.ensures c.deref.ensures.value c.deref-2.ensures.value c.in_ok-graph.ensures in
    record {
      well_formed = fits_with (plain_schema c.args.declarations) c.args.rules c.requires;
      entities = c.in_ok-entity_names.ensures ∙ ap (λ (es : List _). map (λ (e : Entity). e.name) (map plain_entity es)) c.deref.ensures.value;
      types = c.in_ok-type_names.ensures ∙ ap (λ (ts : List _). map (λ (t : Defined). t.name) (map plain_type ts)) c.deref-6.ensures.value;
      ancestry = ancestry_table s g h (distinct_entities s (fits_with (plain_schema c.args.declarations) c.args.rules c.requires).repeated) c.in_ok-ancestry.ancestry c.in_ok-ancestry.ensures;
      own = rw c.deref-9.ensures.value (own_with (plain_schema c.args.declarations) c.args.rules _ c.in_ok-own.ensures.own);
    }

pub all_declarations-requires-clause-empty : goal.all_declarations-requires-clause-empty
all_declarations-requires-clause-empty c = λ i. ap (λ (u : List _). get_or u i []) c.in_ok-own.ensures.lists ∙ all_alike _ i []

pub select_tables-requires : goal.select_tables-requires
select_tables-requires c =
    let s = with_rules (plain_schema c.args.declarations) c.args.rules in
    let names_are : c.in_ok-entity_names.entity_names ≡ map (λ (e : Entity). e.name) s.entities = c.in_ok-entity_names.ensures ∙ ap (λ (es : List _). map (λ (e : Entity). e.name) (map plain_entity es)) c.deref.ensures.value in
    let types_are : c.in_ok-type_names.type_names ≡ map (λ (t : Defined). t.name) s.types = c.in_ok-type_names.ensures ∙ ap (λ (ts : List _). map (λ (t : Defined). t.name) (map plain_type ts)) c.deref-6.ensures.value in
    let found : AreResolved (map (λ (e : Entity). e.name) s.entities) (map (λ (t : Defined). t.name) s.types) c.in_ok-unders.unders.items s.types = rw (← names_are, ← types_are, ← c.deref-8.ensures.value) c.in_ok-unders.ensures in
    (s, (fits_with (plain_schema c.args.declarations) c.args.rules c.requires, (rw c.deref-10.ensures.value found, c.len-2.ensures ∙ c.args.declarations.entities.ok.0 ∙ sym (length-map c.args.declarations.entities.items plain_entity))))

pub new-requires-clause-own : goal.new-requires-clause-own
new-requires-clause-own c =
    let s = with_rules (plain_schema c.args.declarations) c.args.rules in
    let h : AreSupertypesNamed (map (λ (e : Entity). e.name) s.entities) (plain_graph c.in_ok-graph.graph) s.entities = named_by plain_entity c.in_ok-entity_names.entity_names (plain_graph c.in_ok-graph.graph) c.deref.result.now c.deref-2.result.now c.args.declarations.entities.items c.in_ok-entity_names.ensures c.deref.ensures.value c.deref-2.ensures.value c.in_ok-graph.ensures in
    let own : IsOwnTable s c.in_ok-own.own.items = own_with (plain_schema c.args.declarations) c.args.rules _ c.in_ok-own.ensures.own in
    ap length c.deref-4.ensures.value ∙ own.count ∙ sym h.count

pub new-requires-clause-within : goal.new-requires-clause-within
new-requires-clause-within c =
    let s = with_rules (plain_schema c.args.declarations) c.args.rules in
    let count : c.len.result ≡ length (attributes_of s.entities) = c.len.ensures ∙ sym (row_count c.in_ok-own.lists) ∙ ap length c.in_ok-own.ensures.lists ∙ length-replicate (length (attributes_of s.entities)) [] in
    rw (c.deref-4.ensures.value, count) (own_within s c.in_ok-own.own.items (own_with (plain_schema c.args.declarations) c.args.rules _ c.in_ok-own.ensures.own))

pub new-requires-clause-upward : goal.new-requires-clause-upward
new-requires-clause-upward c =
    let s = with_rules (plain_schema c.args.declarations) c.args.rules in
    rw c.deref-4.ensures.value (own_upward s c.in_ok-own.own.items (own_with (plain_schema c.args.declarations) c.args.rules _ c.in_ok-own.ensures.own))
