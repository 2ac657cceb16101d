use Rattle.std.proofs.Common.{◌<◌, List, length, sym, subst, ◌∙◌}
use Rattle.std.proofs.lemmas.List.{length-map}
use Rattle.p21_express.specs.Plain.{plain_entity}
use Rattle.p21_schema.specs.DeclarationTable.{known_schema, IsDeclarationTable}
use Rattle.p21_schema.specs.Declaration.{Written}
use Rattle.p21_graph.specs.Graph.{rows_of}
use Rattle.p21_schema.proofs.DeclarationLemmas.{table_none, written_more}
use Rattle.p21_schema.proofs.declarations.all_declarations.Goals as goal

pub loop-entity-init : goal.loop-entity-init
loop-entity-init c = record {
  count = c.requires.count;
  table = table_none (known_schema c.args.known.now) (rows_of c.args.lists) c.requires.count c.requires.empty;
}

pub loop-entity-preserved : goal.loop-entity-preserved
loop-entity-preserved c =
    let s = known_schema c.args.known.now in
    let es = c.args.known.now.declarations.now.entities in
    let less : c.loop-entity.entity < length s.entities = subst (λ u. c.loop-entity.entity < u) (c.len-entity-end.ensures ∙ es.ok.0 ∙ sym (length-map es.items plain_entity)) c.loop-entity-test.true in
    let inv = c.loop-entity.invariant in
    record {
      count = c.in_ok-add_derived.ensures.count ∙ c.in_ok-add_explicit.ensures.count ∙ inv.count;
      table = subst (λ (u : List Written). IsDeclarationTable s u (rows_of c.add_derived.new.lists)) (sym (written_more s.entities c.loop-entity.entity less)) (c.in_ok-add_derived.ensures.table _ (c.in_ok-add_explicit.ensures.table _ inv.table));
    }
