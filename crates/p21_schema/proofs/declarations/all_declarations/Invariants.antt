use Rattle.std.proofs.Common.{◌≡◌, length, take}
use Rattle.p21_schema.specs.DeclarationTable.{known_schema, IsDeclarationTable}
use Rattle.p21_schema.specs.Declaration.{written}
use Rattle.p21_graph.specs.Graph.{rows_of}
use Rattle.p21_schema.specs.Row.{attributes_of}
use Rattle.p21_schema.proofs.declarations.all_declarations.Given as goal

abbrev pub invariant-loop-entity : goal.invariant-loop-entity
invariant-loop-entity l = record {
  count : length (rows_of l.lists) ≡ length (attributes_of (known_schema l.known).entities);
  table : IsDeclarationTable (known_schema l.known) (written (take l.entity (known_schema l.known).entities)) (rows_of l.lists);
}
