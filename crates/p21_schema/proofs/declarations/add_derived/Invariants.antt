use Rattle.std.proofs.Common.{◌≡◌, ◌++◌, List, length, get_or, map, take}
use Rattle.p21_schema.specs.DeclarationTable.{known_schema, IsDeclarationTable}
use Rattle.p21_schema.specs.Declaration.{Written, written_derived}
use Rattle.p21_graph.specs.Graph.{rows_of}
use Rattle.p21_schema.specs.Place.{no_entity}
use Rattle.p21_schema.proofs.declarations.add_derived.Given as goal

abbrev pub invariant-loop-derived : goal.invariant-loop-derived
invariant-loop-derived l = record {
  count : length (rows_of l.lists) ≡ length (rows_of l.initial.lists);
  table : (ws : List Written) → IsDeclarationTable (known_schema l.known) ws (rows_of l.initial.lists) → IsDeclarationTable (known_schema l.known) (ws ++ map (written_derived (get_or (known_schema l.known).entities l.entity no_entity).name) (take l.derived-index (get_or (known_schema l.known).entities l.entity no_entity).derived)) (rows_of l.lists);
}
