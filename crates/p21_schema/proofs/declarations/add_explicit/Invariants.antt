use Rattle.std.proofs.Common.{◌≡◌, ◌+◌, ◌++◌, List, length, get_or, map, take}
use Rattle.p21_schema.specs.DeclarationTable.{known_schema, IsDeclarationTable}
use Rattle.p21_schema.specs.Declaration.{Written, written_explicit}
use Rattle.p21_graph.specs.Graph.{rows_of}
use Rattle.p21_express.specs.WellFormed.{new_explicit}
use Rattle.p21_schema.specs.Place.{no_entity}
use Rattle.p21_schema.specs.RowTable.{no_own}
use Rattle.p21_schema.proofs.declarations.add_explicit.Given as goal

abbrev pub invariant-loop-attribute : goal.invariant-loop-attribute
invariant-loop-attribute l = record {
  new : l.new ≡ (get_or l.known.own.now l.entity no_own).from + length (new_explicit (take l.attribute-index (get_or (known_schema l.known).entities l.entity no_entity).attributes));
  count : length (rows_of l.lists) ≡ length (rows_of l.initial.lists);
  table : (ws : List Written) → IsDeclarationTable (known_schema l.known) ws (rows_of l.initial.lists) → IsDeclarationTable (known_schema l.known) (ws ++ map (written_explicit (get_or (known_schema l.known).entities l.entity no_entity).name) (take l.attribute-index (get_or (known_schema l.known).entities l.entity no_entity).attributes)) (rows_of l.lists);
}
