use Rattle.std.proofs.Common.{◌≡◌, ◌++◌, [], length, take, replicate}
use Rattle.p21_express.specs.Plain.{plain_entity}
use Rattle.p21_express.specs.WellFormed.{new_explicit}
use Rattle.p21_graph.specs.Graph.{rows_of}
use Rattle.p21_schema.proofs.rows.push_lists.Given as goal

abbrev pub invariant-loop-attribute : goal.invariant-loop-attribute
invariant-loop-attribute l = rows_of l.lists ≡ rows_of l.initial.lists ++ replicate (length (new_explicit (take l.attribute-index (plain_entity l.entity).attributes))) []
