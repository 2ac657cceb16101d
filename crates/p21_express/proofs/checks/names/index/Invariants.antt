use Rattle.std.proofs.Common.{map, take, []}
use Rattle.p21_express.specs.Plain.{plain_entity, plain_type}
use Rattle.p21_express.specs.Index.{IsIndex}
use Rattle.p21_express.proofs.IndexLemmas.{some_schema}
use Rattle.p21_express.proofs.checks.names.index.Given as goal

abbrev pub invariant-loop-i : goal.invariant-loop-i
invariant-loop-i l = IsIndex (some_schema (map plain_entity (take l.i l.declarations.entities.items)) []) l.index

abbrev pub invariant-loop-i-2 : goal.invariant-loop-i-2
invariant-loop-i-2 l = IsIndex (some_schema (map plain_entity l.declarations.entities.items) (map plain_type (take l.i l.declarations.types.items))) l.index
