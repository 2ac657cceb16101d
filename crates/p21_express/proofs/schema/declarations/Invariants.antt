use Rattle.std.proofs.Common.{length, map}
use Rattle.p21_express.specs.Plain.{plain_entity, plain_type}
use Rattle.p21_express.specs.Reader.{words_of}
use Rattle.p21_express.proofs.SchemaLemmas.{GoingDeclared}
use Rattle.p21_express.proofs.schema.declarations.Given as goal

abbrev pub invariant-loop-alloc : goal.invariant-loop-alloc
invariant-loop-alloc l = GoingDeclared (words_of l.initial.rest) (words_of l.rest) (map plain_entity l.found.entities.items) (map plain_type l.found.types.items)

abbrev pub decreases-loop-alloc : goal.decreases-loop-alloc
decreases-loop-alloc l = length l.rest
