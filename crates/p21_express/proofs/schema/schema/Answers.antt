use Rattle.std.proofs.Common.{map, sym, ◌∙◌}
use Rattle.p21_express.specs.Plain.{plain_entity, plain_type}
use Rattle.p21_express.specs.Reader.{words_of}
use Rattle.p21_express.proofs.SchemaLemmas.{schema_trailing}
use Rattle.p21_express.proofs.schema.schema.Goals as goal

pub returns-then-not-is_empty : goal.returns-then-not-is_empty
returns-then-not-is_empty c =
    rw c.syntax.ensures (schema_trailing (words_of c.args.words.now) (words_of c.in_ok-word.field-0.now) (words_of c.in_ok-first.rest.now) (words_of c.in_ok-found.rest.now) (words_of c.in_ok-word-2.field-0.now) c.in_ok-first.first.now (map plain_entity c.in_ok-found.found.entities.items, map plain_type c.in_ok-found.found.types.items) c.in_ok-rest.rest.now c.in_ok-word.ensures c.in_ok-first.ensures c.in_ok-found.ensures c.in_ok-word-2.ensures c.in_ok-rest.ensures (sym c.is_empty.ensures ∙ c.if-not-is_empty.true))
