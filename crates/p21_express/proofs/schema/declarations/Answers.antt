use Rattle.std.proofs.Common.{map, sym, ◌∙◌}
use Rattle.std.specs.Prelude.{codes}
use Rattle.std.proofs.lemmas.Result.{err_from_is_err_and}
use Rattle.p21_express.specs.Word.{begins_name}
use Rattle.p21_express.specs.Found.{plain_declaration}
use Rattle.p21_express.specs.Plain.{plain_entity, plain_type}
use Rattle.p21_express.specs.Reader.{words_of, symbol_at, declaration_at, declarations_at}
use Rattle.p21_express.proofs.LoopLemmas.{begins}
use Rattle.p21_express.proofs.SchemaLemmas.{declaration_less, declared_begins, declared_goes, declared_none, declared_fails, declared_done}
use Rattle.p21_express.proofs.ReadLemmas.{fails_along}
use Rattle.p21_express.proofs.TokenLemmas.{shorter}
use Rattle.p21_express.proofs.schema.declarations.Goals as goal

pub returns-in_err-rest : goal.returns-in_err-rest
returns-in_err-rest c =
    let p = err_from_is_err_and c.from_residual.result c.from_residual.ensures.1 in
    rw (p.1, p.2) (fails_along c.in_err-rest.field-0.0 (symbol_at 59 (words_of c.args.words.now)) (declarations_at (words_of c.args.words.now)) (declared_none (words_of c.args.words.now)) c.in_err-rest.ensures)

pub loop-alloc-init : goal.loop-alloc-init
loop-alloc-init c = rw (c.new.ensures.items, c.new-3.ensures.items) (declared_begins (words_of c.in_ok-rest.rest.now) (begins (begins_name (codes "END_SCHEMA")) declaration_at (words_of c.in_ok-rest.rest.now)))

pub returns-in_err-next : goal.returns-in_err-next
returns-in_err-next c =
    let p = err_from_is_err_and c.from_residual-in_err-next.result c.from_residual-in_err-next.ensures.1 in
    rw (p.1, p.2) (fails_along c.in_err-next.field-0.0 (declaration_at (words_of c.loop-alloc.rest.now)) (declarations_at (words_of c.args.words.now)) (λ h. declared_fails (words_of c.args.words.now) (words_of c.in_ok-rest.rest.now) (words_of c.loop-alloc.rest.now) (map plain_entity c.loop-alloc.found.entities.items) (map plain_type c.loop-alloc.found.types.items) c.in_ok-rest.ensures c.loop-alloc.invariant (sym c.begins_name.ensures ∙ c.loop-alloc-test.true) h) c.in_err-next.ensures)

pub loop-alloc-smaller : goal.loop-alloc-smaller
loop-alloc-smaller c = shorter c.in_ok-next.behind.now c.loop-alloc.rest.now (declaration_less (words_of c.loop-alloc.rest.now) (words_of c.in_ok-next.behind.now) (plain_declaration c.in_ok-next.next) c.in_ok-next.ensures)

pub loop-alloc-preserved : goal.loop-alloc-preserved
loop-alloc-preserved c =
    rw (c.in_ok-push.ensures.entities, c.in_ok-push.ensures.types) (declared_goes (words_of c.in_ok-rest.rest.now) (words_of c.loop-alloc.rest.now) (words_of c.in_ok-next.behind.now) (map plain_entity c.loop-alloc.found.entities.items) (map plain_type c.loop-alloc.found.types.items) (plain_declaration c.in_ok-next.next) c.loop-alloc.invariant (sym c.begins_name.ensures ∙ c.loop-alloc-test.true) c.in_ok-next.ensures)

pub returns : goal.returns
returns c = declared_done (words_of c.args.words.now) (words_of c.in_ok-rest.rest.now) (words_of c.loop-alloc.rest.now) (map plain_entity c.loop-alloc.found.entities.items) (map plain_type c.loop-alloc.found.types.items) c.in_ok-rest.ensures c.loop-alloc.invariant (sym c.begins_name.ensures ∙ c.loop-alloc-test.false)
