use Rattle.std.proofs.Common.{sym, ◌∙◌}
use Rattle.std.proofs.lemmas.Result.{err_from_is_err_and}
use Rattle.p21_express.specs.Word.{begins_symbol}
use Rattle.p21_express.specs.Naming.{texts}
use Rattle.p21_express.specs.Reader.{words_of, name_at, next_name, names_inside}
use Rattle.p21_express.proofs.LoopLemmas.{goes_on_from, is_done_from, fails_from}
use Rattle.p21_express.proofs.NamesLemmas.{next_name_less, names_none, names_fail, names_end}
use Rattle.p21_express.proofs.ReadLemmas.{fails_along}
use Rattle.p21_express.proofs.TokenLemmas.{shorter}
use Rattle.p21_express.proofs.names.names_inside.Goals as goal

pub returns-in_err-first : goal.returns-in_err-first
returns-in_err-first c =
    let p = err_from_is_err_and c.from_residual.result c.from_residual.ensures.1 in
    rw (p.1, p.2) (fails_along c.in_err-first.field-0.0 (name_at (words_of c.args.words.now)) (names_inside (words_of c.args.words.now)) (names_none (words_of c.args.words.now)) c.in_err-first.ensures)

pub returns-in_err-next : goal.returns-in_err-next
returns-in_err-next c =
    let p = err_from_is_err_and c.from_residual-in_err-next.result c.from_residual-in_err-next.ensures.1 in
    rw (p.1, p.2) (fails_along c.in_err-next.field-0.0 (next_name (words_of c.loop-alloc.rest.now)) (names_inside (words_of c.args.words.now)) (λ h. names_fail (words_of c.args.words.now) (fails_from (begins_symbol 41) next_name (name_at (words_of c.args.words.now)) (words_of c.loop-alloc.rest.now) (texts c.loop-alloc.names.names.items) c.loop-alloc.invariant (sym c.begins_symbol.ensures ∙ c.loop-alloc-test.true) h)) c.in_err-next.ensures)

pub loop-alloc-smaller : goal.loop-alloc-smaller
loop-alloc-smaller c = shorter c.in_ok-next.behind.now c.loop-alloc.rest.now (next_name_less (words_of c.loop-alloc.rest.now) (words_of c.in_ok-next.behind.now) c.in_ok-next.next.now c.in_ok-next.ensures)

pub loop-alloc-preserved : goal.loop-alloc-preserved
loop-alloc-preserved c =
    rw c.in_ok-push-2.ensures (goes_on_from (begins_symbol 41) next_name (name_at (words_of c.args.words.now)) (words_of c.loop-alloc.rest.now) (words_of c.in_ok-next.behind.now) (texts c.loop-alloc.names.names.items) c.in_ok-next.next.now c.loop-alloc.invariant (next_name_less (words_of c.loop-alloc.rest.now) (words_of c.in_ok-next.behind.now) c.in_ok-next.next.now c.in_ok-next.ensures) (sym c.begins_symbol.ensures ∙ c.loop-alloc-test.true) c.in_ok-next.ensures)

pub returns : goal.returns
returns c = names_end (words_of c.args.words.now) (words_of c.loop-alloc.rest.now) (words_of c.in_ok-rest.rest.now) (texts c.loop-alloc.names.names.items) (is_done_from (begins_symbol 41) next_name (name_at (words_of c.args.words.now)) (words_of c.loop-alloc.rest.now) (texts c.loop-alloc.names.names.items) c.loop-alloc.invariant (sym c.begins_symbol.ensures ∙ c.loop-alloc-test.false)) c.in_ok-rest.ensures
