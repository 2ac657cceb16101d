use Rattle.std.proofs.Common.{◌≡◌, ◌++◌, ◌∷◌, [], sym, ◌∙◌}
use Rattle.std.proofs.lemmas.Result.{err_from_is_err_and}
use Rattle.std.proofs.lemmas.List.{map_push}
use Rattle.p21_express.specs.Word.{begins_symbol}
use Rattle.p21_express.specs.Naming.{plain_naming, plain_namings}
use Rattle.p21_express.specs.Reader.{words_of, naming_at, next_naming, namings_at}
use Rattle.p21_express.proofs.LoopLemmas.{goes_on_from, is_done_from, fails_from}
use Rattle.p21_express.proofs.NamesLemmas.{next_naming_less, namings_none, namings_fail, namings_end}
use Rattle.p21_express.proofs.ReadLemmas.{fails_along}
use Rattle.p21_express.proofs.TokenLemmas.{shorter}
use Rattle.p21_express.proofs.names.namings.Goals as goal

pub returns-in_err-first : goal.returns-in_err-first
returns-in_err-first c =
    let p = err_from_is_err_and c.from_residual.result c.from_residual.ensures.1 in
    rw (p.1, p.2) (fails_along c.in_err-first.field-0.0 (naming_at (words_of c.args.words.now)) (namings_at (words_of c.args.words.now)) (namings_none (words_of c.args.words.now)) c.in_err-first.ensures)

pub returns-in_err-next : goal.returns-in_err-next
returns-in_err-next c =
    let p = err_from_is_err_and c.from_residual-in_err-next.result c.from_residual-in_err-next.ensures.1 in
    rw (p.1, p.2) (fails_along c.in_err-next.field-0.0 (next_naming (words_of c.loop-rest.rest.now)) (namings_at (words_of c.args.words.now)) (λ h. namings_fail (words_of c.args.words.now) (fails_from (begins_symbol 58) next_naming (naming_at (words_of c.args.words.now)) (words_of c.loop-rest.rest.now) (plain_namings c.loop-rest.namings.items) c.loop-rest.invariant (sym c.begins_symbol.ensures ∙ c.loop-rest-test.true) h)) c.in_err-next.ensures)

pub loop-rest-smaller : goal.loop-rest-smaller
loop-rest-smaller c = shorter c.in_ok-next.behind.now c.loop-rest.rest.now (next_naming_less (words_of c.loop-rest.rest.now) (words_of c.in_ok-next.behind.now) (plain_naming c.in_ok-next.next) c.in_ok-next.ensures)

pub loop-rest-preserved : goal.loop-rest-preserved
loop-rest-preserved c =
    let e : plain_namings c.push-in-loop-rest.new.self.items ≡ plain_namings c.loop-rest.namings.items ++ plain_naming c.in_ok-next.next ∷ [] = rw c.in_ok-push-2.ensures.items (map_push _ c.loop-rest.namings.items c.in_ok-next.next) in
    rw e (goes_on_from (begins_symbol 58) next_naming (naming_at (words_of c.args.words.now)) (words_of c.loop-rest.rest.now) (words_of c.in_ok-next.behind.now) (plain_namings c.loop-rest.namings.items) (plain_naming c.in_ok-next.next) c.loop-rest.invariant (next_naming_less (words_of c.loop-rest.rest.now) (words_of c.in_ok-next.behind.now) (plain_naming c.in_ok-next.next) c.in_ok-next.ensures) (sym c.begins_symbol.ensures ∙ c.loop-rest-test.true) c.in_ok-next.ensures)

pub returns : goal.returns
returns c = namings_end (words_of c.args.words.now) (words_of c.loop-rest.rest.now) (words_of c.in_ok-rest.rest.now) (plain_namings c.loop-rest.namings.items) (is_done_from (begins_symbol 58) next_naming (naming_at (words_of c.args.words.now)) (words_of c.loop-rest.rest.now) (plain_namings c.loop-rest.namings.items) c.loop-rest.invariant (sym c.begins_symbol.ensures ∙ c.loop-rest-test.false)) c.in_ok-rest.ensures
