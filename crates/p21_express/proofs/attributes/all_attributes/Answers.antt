use Rattle.std.proofs.Common.{◌≡◌, ◌++◌, map, sym, ◌∙◌}
use Rattle.std.proofs.lemmas.Result.{err_from_is_err_and}
use Rattle.std.proofs.lemmas.List.{map-append}
use Rattle.p21_express.specs.Plain.{plain_attribute}
use Rattle.p21_express.specs.Reader.{words_of, symbol_at, attributes_at, all_attributes_at}
use Rattle.p21_express.proofs.AttributeLemmas.{attributes_less, joined_more, joined_none, joined_fails, joined_done}
use Rattle.p21_express.proofs.ReadLemmas.{fails_along}
use Rattle.p21_express.proofs.TokenLemmas.{shorter}
use Rattle.p21_express.proofs.attributes.all_attributes.Goals as goal

pub returns-in_err-rest : goal.returns-in_err-rest
returns-in_err-rest c =
    let p = err_from_is_err_and c.from_residual.result c.from_residual.ensures.1 in
    rw (p.1, p.2) (fails_along c.in_err-rest.field-0.0 (symbol_at 59 (words_of c.args.words.now)) (all_attributes_at (words_of c.args.words.now)) (joined_none (words_of c.args.words.now)) c.in_err-rest.ensures)

pub returns-in_err-more : goal.returns-in_err-more
returns-in_err-more c =
    let p = err_from_is_err_and c.from_residual-in_err-more.result c.from_residual-in_err-more.ensures.1 in
    rw (p.1, p.2) (fails_along c.in_err-more.field-0.0 (attributes_at (words_of c.loop-alloc.rest.now)) (all_attributes_at (words_of c.args.words.now)) (λ h. joined_fails (words_of c.args.words.now) (words_of c.in_ok-rest.rest.now) (words_of c.loop-alloc.rest.now) (map plain_attribute c.loop-alloc.list.items) c.in_ok-rest.ensures c.loop-alloc.invariant (sym c.ends_attributes.ensures ∙ c.loop-alloc-test.true) h) c.in_err-more.ensures)

pub loop-alloc-smaller : goal.loop-alloc-smaller
loop-alloc-smaller c = shorter c.in_ok-more.behind.now c.loop-alloc.rest.now (attributes_less (words_of c.loop-alloc.rest.now) (words_of c.in_ok-more.behind.now) (map plain_attribute c.in_ok-more.more.items) c.in_ok-more.ensures)

pub loop-alloc-preserved : goal.loop-alloc-preserved
loop-alloc-preserved c =
    let e : map plain_attribute c.append.new.self.items ≡ map plain_attribute c.loop-alloc.list.items ++ map plain_attribute c.in_ok-more.more.items = rw c.in_ok-append.ensures.items (map-append plain_attribute c.loop-alloc.list.items c.in_ok-more.more.items) in
    rw e (joined_more (words_of c.in_ok-rest.rest.now) (words_of c.loop-alloc.rest.now) (words_of c.in_ok-more.behind.now) (map plain_attribute c.loop-alloc.list.items) (map plain_attribute c.in_ok-more.more.items) c.loop-alloc.invariant (sym c.ends_attributes.ensures ∙ c.loop-alloc-test.true) c.in_ok-more.ensures)

pub returns : goal.returns
returns c = joined_done (words_of c.args.words.now) (words_of c.in_ok-rest.rest.now) (words_of c.loop-alloc.rest.now) (map plain_attribute c.loop-alloc.list.items) c.in_ok-rest.ensures c.loop-alloc.invariant (sym c.ends_attributes.ensures ∙ c.loop-alloc-test.false)
