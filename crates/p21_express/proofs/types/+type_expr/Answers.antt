use Rattle.std.proofs.Common.{◌-◌, refl, sym, ◌∙◌}
use Rattle.std.proofs.lemmas.Result.{err_from_is_err_and}
use Rattle.p21_express.specs.Reader.{words_of, name_at, aggregate_at, expr_at}
use Rattle.p21_express.proofs.ReadLemmas.{fails_along, expr_none, expr_simple, expr_flat, expr_nested}
use Rattle.p21_express.proofs.types.+type_expr.Goals as goal

pub returns-in_err-first : goal.returns-in_err-first
returns-in_err-first t c =
    let p = err_from_is_err_and c.from_residual.result c.from_residual.ensures.1 in
    rw (p.1, p.2) (fails_along c.in_err-first.field-0.0 (name_at (words_of c.args.words.now)) (expr_at c.args.left (words_of c.args.words.now)) (expr_none c.args.left (words_of c.args.words.now)) c.in_err-first.ensures)

pub returns-in_err-texpr-in-Simple : goal.returns-in_err-texpr-in-Simple
returns-in_err-texpr-in-Simple t c =
    let p = err_from_is_err_and c.from_residual-in_err-texpr-in-Simple.result c.from_residual-in_err-texpr-in-Simple.ensures.1 in
    let e = expr_simple c.args.left (words_of c.args.words.now) c.in_ok-first.first.now (words_of c.in_ok-first.rest.now) c.in-Simple.word c.in_ok-first.ensures (sym c.in-Simple.ensures) in
    rw (p.1, p.2, e) c.in_err-texpr-in-Simple.ensures

pub returns-then-left-eq0 : goal.returns-then-left-eq0
returns-then-left-eq0 t c =
    rw c.not_supported.ensures (expr_flat c.args.left (words_of c.args.words.now) c.in_ok-first.first.now (words_of c.in_ok-first.rest.now) c.in-Aggregate.word c.if-left-eq0.true c.in_ok-first.ensures (sym c.in-Aggregate.ensures))

pub returns-in_err-layer-in-Aggregate : goal.returns-in_err-layer-in-Aggregate
returns-in_err-layer-in-Aggregate t c =
    let p = err_from_is_err_and c.from_residual-in_err-layer-in-Aggregate.result c.from_residual-in_err-layer-in-Aggregate.ensures.1 in
    let e = expr_nested c.args.left (words_of c.args.words.now) c.in_ok-first.first.now (words_of c.in_ok-first.rest.now) c.in-Aggregate.word c.if-left-eq0.false c.in_ok-first.ensures (sym c.in-Aggregate.ensures) in
    rw (p.1, p.2, e) (fails_along c.in_err-layer-in-Aggregate.field-0.0 (aggregate_at c.in-Aggregate.word (words_of c.in_ok-first.rest.now)) _ (λ h. rw h refl) c.in_err-layer-in-Aggregate.ensures)

pub returns-in_err-item-in-Aggregate : goal.returns-in_err-item-in-Aggregate
returns-in_err-item-in-Aggregate t c =
    let p = err_from_is_err_and c.from_residual-in_err-item-in-Aggregate.result c.from_residual-in_err-item-in-Aggregate.ensures.1 in
    let e = expr_nested c.args.left (words_of c.args.words.now) c.in_ok-first.first.now (words_of c.in_ok-first.rest.now) c.in-Aggregate.word c.if-left-eq0.false c.in_ok-first.ensures (sym c.in-Aggregate.ensures) in
    rw (p.1, p.2, e, c.in_ok-layer-in-Aggregate.ensures) (fails_along c.in_err-item-in-Aggregate.field-0.0 (expr_at (c.args.left - 1) (words_of c.in_ok-layer-in-Aggregate.rest.now)) _ (λ h. rw h refl) c.in_err-item-in-Aggregate.ensures)

pub returns-in_ok-texpr-in-Simple : goal.returns-in_ok-texpr-in-Simple
returns-in_ok-texpr-in-Simple t c =
    expr_simple c.args.left (words_of c.args.words.now) c.in_ok-first.first.now (words_of c.in_ok-first.rest.now) c.in-Simple.word c.in_ok-first.ensures (sym c.in-Simple.ensures) ∙ c.in_ok-texpr-in-Simple.ensures

pub returns-in_ok-around-in-Aggregate : goal.returns-in_ok-around-in-Aggregate
returns-in_ok-around-in-Aggregate t c =
    let e = expr_nested c.args.left (words_of c.args.words.now) c.in_ok-first.first.now (words_of c.in_ok-first.rest.now) c.in-Aggregate.word c.if-left-eq0.false c.in_ok-first.ensures (sym c.in-Aggregate.ensures) in
    rw (e, c.in_ok-layer-in-Aggregate.ensures, c.in_ok-item-in-Aggregate.ensures, c.in_ok-around-in-Aggregate.ensures) refl
