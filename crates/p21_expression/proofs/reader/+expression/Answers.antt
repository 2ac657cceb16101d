use Rattle.std.proofs.Common.{◌≡◌, true, false, List, map, Some, sym, ap, ◌∙◌, append_assoc}
use Rattle.std.proofs.lemmas.Result.{err_from_is_err_and}
use Rattle.std.proofs.lemmas.List.{map_push, append-nil}
use Rattle.p21_express.specs.Reader.{words_of}
use Rattle.p21_expression.specs.declared.tree.Operation.{Operation}
use Rattle.p21_expression.specs.Plain.{plain, plain_operation}
use Rattle.p21_expression.specs.Reader.{fits, operand_of, reading}
use Rattle.p21_expression.specs.Tree.{Tree}
use Rattle.p21_expression.proofs.ChainLemmas.{chain_fails, chain_made, chain_unfit}
use Rattle.p21_expression.proofs.LoopLemmas.{goes_on, is_done, fails}
use Rattle.p21_expression.proofs.LengthLemmas.{shorter}
use Rattle.p21_expression.proofs.ReaderLemmas.{argument_shrinks, element_shrinks, operand_shrinks, operation_shrinks, qualifier_shrinks, reading_shrinks}
use Rattle.p21_expression.proofs.reader.+expression.Goals as goal

pub operations-returns-in_err-next : goal.operations-returns-in_err-next
operations-returns-in_err-next t c =
    let p = err_from_is_err_and c.from_residual.result c.from_residual.ensures.1 in
    rw (p.1, p.2) (fails c.in_err-next.field-0.0 c.loop-alloc.invariant (sym c.ends_operations.ensures ∙ c.loop-alloc-test.true) c.in_err-next.ensures)

pub operations-loop-alloc-smaller : goal.operations-loop-alloc-smaller
operations-loop-alloc-smaller t c = shorter (operation_shrinks (operand_shrinks (reading_shrinks c.args.left) c.args.precedence)) c.loop-alloc.rest.now c.in_ok-next.behind.now c.in_ok-next.ensures

pub operations-loop-alloc-preserved : goal.operations-loop-alloc-preserved
operations-loop-alloc-preserved t c = goes_on (operation_shrinks (operand_shrinks (reading_shrinks c.args.left) c.args.precedence)) c.loop-alloc.invariant (sym c.ends_operations.ensures ∙ c.loop-alloc-test.true) c.in_ok-next.ensures (λ xs r. simp (c.in_ok-push.ensures.items, map_push, append_assoc))

pub operations-returns : goal.operations-returns
operations-returns t c = is_done c.loop-alloc.invariant (sym c.ends_operations.ensures ∙ c.loop-alloc-test.false) ∙ simp append-nil

pub qualifiers-returns-in_err-next : goal.qualifiers-returns-in_err-next
qualifiers-returns-in_err-next t c =
    let p = err_from_is_err_and c.from_residual.result c.from_residual.ensures.1 in
    rw (p.1, p.2) (fails c.in_err-next.field-0.0 c.loop-alloc.invariant (sym c.ends_qualifiers.ensures ∙ c.loop-alloc-test.true) c.in_err-next.ensures)

pub qualifiers-loop-alloc-smaller : goal.qualifiers-loop-alloc-smaller
qualifiers-loop-alloc-smaller t c = shorter (qualifier_shrinks (reading_shrinks c.args.left)) c.loop-alloc.rest.now c.in_ok-next.behind.now c.in_ok-next.ensures

pub qualifiers-loop-alloc-preserved : goal.qualifiers-loop-alloc-preserved
qualifiers-loop-alloc-preserved t c = goes_on (qualifier_shrinks (reading_shrinks c.args.left)) c.loop-alloc.invariant (sym c.ends_qualifiers.ensures ∙ c.loop-alloc-test.true) c.in_ok-next.ensures (λ xs r. simp (c.in_ok-push.ensures.items, map_push, append_assoc))

pub qualifiers-returns : goal.qualifiers-returns
qualifiers-returns t c = is_done c.loop-alloc.invariant (sym c.ends_qualifiers.ensures ∙ c.loop-alloc-test.false) ∙ simp append-nil

pub some_arguments-returns-in_err-next : goal.some_arguments-returns-in_err-next
some_arguments-returns-in_err-next t c =
    let p = err_from_is_err_and c.from_residual-in_err-next.result c.from_residual-in_err-next.ensures.1 in
    rw (p.1, p.2) (fails c.in_err-next.field-0.0 c.loop-alloc.invariant (sym c.begins_symbol.ensures ∙ c.loop-alloc-test.true) c.in_err-next.ensures)

pub some_arguments-loop-alloc-smaller : goal.some_arguments-loop-alloc-smaller
some_arguments-loop-alloc-smaller t c = shorter (argument_shrinks (reading_shrinks c.args.left)) c.loop-alloc.rest.now c.in_ok-next.behind.now c.in_ok-next.ensures

pub some_arguments-loop-alloc-preserved : goal.some_arguments-loop-alloc-preserved
some_arguments-loop-alloc-preserved t c = goes_on (argument_shrinks (reading_shrinks c.args.left)) c.loop-alloc.invariant (sym c.begins_symbol.ensures ∙ c.loop-alloc-test.true) c.in_ok-next.ensures (λ xs r. simp (c.in_ok-push-2.ensures.items, map_push, append_assoc))

pub some_arguments-returns : goal.some_arguments-returns
some_arguments-returns t c = is_done c.loop-alloc.invariant (sym c.begins_symbol.ensures ∙ c.loop-alloc-test.false) ∙ simp append-nil

pub some_elements-returns-in_err-next : goal.some_elements-returns-in_err-next
some_elements-returns-in_err-next t c =
    let p = err_from_is_err_and c.from_residual-in_err-next.result c.from_residual-in_err-next.ensures.1 in
    rw (p.1, p.2) (fails c.in_err-next.field-0.0 c.loop-alloc.invariant (sym c.begins_symbol.ensures ∙ c.loop-alloc-test.true) c.in_err-next.ensures)

pub some_elements-loop-alloc-smaller : goal.some_elements-loop-alloc-smaller
some_elements-loop-alloc-smaller t c = shorter (element_shrinks (reading_shrinks c.args.left)) c.loop-alloc.rest.now c.in_ok-next.behind.now c.in_ok-next.ensures

pub some_elements-loop-alloc-preserved : goal.some_elements-loop-alloc-preserved
some_elements-loop-alloc-preserved t c = goes_on (element_shrinks (reading_shrinks c.args.left)) c.loop-alloc.invariant (sym c.begins_symbol.ensures ∙ c.loop-alloc-test.true) c.in_ok-next.ensures (λ xs r. simp (c.in_ok-push-2.ensures.items, map_push, append_assoc))

pub some_elements-returns : goal.some_elements-returns
some_elements-returns t c = is_done c.loop-alloc.invariant (sym c.begins_symbol.ensures ∙ c.loop-alloc-test.false) ∙ simp append-nil

pub chain-returns-in_err-further : goal.chain-returns-in_err-further
chain-returns-in_err-further t c =
    let p = err_from_is_err_and c.from_residual-in_err-further.result c.from_residual-in_err-further.ensures.1 in
    rw (p.1, p.2) (chain_fails (operand_of (reading c.args.left) c.args.precedence) c.args.precedence (words_of c.args.words.now) (words_of c.in_ok-first.rest.now) (plain c.in_ok-first.first) c.in_err-further.field-0.0 c.in_ok-first.ensures c.in_err-further.ensures)

pub chain-returns-then-not-fits : goal.chain-returns-then-not-fits
chain-returns-then-not-fits t c =
    let unfit : fits c.args.precedence (map plain_operation c.in_ok-further.further.items) ≡ false = ap (λ (os : List Operation). fits c.args.precedence (map plain_operation os)) (sym c.deref.ensures.value) ∙ sym c.fits.ensures ∙ c.if-not-fits.true in
    rw c.syntax.ensures (chain_unfit (operand_of (reading c.args.left) c.args.precedence) c.args.precedence (words_of c.args.words.now) (words_of c.in_ok-first.rest.now) (words_of c.in_ok-further.rest.now) (plain c.in_ok-first.first) (map plain_operation c.in_ok-further.further.items) c.in_ok-first.ensures c.in_ok-further.ensures unfit)

pub chain-returns : goal.chain-returns
chain-returns t c =
    let fit : fits c.args.precedence (map plain_operation c.in_ok-further.further.items) ≡ true = ap (λ (os : List Operation). fits c.args.precedence (map plain_operation os)) (sym c.deref.ensures.value) ∙ sym c.fits.ensures ∙ c.if-not-fits.false in
    chain_made (operand_of (reading c.args.left) c.args.precedence) c.args.precedence (words_of c.args.words.now) (words_of c.in_ok-first.rest.now) (words_of c.in_ok-further.rest.now) (plain c.in_ok-first.first) (map plain_operation c.in_ok-further.further.items) c.in_ok-first.ensures c.in_ok-further.ensures fit
    ∙ ap (λ (t : Tree). Some (t, words_of c.in_ok-further.rest.now)) (sym c.in_ok-with_operations.ensures)
