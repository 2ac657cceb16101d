use Rattle.std.specs.Prelude.{IfErr}
use Rattle.std.proofs.lemmas.Result.{err_from_is_err_and}
use Rattle.p21_run.specs.Due.{most_calls}
use Rattle.p21_run.specs.declared.input.InputError.TheVariants.{Device}
use Rattle.p21_export.specs.Export.{HasLongLines}
use Rattle.std.proofs.Common.{◌≡◌, false, ℕ, List, ◌*◌, ◌<◌, ◌≤◌, Ok, IfOk, slice_index_or, length, map, ap, refl, sym, subst, ◌∙◌, arith}
use Rattle.std.proofs.lemmas.Grind.{div_ceil_times}
use Rattle.std.specs.Fork.{slice_chunk}
use Rattle.std.specs.Io.KnownBytes.{Appends}
use Rattle.p21_tree.specs.Views.{plain_instance}
use Rattle.p21_json.specs.Lines.{AreLines}
use Rattle.p21_export.proofs.ModelLemmas.{chunks_more, chunks_none, long_chunk, written_all}
use Rattle.p21_export.proofs.model.write_round.Goals as goal

pub loop-text-init : goal.loop-text-init
loop-text-init g c = (refl, chunks_none c.args.terms.now (g.K.Sink.taken c.args.out.now) c.args.instances.now c.max-size.result c.requires)

pub loop-text-preserved : goal.loop-text-preserved
loop-text-preserved g c =
    let xs = c.args.instances.now in
    let i = c.loop-text.text-index in
    let size = c.max-size.result in
    let r = c.text-item.result in
    let long : length c.as_slice-text-items.result.now ≡ c.div_ceil-2.result = c.as_slice-text-items.ensures.len ∙ c.in_ok-texts.ensures.len in
    let inside : i < c.div_ceil-2.result = subst (λ n. i < n) long c.loop-text-test.true in
    let each = (c.in_ok-texts.ensures.each i r inside).1 in
    let met : slice_index_or c.in_ok-texts.texts.items i r ≡ Ok c.in-Ok.text = ap (λ l. slice_index_or l i r) (sym c.as_slice-text-items.ensures.value) ∙ sym c.text-item.is ∙ c.in-Ok.is in
    let lines : AreLines c.args.terms.now (map plain_instance (slice_chunk xs size i)) c.in-Ok.text.items = subst (λ r. IfOk r (λ t. AreLines c.args.terms.now (map plain_instance (slice_chunk xs size i)) t.items)) met each.met in
    let taken = subst (λ (bs : List ℕ). Appends (g.K.Sink.taken c.loop-text.out) (g.K.Sink.taken c.write.new.out) bs) c.as_slice.ensures.value c.in_ok-write-in-Ok.ensures.written in
    (c.in_ok-write-in-Ok.ensures.unfailed ∙ c.loop-text.invariant.0, chunks_more c.args.terms.now (g.K.Sink.taken c.args.out.now) (g.K.Sink.taken c.loop-text.out) (g.K.Sink.taken c.write.new.out) xs size i c.in-Ok.text.items c.loop-text.invariant.1 lines taken)

pub returns-in_err-write-in-Ok-clause-cause : goal.returns-in_err-write-in-Ok-clause-cause
returns-in_err-write-in-Ok-clause-cause g c =
    let t = c.args.terms.now in
    let xs = c.args.instances.now in
    let i = c.loop-text.text-index in
    let size = c.max-size.result in
    let r = c.text-item.result in
    let long : length c.as_slice-text-items.result.now ≡ c.div_ceil-2.result = c.as_slice-text-items.ensures.len ∙ c.in_ok-texts.ensures.len in
    let inside : i < c.div_ceil-2.result = subst (λ n. i < n) long c.loop-text-test.true in
    let each = (c.in_ok-texts.ensures.each i r inside).1 in
    let met : slice_index_or c.in_ok-texts.texts.items i r ≡ Ok c.in-Ok.text = ap (λ l. slice_index_or l i r) (sym c.as_slice-text-items.ensures.value) ∙ sym c.text-item.is ∙ c.in-Ok.is in
    let lines : AreLines t (map plain_instance (slice_chunk xs size i)) c.in-Ok.text.items = subst (λ r. IfOk r (λ u. AreLines t (map plain_instance (slice_chunk xs size i)) u.items)) met each.met in
    let p = err_from_is_err_and c.from_residual-in_err-write-in-Ok.result c.from_residual-in_err-write-in-Ok.ensures.1 in
    subst (λ r. IfErr r (λ e. e ≡ Device → g.K.Sink.marked c.write.new.out ≡ false → HasLongLines t (map plain_instance xs))) (sym p.1)
    (λ d unmarked. long_chunk t xs size i c.in-Ok.text.items lines (subst (λ (l : List ℕ). most_calls ≤ length l) c.as_slice.ensures.value (c.in_err-write-in-Ok.ensures.cause (sym p.2 ∙ d) unmarked)))

pub returns-clause-written : goal.returns-clause-written
returns-clause-written g c =
    let xs = c.args.instances.now in
    let i = c.loop-text.text-index in
    let size = c.max-size.result in
    let long : length c.as_slice-text-items.result.now ≡ c.div_ceil-2.result = c.as_slice-text-items.ensures.len ∙ c.in_ok-texts.ensures.len in
    let count : i ≡ c.div_ceil-2.result = omega arith in
    let positive : 0 < size = omega arith in
    let all : length xs ≤ i * size = subst (λ n. length xs ≤ n * size) (sym (count ∙ c.div_ceil-2.ensures)) (div_ceil_times (length xs) size positive).0 in
    written_all c.args.terms.now (g.K.Sink.taken c.args.out.now) (g.K.Sink.taken c.loop-text.out) xs (i * size) c.loop-text.invariant.1 all
