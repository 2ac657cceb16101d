use Rattle.std.proofs.Common.{◌≡◌, ◌≤◌, ◌+◌, min, Err, refl, vec_len, length, take, subst, arith, sym, ap, ◌∙◌, length-append, drop}
use Rattle.std.proofs.lemmas.List.{take_at}
use Rattle.std.proofs.lemmas.Result.{err_from_is_err_and}
use Rattle.std.proofs.lemmas.Bool.{false≢true}
use Rattle.std.specs.Io.KnownBytes.{Consumes, ReadConsumes}
use Rattle.std.proofs.KnownBytes.{Consumes-nil}
use Rattle.p21_run.specs.declared.input.InputError.TheVariants.{Device}
use Rattle.p21_run.specs.Marks.{is_failure, is_fault}
use Rattle.p21_run.proofs.InputLemmas.{read_end, read_stops, read_more, read_again, read_past, at_least, same_err, unmarked, unfailed, never_failed}
use Rattle.p21_run.proofs.input.read_bounded.Goals.{in-Ok+in_ok-append-in-Ok, in-Err-Interrupted}
use Rattle.p21_run.proofs.input.read_bounded.Goals as goal

pub loop-init : goal.loop-init
loop-init g c = record {
  chunk = c.in_ok-chunk.ensures.len;
  bounded = omega (arith, c.new-bytes.ensures.len);
  read = subst (Consumes (g.S.Source.remaining c.args.source.now) (g.S.Source.remaining c.args.source.now)) (sym c.new-bytes.ensures.items) (Consumes-nil (g.S.Source.remaining c.args.source.now));
  unfailed = refl;
  counted = λ _. omega (arith);
}

pub loop-preserved : goal.loop-preserved
loop-preserved g c =
    let before = g.S.Source.remaining c.args.source.now in
    let mid = g.S.Source.remaining c.loop.source in
    let after = g.S.Source.remaining c.read.new.self in
    let len : length c.read.new.into ≡ c.loop.chunk.len = omega (arith, c.read.auto.into, c.as_mut_slice.ensures.len) in
    let written = take_at c.read.new.into (drop (length c.read.new.into) c.loop.chunk.items) c.loop.chunk.len len in
    record {
      chunk = c.loop.invariant.chunk;
      bounded = elim c.match-read.branch [
        | in-Ok+in_ok-append-in-Ok w ↦ subst (λ v. vec_len v ≤ c.args.bounds.bytes) (sym w.bytes-is) (omega (arith, w.in_ok-append-in-Ok.ensures.bounded, ap length w.in_ok-append-in-Ok.ensures.added, length-append c.loop.bytes.items (take w.in-Ok.count w.as_slice.result.now)))
        | in-Err-Interrupted w ↦ subst (λ v. vec_len v ≤ c.args.bounds.bytes) (sym w.bytes-is) c.loop.invariant.bounded
      ];
      read = elim c.match-read.branch [
        | in-Ok+in_ok-append-in-Ok w ↦
            subst (λ v. Consumes before after v.items) (sym w.bytes-is)
            (subst (Consumes before after) (sym w.in_ok-append-in-Ok.ensures.added)
            (read_more before mid after c.read.result w.in-Ok.count w.as_slice.result.now c.loop.bytes.items c.loop.invariant.read (subst (ReadConsumes mid after c.read.result) (sym (w.as_slice.ensures.value ∙ written)) c.read.ensures.bytes) w.in-Ok.is))
        | in-Err-Interrupted w ↦ subst (λ v. Consumes before after v.items) (sym w.bytes-is) (read_again before mid after c.read.result w.in-Err-Interrupted.field-0 c.read.new.into c.loop.bytes.items c.loop.invariant.read c.read.ensures.bytes w.in-Err-Interrupted.is)
      ];
      unfailed = elim c.match-read.branch [
        | in-Ok+in_ok-append-in-Ok w ↦ unfailed (g.S.Source.failed c.args.source.now) (g.S.Source.failed c.loop.source) (g.S.Source.failed c.read.new.self) (is_failure c.read.result) c.loop.invariant.unfailed c.read.ensures.failure (ap is_failure w.in-Ok.is)
        | in-Err-Interrupted w ↦ unfailed (g.S.Source.failed c.args.source.now) (g.S.Source.failed c.loop.source) (g.S.Source.failed c.read.new.self) (is_failure c.read.result) c.loop.invariant.unfailed c.read.ensures.failure (ap is_failure w.in-Err-Interrupted.is ∙ ap (λ e. is_failure (Err e)) w.in-Err-Interrupted.field-0-is)
      ];
      counted = λ unset. elim c.match-read.branch [
        | in-Ok+in_ok-append-in-Ok w ↦ subst (λ v. c.loop.counter + 1 ≤ vec_len v) (sym w.bytes-is) (omega (arith, c.loop.invariant.counted (unmarked (g.S.Source.marked c.loop.source) (g.S.Source.marked c.read.new.self) (is_fault c.read.result) c.read.ensures.mark unset).0, w.in-Ok.count-test, w.in-Ok.ensures.bound.1, ap (λ v. length (take w.in-Ok.count v)) (w.as_slice.ensures.value ∙ written), ap length w.in_ok-append-in-Ok.ensures.added, length-append c.loop.bytes.items (take w.in-Ok.count w.as_slice.result.now)))
        | in-Err-Interrupted w ↦ absurd (false≢true (sym (unmarked (g.S.Source.marked c.loop.source) (g.S.Source.marked c.read.new.self) (is_fault c.read.result) c.read.ensures.mark unset).1 ∙ ap is_fault w.in-Err-Interrupted.is))
      ];
    }

pub returns-in-Ok-eq0-clause-whole : goal.returns-in-Ok-eq0-clause-whole
returns-in-Ok-eq0-clause-whole g c =
    read_end (g.S.Source.remaining c.args.source.now) (g.S.Source.remaining c.loop.source) (g.S.Source.remaining c.read.new.self) c.read.result c.in-Ok-eq0.field-0 c.read.new.into c.loop.bytes.items c.loop.invariant.read c.read.ensures.bytes c.in-Ok-eq0.is c.in-Ok-eq0.field-0-test (omega (arith, c.read.auto.into, c.as_mut_slice.ensures.len, c.loop.invariant.chunk))

pub returns-in-Ok-eq0-clause-at_end : goal.returns-in-Ok-eq0-clause-at_end
returns-in-Ok-eq0-clause-at_end g c =
    read_stops (g.S.Source.remaining c.loop.source) (g.S.Source.remaining c.read.new.self) c.read.result c.in-Ok-eq0.field-0 c.read.new.into c.read.ensures.bytes c.in-Ok-eq0.is c.in-Ok-eq0.field-0-test (omega (arith, c.read.auto.into, c.as_mut_slice.ensures.len, c.loop.invariant.chunk))

pub returns-in-Ok-eq0-clause-failed : goal.returns-in-Ok-eq0-clause-failed
returns-in-Ok-eq0-clause-failed g c was is =
    never_failed (g.S.Source.failed c.args.source.now) (g.S.Source.failed c.read.new.self) (unfailed (g.S.Source.failed c.args.source.now) (g.S.Source.failed c.loop.source) (g.S.Source.failed c.read.new.self) (is_failure c.read.result) c.loop.invariant.unfailed c.read.ensures.failure (ap is_failure c.in-Ok-eq0.is)) was is

pub returns-in-Ok-eq0-clause-bounded : goal.returns-in-Ok-eq0-clause-bounded
returns-in-Ok-eq0-clause-bounded g c = c.loop.invariant.bounded

pub returns-in_err-append-in-Ok-clause-cause : goal.returns-in_err-append-in-Ok-clause-cause
returns-in_err-append-in-Ok-clause-cause g c is unset =
    let p = err_from_is_err_and c.from_residual-in_err-append-in-Ok.result c.from_residual-in_err-append-in-Ok.ensures.1 in
    let len : length c.read.new.into ≡ c.loop.chunk.len = omega (arith, c.read.auto.into, c.as_mut_slice.ensures.len) in
    let written = take_at c.read.new.into (drop (length c.read.new.into) c.loop.chunk.items) c.loop.chunk.len len in
    let most = min c.args.bounds.bytes c.args.bounds.calls in
    let past = c.in_err-append-in-Ok.ensures.cause (ap Err (sym p.2 ∙ same_err p.0 Device (sym p.1 ∙ is))) in
    read_past (g.S.Source.remaining c.args.source.now) (g.S.Source.remaining c.loop.source) (g.S.Source.remaining c.read.new.self) c.read.result c.in-Ok.count most c.as_slice.result.now c.loop.bytes.items c.loop.invariant.read (subst (ReadConsumes (g.S.Source.remaining c.loop.source) (g.S.Source.remaining c.read.new.self) c.read.result) (sym (c.as_slice.ensures.value ∙ written)) c.read.ensures.bytes) c.in-Ok.is (omega (arith, past))

pub returns-in_err-append-in-Ok-clause-failed : goal.returns-in_err-append-in-Ok-clause-failed
returns-in_err-append-in-Ok-clause-failed g c was is =
    never_failed (g.S.Source.failed c.args.source.now) (g.S.Source.failed c.read.new.self) (unfailed (g.S.Source.failed c.args.source.now) (g.S.Source.failed c.loop.source) (g.S.Source.failed c.read.new.self) (is_failure c.read.result) c.loop.invariant.unfailed c.read.ensures.failure (ap is_failure c.in-Ok.is)) was is

pub returns-in-Err-Failed-clause-cause : goal.returns-in-Err-Failed-clause-cause
returns-in-Err-Failed-clause-cause g c is unset = absurd (false≢true (sym (unmarked (g.S.Source.marked c.loop.source) (g.S.Source.marked c.read.new.self) (is_fault c.read.result) c.read.ensures.mark unset).1 ∙ ap is_fault c.in-Err-Failed.is))

pub returns-clause-cause : goal.returns-clause-cause
returns-clause-cause g c is unset = at_least (g.S.Source.remaining c.args.source.now) (g.S.Source.remaining c.loop.source) c.loop.bytes.items (min c.args.bounds.bytes c.args.bounds.calls) c.loop.invariant.read (omega (arith, c.loop.invariant.counted unset, c.loop-test.false))
