use Rattle.std.proofs.Common.{◌≡◌, Err, refl, length, take, drop, subst, ◌-◌, arith, sym, ap, ◌∙◌}
use Rattle.std.proofs.lemmas.Bool.{false≢true}
use Rattle.std.proofs.lemmas.Bool.Decides.{nat_tests}
use Rattle.std.proofs.lemmas.List.{take_all, length-drop}
use Rattle.p21_run.specs.Marks.{is_failure, is_fault_or_nothing}
use Rattle.p21_run.proofs.InputLemmas.{unfailed, unmarked}
use Rattle.p21_run.proofs.OutputLemmas.{IsWritten, written_none, written_more, written_again, written_whole, unmarked_write}
use Rattle.p21_run.proofs.output.write_bounded.Goals.{in-Ok, in-Err-Interrupted}
use Rattle.p21_run.proofs.output.write_bounded.Goals as goal

pub loop-init : goal.loop-init
loop-init g c = record { written = written_none (g.S.Sink.taken c.args.sink.now) c.args.text.now; counted = λ _. omega (arith); unfailed = refl }

pub loop-preserved : goal.loop-preserved
loop-preserved g c =
    let taken = g.S.Sink.taken c.args.sink.now in
    let text = c.args.text.now in
    let rest = c.loop.rest.now in
    record {
      written = elim c.match-write.branch [
        | in-Ok w ↦
            let n = w.in-Ok.count in
            let left : take (length rest - n) (drop n rest) ≡ drop n rest = take_all (length rest - n) (drop n rest) (omega (arith, length-drop n rest)) in
            subst (IsWritten taken (g.S.Sink.taken c.write.new.self) text) (sym (ap (λ v. v.now) w.rest-is ∙ left)) (written_more taken (g.S.Sink.taken c.loop.sink) (g.S.Sink.taken c.write.new.self) c.write.result n text rest c.loop.invariant.written c.write.ensures.bytes w.in-Ok.is w.in-Ok.ensures.bound)
        | in-Err-Interrupted w ↦ subst (λ v. IsWritten taken (g.S.Sink.taken c.write.new.self) text v.now) (sym w.rest-is) (written_again taken (g.S.Sink.taken c.loop.sink) (g.S.Sink.taken c.write.new.self) c.write.result w.in-Err-Interrupted.field-0 text rest c.loop.invariant.written c.write.ensures.bytes w.in-Err-Interrupted.is)
      ];
      counted = λ unset.
          let old = g.S.Sink.marked c.loop.sink in
          let new = g.S.Sink.marked c.write.new.self in
          let before = unmarked old new (is_fault_or_nothing c.write.result rest) c.write.ensures.mark unset in
          let some : ¬ (length rest ≡ 0) = grind (arith, nat_tests, c.if-is_empty.ensures) in
          elim c.match-write.branch [
            | in-Ok w ↦
                let n = w.in-Ok.count in
                let left : length (take (length rest - n) (drop n rest)) ≡ length rest - n = ap length (take_all (length rest - n) (drop n rest) (omega (arith, length-drop n rest))) ∙ length-drop n rest in
                omega (arith, ap (λ v. length v.now) w.rest-is, left, w.in-Ok.ensures.bound, unmarked_write old new c.write.result n rest c.write.ensures.mark unset w.in-Ok.is some, c.loop.invariant.counted before.0)
            | in-Err-Interrupted w ↦ absurd (false≢true (sym before.1 ∙ ap (λ r. is_fault_or_nothing r rest) w.in-Err-Interrupted.is))
          ];
      unfailed = elim c.match-write.branch [
        | in-Ok w ↦ unfailed (g.S.Sink.failed c.args.sink.now) (g.S.Sink.failed c.loop.sink) (g.S.Sink.failed c.write.new.self) (is_failure c.write.result) c.loop.invariant.unfailed c.write.ensures.failure (ap is_failure w.in-Ok.is)
        | in-Err-Interrupted w ↦ unfailed (g.S.Sink.failed c.args.sink.now) (g.S.Sink.failed c.loop.sink) (g.S.Sink.failed c.write.new.self) (is_failure c.write.result) c.loop.invariant.unfailed c.write.ensures.failure (ap is_failure w.in-Err-Interrupted.is ∙ ap (λ e. is_failure (Err e)) w.in-Err-Interrupted.field-0-is)
      ];
    }

pub returns-then-is_empty-clause-whole : goal.returns-then-is_empty-clause-whole
returns-then-is_empty-clause-whole g c = written_whole (g.S.Sink.taken c.args.sink.now) (g.S.Sink.taken c.loop.sink) c.args.text.now c.loop.rest.now c.loop.invariant.written (grind (arith, nat_tests, c.if-is_empty.ensures))

pub returns-then-is_empty-2-clause-whole : goal.returns-then-is_empty-2-clause-whole
returns-then-is_empty-2-clause-whole g c = written_whole (g.S.Sink.taken c.args.sink.now) (g.S.Sink.taken c.loop.sink) c.args.text.now c.loop.rest.now c.loop.invariant.written (grind (arith, nat_tests, c.if-is_empty-2.ensures))

pub returns-in-Err-Failed-clause-front : goal.returns-in-Err-Failed-clause-front
returns-in-Err-Failed-clause-front g c =
    let w = written_again (g.S.Sink.taken c.args.sink.now) (g.S.Sink.taken c.loop.sink) (g.S.Sink.taken c.write.new.self) c.write.result c.in-Err-Failed.field-0 c.args.text.now c.loop.rest.now c.loop.invariant.written c.write.ensures.bytes c.in-Err-Failed.is in
    (w.count, w.taken)

pub returns-else-is_empty-2-clause-front : goal.returns-else-is_empty-2-clause-front
returns-else-is_empty-2-clause-front g c = (c.loop.invariant.written.count, c.loop.invariant.written.taken)

pub returns-else-is_empty-2-clause-cause : goal.returns-else-is_empty-2-clause-cause
returns-else-is_empty-2-clause-cause g c unset = omega (arith, c.loop.invariant.counted unset, c.loop-test.false)
