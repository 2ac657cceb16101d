use Rattle.std.proofs.Common.{rules, ◌≡◌, ℕ, ◌++◌, ◌∷◌, [], map, drop, length, List, sym, ap, ◌∙◌, arith, slice_get, slice_set, Ok, true, false, suc, refl, ◌+◌, ◌-◌, Bool}
use Rattle.std.proofs.lemmas.Grind.{common_steps}
use Rattle.p21_values.specs.Ends.{Outcome, gives, Gives}
use Rattle.p21_values.specs.Operators.{binary_of}
use Rattle.p21_values.specs.Plain.{Val, plain, plain_all, several, bare}
use Rattle.p21_values.specs.declared.operators.BinaryOperator.TheVariants as binary
use Rattle.p21_values.specs.declared.value.Value.{Value}
use Rattle.p21_evaluate.specs.Ends.{and_then, Step, goes_on, returns}
use Rattle.p21_evaluate.specs.Make.{made_of}
use Rattle.p21_evaluate.specs.Meaning.{Answers, is_true, meaning, kept, keep_if, query_bare, before, called, block, chosen, does, choose, place_of, turns, turn_of, afterwards, loop}
use Rattle.p21_evaluate.specs.declared.term.Statement.{Statement}
use Rattle.p21_evaluate.specs.declared.term.Term.{Term}
use Rattle.p21_evaluate.proofs.Steps.{ends_then, gives_along, kept_end, query_aggregate, by_parts_make, by_parts_query, by_parts_call, does_along, does_case_of, does_case_at, does_no, does_repeat_step, does_yes, turn, turn_leaves, turn_stays}
use Rattle.p21_evaluate.proofs.evaluation.+run.Goals as goal

pub by_parts-returns-in_err-values-in-Make-clause-value : goal.by_parts-returns-in_err-values-in-Make-clause-value
by_parts-returns-in_err-values-in-Make-clause-value g t c =
    let w : Answers = record { same = g.W.Instances.same c.args.world.now; replied = g.W.World.replied c.args.world.now; made = g.W.World.made c.args.world.now } in
    let fs = c.args.functions.now in
    let go : Term → List Val → Outcome Val = meaning c.args.depth w fs in
    let calls : ℕ → List Val → Outcome Val = λ k. called (block (does c.args.depth w fs)) (slice_get fs k) in
    let env = map plain c.args.slots.now.items in
    let s = c.in-Make in
    λ known. gives_along _ _ _ (by_parts_make w go calls c.args.term.now s.making s.parts c.deref-in-Make.result.now env s.is c.deref-in-Make.ensures.value) (search (rules, ends_then, c.in_err-values-in-Make.ensures.values known))

pub by_parts-returns-in_ok-values-in-Make-clause-value : goal.by_parts-returns-in_ok-values-in-Make-clause-value
by_parts-returns-in_ok-values-in-Make-clause-value g t c =
    let w : Answers = record { same = g.W.Instances.same c.args.world.now; replied = g.W.World.replied c.args.world.now; made = g.W.World.made c.args.world.now } in
    let fs = c.args.functions.now in
    let go : Term → List Val → Outcome Val = meaning c.args.depth w fs in
    let calls : ℕ → List Val → Outcome Val = λ k. called (block (does c.args.depth w fs)) (slice_get fs k) in
    let env = map plain c.args.slots.now.items in
    let s = c.in-Make in
    λ known. gives_along _ _ _ (by_parts_make w go calls c.args.term.now s.making s.parts c.deref-in-Make.result.now env s.is c.deref-in-Make.ensures.value ∙ ap (λ o. and_then o (made_of w.same w.made s.making)) (c.in_ok-values-in-Make.ensures.values known)) (c.make.ensures known)

pub by_parts-returns-in_err-args-in-Call-clause-value : goal.by_parts-returns-in_err-args-in-Call-clause-value
by_parts-returns-in_err-args-in-Call-clause-value g t c =
    let w : Answers = record { same = g.W.Instances.same c.args.world.now; replied = g.W.World.replied c.args.world.now; made = g.W.World.made c.args.world.now } in
    let fs = c.args.functions.now in
    let go : Term → List Val → Outcome Val = meaning c.args.depth w fs in
    let calls : ℕ → List Val → Outcome Val = λ k. called (block (does c.args.depth w fs)) (slice_get fs k) in
    let env = map plain c.args.slots.now.items in
    let s = c.in-Call in
    λ known. gives_along _ _ _ (by_parts_call w go calls c.args.term.now s.function s.parts c.deref-in-Call.result.now env s.is c.deref-in-Call.ensures.value) (search (rules, ends_then, c.in_err-args-in-Call.ensures.values known))

pub by_parts-returns-in_ok-args-in-Call-clause-value : goal.by_parts-returns-in_ok-args-in-Call-clause-value
by_parts-returns-in_ok-args-in-Call-clause-value g t c =
    let w : Answers = record { same = g.W.Instances.same c.args.world.now; replied = g.W.World.replied c.args.world.now; made = g.W.World.made c.args.world.now } in
    let fs = c.args.functions.now in
    let go : Term → List Val → Outcome Val = meaning c.args.depth w fs in
    let calls : ℕ → List Val → Outcome Val = λ k. called (block (does c.args.depth w fs)) (slice_get fs k) in
    let env = map plain c.args.slots.now.items in
    let s = c.in-Call in
    λ known. gives_along _ _ _ (by_parts_call w go calls c.args.term.now s.function s.parts c.deref-in-Call.result.now env s.is c.deref-in-Call.ensures.value ∙ ap (λ o. and_then o (calls s.function)) (c.in_ok-args-in-Call.ensures.values known)) (c.call.ensures known)

pub by_parts-returns-in_ok-over-in-Query-clause-value : goal.by_parts-returns-in_ok-over-in-Query-clause-value
by_parts-returns-in_ok-over-in-Query-clause-value g t c =
    let w : Answers = record { same = g.W.Instances.same c.args.world.now; replied = g.W.World.replied c.args.world.now; made = g.W.World.made c.args.world.now } in
    let fs = c.args.functions.now in
    let go : Term → List Val → Outcome Val = meaning c.args.depth w fs in
    let calls : ℕ → List Val → Outcome Val = λ k. called (block (does c.args.depth w fs)) (slice_get fs k) in
    let env = map plain c.args.slots.now.items in
    let q = c.in-Query in
    λ known. gives_along _ _ _ (by_parts_query w go calls c.args.term.now q.over q.test c.deref-in-Query.result.now c.deref-in-Query-2.result.now env _ _ q.is c.deref-in-Query.ensures c.deref-in-Query-2.ensures (c.in_ok-over-in-Query.ensures.value known) (ap (map plain) c.in_ok-over-in-Query.ensures.slots)) (c.query.ensures.value known)

pub kept-returns-clause-values : goal.kept-returns-clause-values
kept-returns-clause-values g t c =
    let w : Answers = record { same = g.W.Instances.same c.args.world.now; replied = g.W.World.replied c.args.world.now; made = g.W.World.made c.args.world.now } in
    let fs = c.args.functions.now in
    let test : Val → Outcome Val = λ x. meaning c.args.depth w fs c.args.test.now (map plain c.args.slots.now.items ++ x ∷ []) in
    λ known. kept_end c.args.places test (drop c.loop-value.value-index c.args.values.now) (kept c.args.places test (plain_all c.args.values.now)) c.loop-value.kept.items (grind (arith, common_steps)) (c.loop-value.invariant.1 known)

pub query_bare-returns-in_err-kept-in-Aggregate-clause-value : goal.query_bare-returns-in_err-kept-in-Aggregate-clause-value
query_bare-returns-in_err-kept-in-Aggregate-clause-value g t c =
    let w : Answers = record { same = g.W.Instances.same c.args.world.now; replied = g.W.World.replied c.args.world.now; made = g.W.World.made c.args.world.now } in
    let fs = c.args.functions.now in
    let test : Val → Outcome Val = λ x. meaning c.args.depth w fs c.args.test.now (map plain c.args.slots.now.items ++ x ∷ []) in
    let a = c.in-Aggregate in
    λ known. gives_along _ _ _ (query_aggregate test c.args.over.now a.kind a.values c.deref.result.now c.deref-in-Aggregate.result.now c.keeps_places-places.result a.is c.deref.ensures c.deref-in-Aggregate.ensures.value c.keeps_places-places.ensures) (search (rules, ends_then, c.in_err-kept-in-Aggregate.ensures.values known))

pub query_bare-returns-in_ok-kept-in-Aggregate-clause-value : goal.query_bare-returns-in_ok-kept-in-Aggregate-clause-value
query_bare-returns-in_ok-kept-in-Aggregate-clause-value g t c =
    let w : Answers = record { same = g.W.Instances.same c.args.world.now; replied = g.W.World.replied c.args.world.now; made = g.W.World.made c.args.world.now } in
    let fs = c.args.functions.now in
    let test : Val → Outcome Val = λ x. meaning c.args.depth w fs c.args.test.now (map plain c.args.slots.now.items ++ x ∷ []) in
    let a = c.in-Aggregate in
    λ known. gives_along _ _ _ (query_aggregate test c.args.over.now a.kind a.values c.deref.result.now c.deref-in-Aggregate.result.now c.keeps_places-places.result a.is c.deref.ensures c.deref-in-Aggregate.ensures.value c.keeps_places-places.ensures ∙ ap (λ o. and_then o (λ ws. gives (several a.kind ws))) (c.in_ok-kept-in-Aggregate.ensures.values known)) c.aggregate.ensures

pub evaluate-returns-clause-value : goal.evaluate-returns-clause-value
evaluate-returns-clause-value g t c =
    let w : Answers = record { same = g.W.Instances.same c.args.world.now; replied = g.W.World.replied c.args.world.now; made = g.W.World.made c.args.world.now } in
    let fs = c.args.functions.now in
    let env = map plain c.args.slots.now.items in
    let e : c.args.depth ≡ suc (c.args.depth - 1) = omega arith in
    λ known. gives_along _ _ _ (ap (λ n. meaning n w fs c.args.term.now env) e) (c.by_parts.ensures.value known)

pub run-returns : goal.run-returns
run-returns g t c =
    let w : Answers = record { same = g.W.Instances.same c.args.world.now; replied = g.W.World.replied c.args.world.now; made = g.W.World.made c.args.world.now } in
    let fs = c.args.functions.now in
    let env = map plain c.args.slots.now.items in
    let e : c.args.depth ≡ suc (c.args.depth - 1) = omega arith in
    λ known. does_along _ _ _ _ (ap (λ n. does n w fs c.args.statement.now env) e) (c.does_by_parts.ensures known)

pub does_by_parts-returns-in_err-place-in-Case : goal.does_by_parts-returns-in_err-place-in-Case
does_by_parts-returns-in_err-place-in-Case g t c =
    let w : Answers = record { same = g.W.Instances.same c.args.world.now; replied = g.W.World.replied c.args.world.now; made = g.W.World.made c.args.world.now } in
    let fs = c.args.functions.now in
    let go : Term → List Val → Outcome Val = meaning c.args.depth w fs in
    let runs : Statement → List Val → Outcome Step = does c.args.depth w fs in
    let env = map plain c.args.slots.now.items in
    let s = c.in-Case in
    let given = map plain c.evaluate-in-Case.new.slots.items in
    λ known. does_along _ _ _ _ (does_case_of w.same go runs c.args.statement.now s.of s.labels s.last s.statements c.deref-in-Case.result.now s.statements.items env given (plain c.in_ok-of-in-Case.of) s.is c.deref-in-Case.ensures.value refl (c.in_ok-of-in-Case.ensures.value known) (ap (map plain) c.in_ok-of-in-Case.ensures.slots)) (search (rules, ends_then, c.in_err-place-in-Case.ensures.place known))

pub does_by_parts-returns-in-Case : goal.does_by_parts-returns-in-Case
does_by_parts-returns-in-Case g t c =
    let w : Answers = record { same = g.W.Instances.same c.args.world.now; replied = g.W.World.replied c.args.world.now; made = g.W.World.made c.args.world.now } in
    let fs = c.args.functions.now in
    let go : Term → List Val → Outcome Val = meaning c.args.depth w fs in
    let runs : Statement → List Val → Outcome Step = does c.args.depth w fs in
    let env = map plain c.args.slots.now.items in
    let s = c.in-Case in
    let given = map plain c.evaluate-in-Case.new.slots.items in
    λ known. does_along _ _ _ _ (does_case_at w.same go runs c.args.statement.now s.of s.labels s.last s.statements c.deref-in-Case.result.now c.deref-in-Case-2.result.now env given (map plain c.place.new.slots.items) (plain c.in_ok-of-in-Case.of) c.in_ok-place-in-Case.place s.is c.deref-in-Case.ensures.value c.deref-in-Case-2.ensures.value (c.in_ok-of-in-Case.ensures.value known) (ap (map plain) c.in_ok-of-in-Case.ensures.slots) (c.in_ok-place-in-Case.ensures.place known) (ap (map plain) c.in_ok-place-in-Case.ensures.slots)) (c.chosen.ensures known)

pub does_by_parts-returns-in-Repeat : goal.does_by_parts-returns-in-Repeat
does_by_parts-returns-in-Repeat g t c =
    let w : Answers = record { same = g.W.Instances.same c.args.world.now; replied = g.W.World.replied c.args.world.now; made = g.W.World.made c.args.world.now } in
    let fs = c.args.functions.now in
    let go : Term → List Val → Outcome Val = meaning c.args.depth w fs in
    let runs : Statement → List Val → Outcome Step = does c.args.depth w fs in
    let env = map plain c.args.slots.now.items in
    let s = c.in-Repeat in
    λ known. does_along _ _ _ _ (does_repeat_step w.same go runs c.args.statement.now s.slot s.first s.last s.step s.condition s.until s.body c.deref-in-Repeat.result.now env (map plain c.evaluate-in-Repeat.new.slots.items) (map plain c.evaluate-in-Repeat-2.new.slots.items) (map plain c.evaluate-in-Repeat-3.new.slots.items) (plain c.in_ok-first-in-Repeat.first) (plain c.in_ok-last-in-Repeat.last) (plain c.in_ok-step-in-Repeat.step) s.is c.deref-in-Repeat.ensures.value (c.in_ok-first-in-Repeat.ensures.value known) (ap (map plain) c.in_ok-first-in-Repeat.ensures.slots) (c.in_ok-last-in-Repeat.ensures.value known) (ap (map plain) c.in_ok-last-in-Repeat.ensures.slots) (c.in_ok-step-in-Repeat.ensures.value known) (ap (map plain) c.in_ok-step-in-Repeat.ensures.slots)) (c.repeat.ensures known)

pub turns-returns-in_err-end : goal.turns-returns-in_err-end
turns-returns-in_err-end g t c =
    let w : Answers = record { same = g.W.Instances.same c.args.world.now; replied = g.W.World.replied c.args.world.now; made = g.W.World.made c.args.world.now } in
    let fs = c.args.functions.now in
    let body : List Val → Outcome Step = turn_of (meaning c.args.depth w fs c.args.condition.now) (meaning c.args.depth w fs c.args.until.now) (block (does c.args.depth w fs) c.args.body.now) in
    let first = plain c.args.first.now in
    let step = plain c.args.step.now in
    let next : List Val → Outcome Step = turns body c.args.slot first step (c.loop-done.done + 1) (c.args.count - (c.loop-done.done + 1)) in
    let all : Outcome Step = turns body c.args.slot first step 0 c.args.count (map plain c.args.slots.now.items) in
    let env = map plain c.assign.new.slots.items in
    λ known. let so_far : all ≡ and_then (body env) (afterwards next) = turn body c.args.slot first step c.loop-done.done c.args.count (map plain c.loop-done.slots.items) env all (c.loop-done.invariant known) c.loop-done-test.true (c.assign.ensures ∙ ap (slice_set (map plain c.loop-done.slots.items) c.args.slot) c.in_ok-at.ensures) in
    does_along _ _ _ _ so_far (search (rules, ends_then, c.in_err-end.ensures known))

pub turns-returns-in-Some : goal.turns-returns-in-Some
turns-returns-in-Some g t c =
    let w : Answers = record { same = g.W.Instances.same c.args.world.now; replied = g.W.World.replied c.args.world.now; made = g.W.World.made c.args.world.now } in
    let fs = c.args.functions.now in
    let body : List Val → Outcome Step = turn_of (meaning c.args.depth w fs c.args.condition.now) (meaning c.args.depth w fs c.args.until.now) (block (does c.args.depth w fs) c.args.body.now) in
    let first = plain c.args.first.now in
    let step = plain c.args.step.now in
    let next : List Val → Outcome Step = turns body c.args.slot first step (c.loop-done.done + 1) (c.args.count - (c.loop-done.done + 1)) in
    let all : Outcome Step = turns body c.args.slot first step 0 c.args.count (map plain c.args.slots.now.items) in
    let env = map plain c.assign.new.slots.items in
    λ known. let so_far : all ≡ and_then (body env) (afterwards next) = turn body c.args.slot first step c.loop-done.done c.args.count (map plain c.loop-done.slots.items) env all (c.loop-done.invariant known) c.loop-done-test.true (c.assign.ensures ∙ ap (slice_set (map plain c.loop-done.slots.items) c.args.slot) c.in_ok-at.ensures) in
    turn_leaves body next all env c.in_ok-end.end c.in-Some.left c.turn.new.slots.items so_far (c.in_ok-end.ensures known) (sym c.leaves.ensures ∙ c.in-Some.is)

pub turns-loop-done-preserved : goal.turns-loop-done-preserved
turns-loop-done-preserved g t c =
    let w : Answers = record { same = g.W.Instances.same c.args.world.now; replied = g.W.World.replied c.args.world.now; made = g.W.World.made c.args.world.now } in
    let fs = c.args.functions.now in
    let body : List Val → Outcome Step = turn_of (meaning c.args.depth w fs c.args.condition.now) (meaning c.args.depth w fs c.args.until.now) (block (does c.args.depth w fs) c.args.body.now) in
    let first = plain c.args.first.now in
    let step = plain c.args.step.now in
    let next : List Val → Outcome Step = turns body c.args.slot first step (c.loop-done.done + 1) (c.args.count - (c.loop-done.done + 1)) in
    let all : Outcome Step = turns body c.args.slot first step 0 c.args.count (map plain c.args.slots.now.items) in
    let env = map plain c.assign.new.slots.items in
    λ known. let so_far : all ≡ and_then (body env) (afterwards next) = turn body c.args.slot first step c.loop-done.done c.args.count (map plain c.loop-done.slots.items) env all (c.loop-done.invariant known) c.loop-done-test.true (c.assign.ensures ∙ ap (slice_set (map plain c.loop-done.slots.items) c.args.slot) c.in_ok-at.ensures) in
    turn_stays body next all env c.in_ok-end.end c.turn.new.slots.items so_far (c.in_ok-end.ensures known) (sym c.leaves.ensures ∙ c.in-None.is)

pub does_by_parts-returns-then-is_true : goal.does_by_parts-returns-then-is_true
does_by_parts-returns-then-is_true g t c =
    let w : Answers = record { same = g.W.Instances.same c.args.world.now; replied = g.W.World.replied c.args.world.now; made = g.W.World.made c.args.world.now } in
    let fs = c.args.functions.now in
    let go : Term → List Val → Outcome Val = meaning c.args.depth w fs in
    let runs : Statement → List Val → Outcome Step = does c.args.depth w fs in
    let env = map plain c.args.slots.now.items in
    let given = map plain c.evaluate-in-If.new.slots.items in
    let s = c.in-If in
    let v = plain c.in_ok-value-in-If.value in
    let holds : is_true v ≡ true = sym c.is_true.ensures ∙ c.if-is_true.true in
    λ known. does_along _ _ _ _ (does_yes w.same go runs c.args.statement.now s.condition s.yes s.no c.deref.result.now env given v s.is c.deref.ensures.value (c.in_ok-value-in-If.ensures.value known) holds (ap (map plain) c.in_ok-value-in-If.ensures.slots)) (c.block.ensures known)

pub does_by_parts-returns-in-If : goal.does_by_parts-returns-in-If
does_by_parts-returns-in-If g t c =
    let w : Answers = record { same = g.W.Instances.same c.args.world.now; replied = g.W.World.replied c.args.world.now; made = g.W.World.made c.args.world.now } in
    let fs = c.args.functions.now in
    let go : Term → List Val → Outcome Val = meaning c.args.depth w fs in
    let runs : Statement → List Val → Outcome Step = does c.args.depth w fs in
    let env = map plain c.args.slots.now.items in
    let given = map plain c.evaluate-in-If.new.slots.items in
    let s = c.in-If in
    let v = plain c.in_ok-value-in-If.value in
    let fails : is_true v ≡ false = sym c.is_true.ensures ∙ c.if-is_true.false in
    λ known. does_along _ _ _ _ (does_no w.same go runs c.args.statement.now s.condition s.yes s.no c.deref-else-is_true.result.now env given v s.is c.deref-else-is_true.ensures.value (c.in_ok-value-in-If.ensures.value known) fails (ap (map plain) c.in_ok-value-in-If.ensures.slots)) (c.block-else-is_true.ensures known)

pub query-returns-clause-value : goal.query-returns-clause-value
query-returns-clause-value g t c =
    let w : Answers = record { same = g.W.Instances.same c.args.world.now; replied = g.W.World.replied c.args.world.now; made = g.W.World.made c.args.world.now } in
    let fs = c.args.functions.now in
    let test : Val → Outcome Val = λ x. meaning c.args.depth w fs c.args.test.now (map plain c.args.slots.now.items ++ x ∷ []) in
    λ known. gives_along _ _ _ (ap (query_bare test) (sym c.bare.ensures)) (c.query_bare.ensures.value known)
