use Rattle.std.proofs.Common.{◌≡◌, ◌+◌, ◌-◌, ◌*◌, ◌++◌, ◌∷◌, [], drop, map, List}
use Rattle.p21_values.specs.Plain.{Val, plain, plain_all}
use Rattle.p21_values.specs.Ends.{Outcome, gives}
use Rattle.p21_evaluate.specs.Ends.{and_then, Step}
use Rattle.p21_evaluate.specs.Meaning.{Answers, meaning, kept, before, each, block, does, turns, turn_of, place_of}
use Rattle.p21_values.specs.Operators.{binary_of}
use Rattle.p21_values.specs.declared.operators.BinaryOperator.TheVariants as binary
use Rattle.p21_evaluate.specs.declared.term.Term.{Term}
use Rattle.p21_evaluate.proofs.evaluation.+run.Given as goal

abbrev pub decreases-evaluate : goal.decreases-evaluate
decreases-evaluate g l = 8 * l.depth

abbrev pub decreases-by_parts : goal.decreases-by_parts
decreases-by_parts g l = 8 * l.depth + 4

abbrev pub decreases-follow : goal.decreases-follow
decreases-follow g l = 8 * l.depth + 3

abbrev pub decreases-call : goal.decreases-call
decreases-call g l = 8 * l.depth + 2

abbrev pub decreases-query : goal.decreases-query
decreases-query g l = 8 * l.depth + 3

abbrev pub decreases-query_bare : goal.decreases-query_bare
decreases-query_bare g l = 8 * l.depth + 2

abbrev pub decreases-kept : goal.decreases-kept
decreases-kept g l = 8 * l.depth + 1

abbrev pub decreases-each : goal.decreases-each
decreases-each g l = 8 * l.depth + 1

abbrev pub decreases-run : goal.decreases-run
decreases-run g l = 8 * l.depth

abbrev pub decreases-does_by_parts : goal.decreases-does_by_parts
decreases-does_by_parts g l = 8 * l.depth + 7

abbrev pub decreases-place : goal.decreases-place
decreases-place g l = 8 * l.depth + 1

abbrev pub decreases-chosen : goal.decreases-chosen
decreases-chosen g l = 8 * l.depth + 1

abbrev pub decreases-repeat : goal.decreases-repeat
decreases-repeat g l = 8 * l.depth + 6

abbrev pub decreases-turns : goal.decreases-turns
decreases-turns g l = 8 * l.depth + 5

abbrev pub decreases-turn : goal.decreases-turn
decreases-turn g l = 8 * l.depth + 4

abbrev pub decreases-ended : goal.decreases-ended
decreases-ended g l = 8 * l.depth + 1

abbrev pub decreases-block : goal.decreases-block
decreases-block g l = 8 * l.depth + 1

-- what was kept, before what is kept of the rest
abbrev pub invariant-kept-loop-value : goal.invariant-kept-loop-value
invariant-kept-loop-value g l =
    let w : Answers = record { same = g.W.Instances.same l.world; replied = g.W.World.replied l.world; made = g.W.World.made l.world } in
    let test : Val → Outcome Val = λ x. meaning l.depth w l.functions l.test (map plain l.fn.slots.items ++ x ∷ []) in
    (l.slots.items ≡ l.fn.slots.items)
    × (g.W.Instances.known l.world → kept l.places test (plain_all l.values) ≡ and_then (kept l.places test (plain_all (drop l.value-index l.values))) (λ ws. gives (before l.kept.items ws)))

-- the values so far, before those of the rest
abbrev pub invariant-each-loop-term : goal.invariant-each-loop-term
invariant-each-loop-term g l =
    let w : Answers = record { same = g.W.Instances.same l.world; replied = g.W.World.replied l.world; made = g.W.World.made l.world } in
    let go : Term → Outcome Val = λ e. meaning l.depth w l.functions e (map plain l.fn.slots.items) in
    (l.slots.items ≡ l.fn.slots.items)
    × (g.W.Instances.known l.world → each go l.terms ≡ and_then (each go (drop l.term-index l.terms)) (λ vs. gives (map plain l.values.items ++ vs)))

-- what is left to do
abbrev pub invariant-block-loop-statement : goal.invariant-block-loop-statement
invariant-block-loop-statement g l =
    let w : Answers = record { same = g.W.Instances.same l.world; replied = g.W.World.replied l.world; made = g.W.World.made l.world } in
    g.W.Instances.known l.world → block (does l.depth w l.functions) l.statements (map plain l.fn.slots.items) ≡ block (does l.depth w l.functions) (drop l.statement-index l.statements) (map plain l.slots.items)

-- the labels that are left
abbrev pub invariant-place-loop-label : goal.invariant-place-loop-label
invariant-place-loop-label g l =
    let w : Answers = record { same = g.W.Instances.same l.world; replied = g.W.World.replied l.world; made = g.W.World.made l.world } in
    let go : Term → Outcome Val = λ t. meaning l.depth w l.functions t (map plain l.fn.slots.items) in
    let equals : Val → Outcome Val = λ u. binary_of w.same binary.Equal (plain l.of) u in
    (l.slots.items ≡ l.fn.slots.items)
    × (g.W.Instances.known l.world → place_of go equals l.labels l.last ≡ place_of go equals (drop l.label-index l.labels) l.last)

-- the turns that are left
abbrev pub invariant-turns-loop-done : goal.invariant-turns-loop-done
invariant-turns-loop-done g l =
    let w : Answers = record { same = g.W.Instances.same l.world; replied = g.W.World.replied l.world; made = g.W.World.made l.world } in
    let turn : List Val → Outcome Step = turn_of (meaning l.depth w l.functions l.condition) (meaning l.depth w l.functions l.until) (block (does l.depth w l.functions) l.body) in
    g.W.Instances.known l.world → turns turn l.slot (plain l.first) (plain l.step) 0 l.count (map plain l.fn.slots.items) ≡ turns turn l.slot (plain l.first) (plain l.step) l.done (l.count - l.done) (map plain l.slots.items)
