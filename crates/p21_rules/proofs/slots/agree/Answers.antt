use Rattle.std.proofs.Common.{MatchBool, get_or, subst}
use Rattle.p21_tree.specs.Plain.{plain}
use Rattle.p21_rules.specs.Slots.{MeansCounting, no_declaration, set_of}
use Rattle.p21_rules.proofs.DeclarationLemmas.{stops_at, goes_on, all_done}
use Rattle.p21_rules.proofs.slots.agree.Goals as goal

pub returns-then-not-branch : goal.returns-then-not-branch
returns-then-not-branch c = λ ds v z e m.
    let s = c.args.slot.schema.now in
    let P = MeansCounting s (set_of c.args.slot) ds (plain c.args.param.now) v in
    let i = c.loop-place.place in
    let not = subst (λ b. MatchBool b (P (get_or ds i no_declaration)) (¬ (P (get_or ds i no_declaration)))) c.if-not-branch.true (c.in_ok-agrees_at.ensures ds v z e m) in
    stops_at s c.args.slot.declarations.now ds z i c.loop-place-test.true P not (c.loop-place.invariant ds v z e m)

pub loop-place-preserved : goal.loop-place-preserved
loop-place-preserved c = λ ds v z e m.
    let s = c.args.slot.schema.now in
    let P = MeansCounting s (set_of c.args.slot) ds (plain c.args.param.now) v in
    let i = c.loop-place.place in
    let this = subst (λ b. MatchBool b (P (get_or ds i no_declaration)) (¬ (P (get_or ds i no_declaration)))) c.if-not-branch.false (c.in_ok-agrees_at.ensures ds v z e m) in
    goes_on s c.args.slot.declarations.now ds z i c.loop-place-test.true P this (c.loop-place.invariant ds v z e m)

pub returns : goal.returns
returns c = λ ds v z e m.
    let s = c.args.slot.schema.now in
    all_done s c.args.slot.declarations.now ds z c.loop-place.place c.loop-place-test.false (MeansCounting s (set_of c.args.slot) ds (plain c.args.param.now) v) (c.loop-place.invariant ds v z e m)
