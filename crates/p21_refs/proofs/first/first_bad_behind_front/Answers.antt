use Rattle.std.proofs.Common.{◌≡◌, ap, arith, length, ◌∙◌}
use Rattle.std.specs.Prelude.{min}
use Rattle.p21_join.specs.Model.{instances_of}
use Rattle.p21_refs.proofs.PlaceLemmas.{answered_all}
use Rattle.p21_refs.proofs.first.first_bad_behind_front.Goals as goal

pub loop-from-init : goal.loop-from-init
loop-from-init g c =
    let front : c.min-from.result ≡ min 2048 (length (instances_of c.args.model.now)) = c.min-from.ensures ∙ ap (min 2048) c.len-len.ensures in
    (omega (arith, c.min-from.ensures), (λ some. omega (arith, some, c.min-from.ensures)), λ place less. c.requires.front place (omega (arith, less, front)))

pub returns : goal.returns
returns g c =
    answered_all c.args.schema.now c.args.model.now c.loop-from.from (omega (arith, c.loop-from-test.false, c.len-len.ensures)) c.loop-from.invariant.2
