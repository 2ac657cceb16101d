use Rattle.std.proofs.Common.{◌∙◌}
use Rattle.p21_rules.specs.Bits.{nibble}
use Rattle.p21_rules.proofs.BitsLemmas.{item_more}
use Rattle.p21_rules.proofs.binary.push_nibble.Goals as goal

pub loop-place-preserved : goal.loop-place-preserved
loop-place-preserved c = λ rest. item_more (nibble c.args.value) c.loop-place.place _ _ _ _ rest c.loop-place-test.true (c.from.ensures ∙ c.bit.ensures) c.in_ok-push_scalar.ensures (c.loop-place.invariant rest)
