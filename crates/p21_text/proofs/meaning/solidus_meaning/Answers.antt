use Rattle.std.proofs.Common.{◌∙◌}
use Rattle.p21_text.proofs.MeaningLemmas.{hex_left}
use Rattle.p21_text.proofs.meaning.solidus_meaning.Goals as goal

pub hex_meaning-requires : goal.hex_meaning-requires
hex_meaning-requires c =
    hex_left c.args.text.now c.requires.some (λ e. c.if-second-eq92.false (c.byte_at-second.ensures ∙ e)) (λ e. c.if-second-eq80.false (c.byte_at-second.ensures ∙ e)) (λ e. c.if-second-eq83.false (c.byte_at-second.ensures ∙ e))
