use Rattle.p21_export.proofs.SpellingLemmas.{sound_read}
use Rattle.p21_export.proofs.laws.instances_are_sound.Goals as goal

pub returns : goal.returns
returns c = sound_read
