use Rattle.std.proofs.Common.{refl}
use Rattle.p21_checker.proofs.ListLemmas.{adds_sound, on_both}
use Rattle.p21_checker.proofs.checked_list.CheckedList.push_walked.Goals as goal

pub returns : goal.returns
returns c =
    let was = c.args.self.now in
    on_both c.push_walked.result _ _ _ (λ listed kept. (listed.0, listed.1, adds_sound c.args.schema.now was _ listed.0 refl c.requires.sound listed.2 kept)) c.push_walked.ensures.instances c.push_walked.ensures.fits
