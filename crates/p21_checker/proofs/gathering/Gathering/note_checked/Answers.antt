use Rattle.std.proofs.Common.{refl, sym}
use Rattle.p21_tree.specs.Views.{plain_instance}
use Rattle.p21_reader.specs.Values.{Whole}
use Rattle.p21_checker.proofs.GatheringLemmas.{on_ok}
use Rattle.p21_checker.proofs.gathering.Gathering.note_checked.Goals as goal

pub returns : goal.returns
returns c =
    let one = c.args.one.now in
    let w : Whole = record { instance = plain_instance one.gone.value; own = one.own } in
    on_ok c.note.result _ _ (λ noted vs ls fault h. noted vs ls w (sym one.named) (sym one.placed) refl h fault) c.note.ensures.noted
