use Rattle.std.proofs.Common.{◌≢◌, [], ◌∷◌, ◌++◌, rules}
use Rattle.p21_outline.specs.OutlineList.{listed_instances}
use Rattle.p21_checker.proofs.GatheringLemmas.{gathered_with, on_ok}
use Rattle.p21_checker.proofs.gathering.Gathering.gather_sound.Goals as goal

pub returns-else-is_empty : goal.returns-else-is_empty
returns-else-is_empty c =
    let list = c.args.list in
    let some : c.args.self.now.faults.items ≢ [] = search rules in
    on_ok c.note_names.result _ _ (λ noted vs ls h. noted vs (ls ++ list ∷ []) (listed_instances list) c.names.ensures (gathered_with c.args.self.now vs ls (ls ++ list ∷ []) some h)) c.note_names.ensures
