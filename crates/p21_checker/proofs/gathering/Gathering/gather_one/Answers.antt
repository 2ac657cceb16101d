use Rattle.std.proofs.Common.{true, ◌≢◌, ◌⊎◌, ◌∷◌, ◌++◌, [], refl, sym, subst}
use Rattle.p21_checker.specs.Begin.{HasFault}
use Rattle.p21_checker.specs.Checked.{value_of}
use Rattle.p21_checker.specs.Gathering.{HasGathered}
use Rattle.p21_checker.specs.declared.checked.Checked.{Checked}
use Rattle.p21_checker.proofs.GatheringLemmas.{gathered_ended, gathered_grammar, on_ok}
use Rattle.p21_checker.proofs.gathering.Gathering.gather_one.Goals as goal

pub returns-then-self : goal.returns-then-self
returns-then-self c = λ vs ls fault h. gathered_ended c.args.self.now vs (value_of c.args.one ∷ []) ls ls c.if-self.true h

pub returns-in_ok-push-in-Grammar : goal.returns-in_ok-push-in-Grammar
returns-in_ok-push-in-Grammar c = λ vs ls fault h.
    let g = record c.args.self.now { faults = c.push.new.self; ended = true } in
    subst (λ (one : Checked). HasGathered g (vs ++ value_of one ∷ []) ls × (g.faults.items ≢ [])) (sym c.in-Grammar.is)
    (gathered_grammar c.args.self.now g vs ls c.in-Grammar.fault c.if-self.false refl c.in_ok-push-in-Grammar.ensures.items h)

pub returns-in-Whole : goal.returns-in-Whole
returns-in-Whole c = on_ok c.note_checked.result _ _ (λ noted vs ls fault h.
    let found = subst (λ (one : Checked). c.args.self.now.faults.items ≢ [] ⊎ HasFault one) c.in-Whole.is fault in
    subst (λ (one : Checked). HasGathered c.note_checked.new.self (vs ++ value_of one ∷ []) ls × (c.note_checked.new.self.faults.items ≢ [])) (sym c.in-Whole.is) (noted vs ls found h)) c.note_checked.ensures
