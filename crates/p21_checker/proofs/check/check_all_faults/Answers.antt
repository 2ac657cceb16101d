use Rattle.std.proofs.Common.{ap, sym, subst, ◌∙◌}
use Rattle.std.specs.Prelude.{IfOk}
use Rattle.p21_express.specs.Schema.{Schema}
use Rattle.p21_checker.specs.Answers.{AllReturned}
use Rattle.p21_checker.specs.Checked.{IsStated, StatesTexts}
use Rattle.p21_checker.specs.declared.checking.Locally.{Locally}
use Rattle.p21_checker.proofs.ListLemmas.{stated_texts}
use Rattle.p21_checker.proofs.check.check_all_faults.Goals as goal

pub check_by-requires-clause-texts : goal.check_by-requires-clause-texts
check_by-requires-clause-texts g c κs within =
    let same = ap (λ (judge : Locally). judge.schema.now) (c.deref.ensures ∙ c.new-judge.ensures) in
    subst (λ (t : Schema). StatesTexts (IsStated t) c.args.schema.now) (sym same) (stated_texts c.args.schema.now)

pub returns-clause-returned : goal.returns-clause-returned
returns-clause-returned g c =
    let same = ap (λ (judge : Locally). judge.schema.now) (c.deref.ensures ∙ c.new-judge.ensures) in
    subst (λ (t : Schema). IfOk c.check_by.result (AllReturned (IsStated t) c.args.schema.now c.args.file.now c.args.lanes)) same c.check_by.ensures.returned

pub returns-clause-answer : goal.returns-clause-answer
returns-clause-answer g c =
    let same = ap (λ (judge : Locally). judge.schema.now) (c.deref.ensures ∙ c.new-judge.ensures) in
    c.check_by.ensures.answer (λ list checked said. subst (λ (t : Schema). IsStated t list checked) same said)
