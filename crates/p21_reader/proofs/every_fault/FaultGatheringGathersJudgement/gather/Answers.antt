use Rattle.std.proofs.Common.{List, [], ◌∷◌, ◌++◌, sym, ap, subst}
use Rattle.std.specs.Prelude.{OnOk, Result, Ok, Err}
use Rattle.p21_join.specs.Joined.{joined}
use Rattle.p21_join.specs.Model.{plain_instances}
use Rattle.p21_reader.specs.EveryFault.{AreFaultsGathered}
use Rattle.p21_reader.specs.Judged.{value_of}
use Rattle.p21_reader.specs.declared.judged.Judged.{Judged}
use Rattle.p21_reader.specs.declared.judged.Judgement.{Judgement}
use Rattle.p21_reader.proofs.EveryFaultLemmas.{grammar_more}
use Rattle.p21_reader.proofs.every_fault.FaultGatheringGathersJudgement.gather.Goals as goal

on_ok_then : {T E : Type 0} (r : Result T E) (P Q : Type 0) → OnOk r P → (P → Q) → OnOk r Q
on_ok_then (Ok x) P Q h f = f h
on_ok_then (Err e) P Q h f = tt

pub returns-in_ok-push-in-Grammar : goal.returns-in_ok-push-in-Grammar
returns-in_ok-push-in-Grammar c = λ outs h.
    let g = c.args.self.now in
    let is = plain_instances (joined g.joiner) in
    grammar_more outs c.args.out c.in-Grammar.fault is is g.entities.items g.entities.items g.names g.names g.faults.items c.push.new.self.items g.ended c.if-self.false h (ap value_of c.in-Grammar.is) c.in_ok-push-in-Grammar.ensures.items

pub returns-in-Whole : goal.returns-in-Whole
returns-in-Whole c =
    subst (λ (d : Judged). OnOk c.join.result ((outs : List Judgement) → AreFaultsGathered c.args.self.now outs → AreFaultsGathered c.join.new.self (outs ++ record { judged = d; entity = c.args.out.entity } ∷ []))) (sym c.in-Whole.is) c.join.ensures

pub returns-in-Whole-2 : goal.returns-in-Whole-2
returns-in-Whole-2 c =
    let noted = on_ok_then c.note.result _ _ c.note.ensures (λ h outs gathered. h outs c.args.out.entity gathered) in
    subst (λ (d : Judged). OnOk c.note.result ((outs : List Judgement) → AreFaultsGathered c.args.self.now outs → AreFaultsGathered c.note.new.self (outs ++ record { judged = d; entity = c.args.out.entity } ∷ []))) (sym c.in-Whole.is) noted
