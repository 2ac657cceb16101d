use Rattle.p21_tree.specs.Views.{plain_preface}
use Rattle.p21_checker.specs.Lists as dealing
use Rattle.p21_checker.specs.Lists.{pieces_in}
use Rattle.p21_reader.specs.PiecesOf.{behind_preface}
use Rattle.p21_checker.specs.Answers as answers
use Rattle.p21_checker.specs.Checked.{IsOfTexts, IsStated, values_of}
use Rattle.p21_checker.proofs.ListLemmas.{judged_all, pieces_dealt, zip_weaker}
use Rattle.p21_checker.proofs.CheckLemmas.{stopped_answer, stopped_pieces, stopped_returned}
use Rattle.p21_checker.proofs.check.check_by.Goals as goal

pub returns-in-Err-clause-pieces : goal.returns-in-Err-clause-pieces
returns-in-Err-clause-pieces g c = stopped_pieces c.args.schema.now c.args.file.now c.args.lanes c.args.capacity _ c.stopped.result c.in-Err.ensures.fault c.stopped.ensures

pub returns-in-Err-clause-returned : goal.returns-in-Err-clause-returned
returns-in-Err-clause-returned g c = stopped_returned (g.J.ListJudge.states c.args.judge.now) c.args.schema.now c.args.file.now c.args.lanes _ c.stopped.result c.in-Err.ensures.fault c.stopped.ensures

pub returns-in-Err-clause-answer : goal.returns-in-Err-clause-answer
returns-in-Err-clause-answer g c local = stopped_answer c.args.schema.now c.args.file.now _ c.stopped.result c.in-Err.ensures.fault c.stopped.ensures

pub conclude-requires-clause-ends : goal.conclude-requires-clause-ends
conclude-requires-clause-ends g c κs within = c.new-pieces.ensures.within (pieces_in c.in_ok-run.ensures.0) c.in_ok-run.run'.tail c.in_ok-run.ensures.2

pub conclude-requires-clause-gathered : goal.conclude-requires-clause-gathered
conclude-requires-clause-gathered g c κs within =
    let all = c.in_ok-run.ensures in
    let told = zip_weaker (g.J.ListJudge.states c.args.judge.now) (IsOfTexts c.args.schema.now) c.requires.texts all.0 all.1 all.4.values in
    (all.0, all.1, all.5, told, c.new-pieces.ensures.of_file (pieces_in all.0) c.in_ok-run.run'.tail all.2)

pub returns-clause-pieces : goal.returns-clause-pieces
returns-clause-pieces g c =
    let all = c.in_ok-run.ensures in
    let cut = c.new-pieces.ensures.of_file (pieces_in all.0) c.in_ok-run.run'.tail all.2 in
    record {
      lists = all.0;
      of_file = behind_preface c.in-Ok.ensures.begins c.in-Ok.ensures.header cut;
      window = all.3;
      as_dealt = dealing.all c.in-Ok.ensures.begins c.in-Ok.ensures.header (pieces_dealt (g.J.ListJudge.states c.args.judge.now) c.args.lanes all.0 all.1 _ _ _ all.4);
    }

pub returns-clause-returned : goal.returns-clause-returned
returns-clause-returned g c =
    let all = c.in_ok-run.ensures in
    let cut = c.new-pieces.ensures.of_file (pieces_in all.0) c.in_ok-run.run'.tail all.2 in
    let told = zip_weaker (g.J.ListJudge.states c.args.judge.now) (IsOfTexts c.args.schema.now) c.requires.texts all.0 all.1 all.4.values in
    answers.results all.0 all.1 c.in-Ok.ensures.begins c.in-Ok.ensures.header cut all.4 (c.in_ok-answer.ensures all.0 all.1 all.5 told cut)

pub returns-clause-answer : goal.returns-clause-answer
returns-clause-answer g c local =
    let s = c.args.schema.now in
    let file = c.args.file.now in
    let states = g.J.ListJudge.states c.args.judge.now in
    let all = c.in_ok-run.ensures in
    let tail = c.in_ok-run.run'.tail in
    let cut = c.new-pieces.ensures.of_file (pieces_in all.0) tail all.2 in
    let answer = c.in_ok-answer.ensures all.0 all.1 all.5 (zip_weaker states (IsOfTexts s) c.requires.texts all.0 all.1 all.4.values) cut in
    let judged = judged_all s all.0 all.1 (zip_weaker states (IsStated s) local all.0 all.1 all.4.values) in
    record {
      full = answer.full;
      is_reading = c.values_give_all_faults.ensures s file (plain_preface c.in-Ok.preface) (pieces_in all.0) tail (values_of all.1) answer.full c.in-Ok.ensures.begins c.in-Ok.ensures.header cut judged answer.is_answer;
      told = answer.told;
    }
