use denote.Param.Send.{sendable}
use Rattle.std.proofs.Crossing.{crosses}
use Rattle.std.proofs.Common.{map}
use Rattle.p21_schema.proofs.Crossing.{Schema-sync}
use Rattle.p21_reader.specs.Lanes as dealing
use Rattle.p21_reader.specs.ReadingBy.{by_pieces}
use Rattle.p21_reader.proofs.LaneLemmas.{judged_only, values_only, stopped_before, stopped_returned, pieces_of, pieces_by, local_by, reading_by}
use Rattle.p21_reader.proofs.lanes.read_pieces.Goals as goal

pub run_crew-requires-sync-W : goal.run_crew-requires-sync-W
run_crew-requires-sync-W g c κs within = search (sendable, crosses, Schema-sync) depth 40

pub conclude-answer-requires-clause-within : goal.conclude-answer-requires-clause-within
conclude-answer-requires-clause-within g c κs within = c.new-pieces.ensures.within c.in-Ok-run_crew.ensures.0 c.in-Ok-run_crew.run'.tail c.in-Ok-run_crew.ensures.2

pub returns-in-Err-clause-reading : goal.returns-in-Err-clause-reading
returns-in-Err-clause-reading g c = stopped_before (g.E.EntityJudge.judges c.args.judge.now c.args.schema.now) c.args.schema.now c.args.file.now c.args.lanes _ c.stopped.result c.in-Err.ensures.fault c.stopped.ensures

pub returns-in-Err-clause-pieces : goal.returns-in-Err-clause-pieces
returns-in-Err-clause-pieces g c = pieces_by (g.E.EntityJudge.judges c.args.judge.now c.args.schema.now) c.args.schema.now c.args.file.now c.args.lanes c.stopped.result (returns-in-Err-clause-reading g c)

pub returns-in-Err-clause-returned : goal.returns-in-Err-clause-returned
returns-in-Err-clause-returned g c = stopped_returned (g.E.EntityJudge.judges c.args.judge.now c.args.schema.now) c.args.schema.now c.args.file.now c.args.lanes _ c.stopped.result c.in-Err.ensures.fault c.stopped.ensures

pub returns-in-Err-clause-answer : goal.returns-in-Err-clause-answer
returns-in-Err-clause-answer g c local = reading_by (g.E.EntityJudge.judges c.args.judge.now c.args.schema.now) c.args.schema.now c.args.file.now c.args.lanes c.stopped.result (c.values_give_reading.ensures.of_judged c.args.schema.now c.args.file.now) local (returns-in-Err-clause-reading g c)

pub returns-clause-reading : goal.returns-clause-reading
returns-clause-reading g c =
    let judges = g.E.EntityJudge.judges c.args.judge.now c.args.schema.now in
    let s = c.args.schema.now in
    let all = c.in-Ok-run_crew.ensures in
    let run = all.3 in
    let cut = c.new-pieces.ensures.of_file all.0 c.in-Ok-run_crew.run'.tail all.2 in
    let said = judged_only judges s all.0 all.1 run.values in
    record {
      pieces = all.0;
      answer = by_pieces (map (λ j. j.judged) all.1) c.in-Ok.ensures.begins c.in-Ok.ensures.header cut said (rw (values_only all.1) (c.conclude-answer.ensures all.0 all.1 all.4 run.values));
      dealt = dealing.all c.in-Ok.ensures.begins c.in-Ok.ensures.header (record { dealing = run.dealing; one_each = run.receipts_each; shares = run.shares; ended = run.ended });
    }

pub returns-clause-pieces : goal.returns-clause-pieces
returns-clause-pieces g c =
    let by = returns-clause-reading g c in
    record { pieces = by.pieces; of_file = pieces_of (g.E.EntityJudge.judges c.args.judge.now c.args.schema.now) c.args.schema.now c.args.file.now by.pieces _ by.answer; as_dealt = by.dealt }

pub returns-clause-returned : goal.returns-clause-returned
returns-clause-returned g c =
    let all = c.in-Ok-run_crew.ensures in
    let cut = c.new-pieces.ensures.of_file all.0 c.in-Ok-run_crew.run'.tail all.2 in
    dealing.results all.0 all.1 c.in-Ok.ensures.begins c.in-Ok.ensures.header cut all.3 (c.conclude-answer.ensures all.0 all.1 all.4 all.3.values)

pub returns-clause-answer : goal.returns-clause-answer
returns-clause-answer g c local =
    let s = c.args.schema.now in
    let file = c.args.file.now in
    let by = returns-clause-reading g c in
    (c.values_give_reading.ensures.of_judged s file by.pieces _ (local_by (g.E.EntityJudge.judges c.args.judge.now s) s file by.pieces _ local by.answer)).0
