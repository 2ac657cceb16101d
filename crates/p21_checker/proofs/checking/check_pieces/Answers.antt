use denote.Param.Send.{sendable}
use Rattle.std.proofs.Common.{◌≤◌, ◌*◌, ap, sym, subst, ◌∙◌}
use Rattle.std.proofs.Crossing.{crosses}
use Rattle.std.proofs.lemmas.Result.{IfOk-weaker}
use Rattle.p21_crew.specs.Run.{IsRun}
use Rattle.p21_reader.specs.Pieces.{AreGiven}
use Rattle.p21_reader.specs.declared.pieces.Pieces.{Pieces}
use Rattle.p21_checker.specs.Lists.{lists_out, pieces_in}
use Rattle.p21_checker.specs.declared.checking.Checking.{Checking}
use Rattle.p21_checker.proofs.Crossing.{CheckedList-send}
use Rattle.p21_checker.proofs.ListLemmas.{fit_window}
use Rattle.p21_checker.proofs.checking.check_pieces.Goals as goal

pub run_crew-requires-sync-W : goal.run_crew-requires-sync-W
run_crew-requires-sync-W g c κs within = search (sendable, crosses) depth 40

pub run_crew-requires-send-O : goal.run_crew-requires-send-O
run_crew-requires-send-O g c κs within = search (sendable, crosses, CheckedList-send) depth 40

pub returns : goal.returns
returns g c =
    let same = ap (λ (work : Checking _). g.J.ListJudge.states work.judge.now) (c.deref.ensures ∙ c.new-checking.ensures) in
    let window = subst (λ n. lists_out c.args.capacity * n ≤ c.args.capacity) (sym c.new-lists.ensures.most) c.most_together.ensures.window in
    IfOk-weaker c.run_crew.result _ _
    (λ run all. (
      all.0,
      all.1,
      subst (λ (p : Pieces). AreGiven p (pieces_in all.0) run.tail) c.new-lists.ensures.pieces all.2.0,
      fit_window c.args.capacity c.new-lists.result.most_others all.0 window all.2.1,
      subst (λ states. IsRun states c.args.lanes all.0 all.1 run.dealt.items run.receipts.items run.returned.items) same all.3,
      all.4,
    ))
    c.run_crew.ensures
