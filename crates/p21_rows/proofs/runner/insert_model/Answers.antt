use Rattle.std.proofs.Common.{[], ◌∷◌, map, subst}
use Rattle.std.proofs.lemmas.Result.{on_ok_weaker}
use Rattle.p21_express.specs.Schema.{Schema}
use Rattle.p21_tree.specs.Views.{plain_instance}
use Rattle.p21_rows.specs.Rows.{AreInstanceRows, RowsOfEach, Goes, TakesSome, ended as end}
use Rattle.p21_rows.proofs.RowLemmas.{model_rows}
use Rattle.p21_rows.proofs.runner.insert_model.Goals as goal

pub returns-clause-given : goal.returns-clause-given
returns-clause-given g c =
    let is = map plain_instance c.args.instances.now in
    let a = g.D.Rows.taken c.args.rows.now in
    let begun = g.D.Rows.taken c.begin.new.self in
    let about = g.D.Rows.taken c.insert_metadata.new.rows in
    let whole = g.D.Rows.taken c.insert_instances.new.rows in
    let ended = g.D.Rows.taken c.end.new.self in
    let others = subst (λ (s : Schema). TakesSome about whole (RowsOfEach (AreInstanceRows s) is)) c.in_ok-terms.ensures c.in_ok-insert_instances.ensures.taken in
    on_ok_weaker c.end.result (λ (t : Goes whole ended (end ∷ [])). model_rows c.args.schema.now is a begun about whole ended c.in_ok-begin.ensures.taken c.in_ok-insert_metadata.ensures.taken others t) c.end.ensures.taken
