use Rattle.std.proofs.lemmas.Result.{on_ok_weaker}
use Rattle.p21_rows.specs.Rows.{AreMetadata, TakesSome}
use Rattle.p21_rows.proofs.RowLemmas.{about_then}
use Rattle.p21_rows.proofs.metadata.insert_header.Goals as goal

pub returns-clause-taken : goal.returns-clause-taken
returns-clause-taken g c =
    let a = g.D.Rows.taken c.args.rows.now in
    let b = g.D.Rows.taken c.insert_entity.new.rows in
    let d = g.D.Rows.taken c.insert_entity-2.new.rows in
    let e = g.D.Rows.taken c.insert_entity-3.new.rows in
    on_ok_weaker c.insert_entity-3.result (λ (h : TakesSome d e AreMetadata). about_then a d e (about_then a b d c.in_ok-insert_entity.ensures.taken c.in_ok-insert_entity-2.ensures.taken) h) c.insert_entity-3.ensures.taken
