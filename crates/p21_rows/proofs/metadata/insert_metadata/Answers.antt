use Rattle.std.proofs.lemmas.Result.{on_ok_weaker}
use Rattle.p21_rows.specs.Rows.{AreMetadata, TakesSome}
use Rattle.p21_rows.proofs.RowLemmas.{about_then}
use Rattle.p21_rows.proofs.metadata.insert_metadata.Goals as goal

pub returns-clause-taken : goal.returns-clause-taken
returns-clause-taken g c =
    let a = g.D.Rows.taken c.args.rows.now in
    let program = g.D.Rows.taken c.insert_text.new.rows in
    let file = g.D.Rows.taken c.insert_text-2.new.rows in
    let schema = g.D.Rows.taken c.insert_text-3.new.rows in
    let header = g.D.Rows.taken c.insert_header.new.rows in
    let instances = g.D.Rows.taken c.insert_count.new.rows in
    let complex = g.D.Rows.taken c.insert_count-2.new.rows in
    let references = g.D.Rows.taken c.insert_count-3.new.rows in
    let two = about_then a program file c.in_ok-insert_text.ensures.taken c.in_ok-insert_text-2.ensures.taken in
    let three = about_then a file schema two c.in_ok-insert_text-3.ensures.taken in
    let four = about_then a schema header three c.in_ok-insert_header.ensures.taken in
    let five = about_then a header instances four c.in_ok-insert_count.ensures.taken in
    let six = about_then a instances complex five c.in_ok-insert_count-2.ensures.taken in
    on_ok_weaker c.insert_count-3.result (λ (h : TakesSome complex references AreMetadata). about_then a complex references six h) c.insert_count-3.ensures.taken
