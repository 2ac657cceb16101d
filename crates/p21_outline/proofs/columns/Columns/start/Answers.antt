use Rattle.std.proofs.Common.{◌≡◌, suc, ap, ◌∙◌, ◌<◌, length, arith}
use Rattle.p21_outline.specs.Columns.{start_at}
use Rattle.p21_outline.proofs.PartLemmas.{start_behind}
use Rattle.p21_outline.proofs.columns.Columns.start.Goals as goal

pub returns-in-Some : goal.returns-in-Some
returns-in-Some c =
    let rows = c.args.self.now.rows.items in
    let known = c.in-Some.ensures in
    let next : suc c.in-Some.before ≡ c.args.place = omega (arith, known.0, known.1) in
    let less : c.in-Some.before < length rows = omega (arith, c.requires) in
    start_behind 0 rows c.in-Some.before c.index.result.now less c.index.ensures ∙ ap (start_at 0 rows) next
