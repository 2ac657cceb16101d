use Rattle.p21_rows.proofs.CellLemmas.{of_binary, of_item, of_items, of_typed}
use Rattle.p21_rows.proofs.cell.cell_of.Goals as goal

pub returns-in-Enumeration : goal.returns-in-Enumeration
returns-in-Enumeration c = λ w h. of_item c.args.terms.now w c.item.result c.args.param.now c.in-Enumeration.spelled c.in-Enumeration.is (c.item.ensures c.args.terms.now w h)

pub returns-in-Binary : goal.returns-in-Binary
returns-in-Binary c = λ w h. of_binary c.args.terms.now w c.json.result c.args.param.now c.in-Binary.field-0 c.in-Binary.is (c.json.ensures w h)

pub returns-in-Items : goal.returns-in-Items
returns-in-Items c = λ w h. of_items c.args.terms.now w c.json-in-Items.result c.args.param.now c.in-Items.field-0 c.in-Items.is (c.json-in-Items.ensures w h)

pub returns-in-Typed : goal.returns-in-Typed
returns-in-Typed c = λ w h. of_typed c.args.terms.now w c.json-in-Typed.result c.args.param.now c.in-Typed.field-0 c.in-Typed.field-1 c.in-Typed.is (c.json-in-Typed.ensures w h)
