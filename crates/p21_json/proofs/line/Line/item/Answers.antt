use Rattle.std.proofs.lemmas.Result.{on_ok_weaker}
use Rattle.p21_json.proofs.WrittenLemmas.{adds_logical}
use Rattle.p21_json.proofs.line.Line.item.Goals as goal

pub returns-then-logical : goal.returns-then-logical
returns-then-logical c = λ s w h. on_ok_weaker c.logical.result (adds_logical w c.args.spelled.now (h.0 c.if-logical.true)) (c.logical.ensures s)
