use Rattle.std.proofs.Common.{[], ◌∷◌, refl}
use Rattle.std.proofs.lemmas.Result.{on_ok_weaker}
use Rattle.p21_rows.specs.declared.rows.Table.TheVariants.{Metadata}
use Rattle.p21_rows.specs.Rows.{Takes}
use Rattle.p21_rows.proofs.metadata.insert_value.Goals as goal

pub returns-clause-taken : goal.returns-clause-taken
returns-clause-taken g c =
    on_ok_weaker c.insert.result (λ (t : Takes (g.D.Rows.taken c.args.rows.now) (g.D.Rows.taken c.insert.new.self) (record { table = Metadata; cells = c.in_ok-cells.cells.items } ∷ [])). (record { table = Metadata; cells = c.in_ok-cells.cells.items } ∷ [], (refl, tt), t)) c.insert.ensures.taken
