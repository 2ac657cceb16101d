use Rattle.std.proofs.Common.{sym, subst, ◌∙◌}
use Rattle.p21_express.specs.Schema.{Schema}
use Rattle.p21_schema.specs.Tables.{schema_of}
use Rattle.p21_schema.specs.Place.{IsEntityOf}
use Rattle.p21_schema.specs.RowTable.{row_of}
use Rattle.p21_schema.proofs.AncestryLemmas.{distinct_entities}
use Rattle.p21_schema.proofs.RowLemmas.{row_length}
use Rattle.p21_schema.proofs.schema.Schema.row_count.Goals as goal

pub count-requires : goal.count-requires
count-requires c = (schema_of c.self.inside, (c.self.invariant.rows, subst (λ (u : Schema). IsEntityOf u c.args.entity) (sym c.self.view_is) c.requires))

pub returns : goal.returns
returns c =
    let s = schema_of c.self.inside in
    let e = c.args.entity in
    let t = c.self.invariant.rows in
    let le : IsEntityOf s e = subst (λ (u : Schema). IsEntityOf u e) (sym c.self.view_is) c.requires in
    let r = row_length s (distinct_entities s c.self.invariant.well_formed.repeated) e (row_of t.all e.index) (t.rows e.index le) in
    rw (← c.self.view_is) (r.0, (r.1.0, r.1.1 ∙ sym (c.count.ensures s t le)))
