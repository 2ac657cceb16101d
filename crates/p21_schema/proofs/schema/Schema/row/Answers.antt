use Rattle.std.proofs.Common.{◌<◌, List, length, sym, subst}
use Rattle.p21_express.specs.Schema.{Schema}
use Rattle.p21_express.specs.WellFormed.{Origin}
use Rattle.p21_schema.specs.Tables.{schema_of}
use Rattle.p21_schema.specs.Place.{entity_name, IsEntityOf}
use Rattle.p21_schema.specs.Row.{IsRow}
use Rattle.p21_schema.specs.RowTable.{row_of}
use Rattle.p21_schema.proofs.AncestryLemmas.{distinct_entities}
use Rattle.p21_schema.proofs.RowLemmas.{row_within, row_known, row_item}
use Rattle.p21_schema.proofs.schema.Schema.row.Goals as goal

pub attribute-requires : goal.attribute-requires
attribute-requires c =
    let s = schema_of c.self.inside in
    let e = c.args.entity in
    let t = c.self.invariant.rows in
    let le : IsEntityOf s e = subst (λ (u : Schema). IsEntityOf u e) (sym c.self.view_is) c.requires.entity in
    let at : (all : List Origin) × (IsRow s (entity_name s e) all × (c.args.position < length all)) = rw c.self.view_is c.requires.position in
    (s, (t, (le, row_within s (distinct_entities s c.self.invariant.well_formed.repeated) e (row_of t.all e.index) (t.rows e.index le) c.args.position at)))

pub returns-clause-known : goal.returns-clause-known
returns-clause-known c =
    let s = schema_of c.self.inside in
    let e = c.args.entity in
    let t = c.self.invariant.rows in
    let le : IsEntityOf s e = subst (λ (u : Schema). IsEntityOf u e) (sym c.self.view_is) c.requires.entity in
    let at : (all : List Origin) × (IsRow s (entity_name s e) all × (c.args.position < length all)) = rw c.self.view_is c.requires.position in
    let distinct = distinct_entities s c.self.invariant.well_formed.repeated in
    let ids = row_of t.all e.index in
    let inside = row_within s distinct e ids (t.rows e.index le) c.args.position at in
    rw (← c.self.view_is) (row_known s distinct e ids (t.rows e.index le) c.args.position c.attribute.result inside (c.attribute.ensures s t le inside))

pub returns-clause-row : goal.returns-clause-row
returns-clause-row c =
    let s = schema_of c.self.inside in
    let e = c.args.entity in
    let t = c.self.invariant.rows in
    let le : IsEntityOf s e = subst (λ (u : Schema). IsEntityOf u e) (sym c.self.view_is) c.requires.entity in
    let at : (all : List Origin) × (IsRow s (entity_name s e) all × (c.args.position < length all)) = rw c.self.view_is c.requires.position in
    let distinct = distinct_entities s c.self.invariant.well_formed.repeated in
    let ids = row_of t.all e.index in
    let inside = row_within s distinct e ids (t.rows e.index le) c.args.position at in
    rw (← c.self.view_is) (row_item s distinct e ids (t.rows e.index le) c.args.position c.attribute.result inside (c.attribute.ensures s t le inside))
