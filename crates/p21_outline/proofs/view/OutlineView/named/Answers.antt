use Rattle.std.proofs.Common.{Some, sym, subst, ◌∙◌}
use Rattle.p21_check.specs.EntityOf.{IsKnownAs}
use Rattle.p21_check.specs.References.{named_in}
use Rattle.p21_check.specs.declared.entity_of.Named.TheVariants as known
use Rattle.p21_join.specs.Model.{plain_instances}
use Rattle.p21_join.specs.Names.{IsPosition}
use Rattle.p21_outline.specs.Columns.{instances_in}
use Rattle.p21_outline.proofs.NameLemmas.{none_named}
use Rattle.p21_outline.proofs.ViewLemmas.{RowAt, is_simple, named_simple, named_whole, row_within}
use Rattle.p21_outline.proofs.view.OutlineView.named.Goals as goal

pub returns-in_default : goal.returns-in_default
returns-in_default c =
    let o = c.args.self.outline.now in
    let is = instances_in o.columns in
    none_named is c.args.name (subst (IsPosition is c.args.name) (sym c.place.ensures ∙ c.in_default.is) (o.placed c.args.name))

pub entity_at-requires : goal.entity_at-requires
entity_at-requires c =
    let view = c.args.self in
    let o = view.outline.now in
    let position : IsPosition (instances_in o.columns) c.args.name (Some c.in-Some.place) = subst (IsPosition (instances_in o.columns) c.args.name) (sym c.place.ensures ∙ c.in-Some.is) (o.placed c.args.name) in
    let at : RowAt view.schema.now o.columns c.in-Some.place c.index.result.now = record { less = row_within o.columns c.in-Some.place position.0; there = c.index.ensures; rows = view.known } in
    (is_simple view.schema.now o.columns c.in-Some.place c.index.result.now c.in-Simple.entity at c.in-Simple.is).known_

pub returns-in-Simple : goal.returns-in-Simple
returns-in-Simple c =
    let view = c.args.self in
    let o = view.outline.now in
    let is = instances_in o.columns in
    let position : IsPosition is c.args.name (Some c.in-Some.place) = subst (IsPosition is c.args.name) (sym c.place.ensures ∙ c.in-Some.is) (o.placed c.args.name) in
    let at : RowAt view.schema.now o.columns c.in-Some.place c.index.result.now = record { less = row_within o.columns c.in-Some.place position.0; there = c.index.ensures; rows = view.known } in
    subst (λ e. IsKnownAs view.schema.now (named_in (plain_instances is) c.args.name) (known.Simple e)) (sym c.entity_at.ensures)
    (named_simple view.schema.now o.columns c.args.name c.in-Some.place c.index.result.now c.in-Simple.entity o.own_names position at c.in-Simple.is)

pub returns-in-Whole : goal.returns-in-Whole
returns-in-Whole c =
    let view = c.args.self in
    let o = view.outline.now in
    let is = instances_in o.columns in
    let position : IsPosition is c.args.name (Some c.in-Some.place) = subst (IsPosition is c.args.name) (sym c.place.ensures ∙ c.in-Some.is) (o.placed c.args.name) in
    let at : RowAt view.schema.now o.columns c.in-Some.place c.index.result.now = record { less = row_within o.columns c.in-Some.place position.0; there = c.index.ensures; rows = view.known } in
    named_whole view.schema.now o.columns c.args.name c.in-Some.place c.index.result.now c.in-Whole.at c.index-in-Whole.result o.own_names position at c.in-Whole.is c.index-in-Whole.ensures
