use Rattle.std.proofs.Common.{not, refl, subst, sym}
use Rattle.p21_tree.specs.Views.{plain_instance}
use Rattle.p21_check.specs.References.{named_in}
use Rattle.p21_join.specs.Model.{plain_instances}
use Rattle.p21_outline.specs.Columns.{instances_in}
use Rattle.p21_outline.specs.Rows.{Refers, RefersAt}
use Rattle.p21_outline.proofs.FaultLemmas.{StandsAt, at_place, by_check, by_references, sound_there}
use Rattle.p21_outline.proofs.ViewLemmas.{RowAt, no_entity, row_within, simple_instance, whole_complex, whole_instance}
use Rattle.p21_outline.proofs.view.OutlineView.is_faulty.Goals as goal

pub check_references_among-requires : goal.check_references_among-requires
check_references_among-requires c κs =
    let view = c.args.self in
    let s = view.schema.now in
    let columns = view.outline.now.columns in
    let i = c.index-whole.result.now in
    let row : RowAt s columns c.args.place c.index.result.now = record { less = row_within columns c.args.place c.requires.within; there = c.index.ensures; rows = view.known } in
    let there : StandsAt (instances_in columns) c.args.place i = (c.requires.within, whole_instance s columns c.args.place c.index.result.now c.in-Whole.at i row c.in-Whole.is c.index-whole.ensures) in
    let own = no_entity s i (whole_complex s columns c.args.place c.index.result.now c.in-Whole.at i row c.in-Whole.is c.index-whole.ensures) in
    ((refl, (refl, tt)), (refl, (own, sound_there s (instances_in columns) c.args.place i c.requires.outlined.sound there)))

pub returns-in-Simple : goal.returns-in-Simple
returns-in-Simple c =
    let view = c.args.self in
    let s = view.schema.now in
    let columns = view.outline.now.columns in
    let all = plain_instances (instances_in columns) in
    let here = c.index.result.now in
    let gone = here.gone.value in
    let rs = c.references_at.result.now in
    let row : RowAt s columns c.args.place here = record { less = row_within columns c.args.place c.requires.within; there = c.index.ensures; rows = view.known } in
    let there : StandsAt (instances_in columns) c.args.place gone = (c.requires.within, simple_instance s columns c.args.place here c.in-Simple.field-0 row c.in-Simple.is) in
    let refers = subst (RefersAt s rs) (sym c.index.ensures) (c.references_at.ensures s here c.requires.outlined.references) in
    let are = subst (Refers s rs gone) c.in-Simple.is refers in
    at_place s (instances_in columns) c.args.place gone (not c.are_answered.result) there
    (by_references s all (plain_instance gone) rs c.are_answered.result (c.references_decide.ensures.answered s (named_in all) (plain_instance gone) rs) (c.references_decide.ensures.unanswered s (named_in all) (plain_instance gone) rs) are c.are_answered.ensures)

pub returns-in-Whole : goal.returns-in-Whole
returns-in-Whole c =
    let view = c.args.self in
    let s = view.schema.now in
    let columns = view.outline.now.columns in
    let i = c.index-whole.result.now in
    let row : RowAt s columns c.args.place c.index.result.now = record { less = row_within columns c.args.place c.requires.within; there = c.index.ensures; rows = view.known } in
    let there : StandsAt (instances_in columns) c.args.place i = (c.requires.within, whole_instance s columns c.args.place c.index.result.now c.in-Whole.at i row c.in-Whole.is c.index-whole.ensures) in
    at_place s (instances_in columns) c.args.place i c.is_err.result there
    (by_check s (plain_instances (instances_in columns)) (plain_instance i) c.check_references_among.result c.is_err.result c.check_references_among.ensures c.is_err.ensures.value)
