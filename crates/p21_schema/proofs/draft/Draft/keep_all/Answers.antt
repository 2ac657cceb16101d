use Rattle.std.proofs.Common.{get_or, take, ◌<◌, sym, subst}
use Rattle.p21_graph.specs.MemberLaws.{at_place}
use Rattle.p21_schema.specs.declared.ids.AttrId.{AttrId}
use Rattle.p21_schema.specs.RowTable.{kept, all_kept}
use Rattle.p21_schema.proofs.DraftLemmas.{made_next, kept_more}
use Rattle.p21_schema.proofs.draft.Draft.keep_all.Goals as goal

pub keep-requires-clause-known : goal.keep-requires-clause-known
keep-requires-clause-known c =
    let k = c.loop-attribute.attribute-index in
    let a : AttrId = get_or c.args.attributes.now k (record { index = 0 }) in
    subst (λ u. a.index < u) (sym c.loop-attribute.invariant.count) (c.requires.known a (at_place c.args.attributes.now k (record { index = 0 }) c.loop-attribute-test.true))

pub loop-attribute-preserved : goal.loop-attribute-preserved
loop-attribute-preserved c =
    let k = c.loop-attribute.attribute-index in
    let xs = c.args.attributes.now in
    let row = c.args.self.now.ids.items in
    made_next _ _ (all_kept row (take k xs)) _ (λ r. kept r (get_or xs k (record { index = 0 }))) c.loop-attribute.self c.keep.new.self c.loop-attribute.invariant c.in_ok-keep.ensures (kept_more row xs k (record { index = 0 }) c.loop-attribute-test.true)
