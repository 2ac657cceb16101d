use Rattle.std.proofs.Common.{◌≡◌, get_or, sym, subst}
use Rattle.std.proofs.lemmas.List.{take_all}
use Rattle.p21_express.specs.WellFormed.{IsIn}
use Rattle.p21_tree.specs.declared.instances.Record.{Record}
use Rattle.p21_schema.specs.Place.{entity_name}
use Rattle.p21_check.specs.Instances.{AreMarksAbove}
use Rattle.p21_check.proofs.ComplexLemmas.{at_index, above_more}
use Rattle.p21_check.proofs.supertypes.mark_supertypes.Goals as goal

pub known-entity-requires : goal.known-entity-requires
known-entity-requires c =
    let rs = c.args.records.now in
    let x = c.record-item.result in
    c.requires x (subst (IsIn rs) (sym c.record-item.is) (at_index rs c.loop-record.record-index x c.loop-record-test.true))

pub loop-record-preserved : goal.loop-record-preserved
loop-record-preserved c =
    let s = c.args.schema.now in
    let rs = c.args.records.now in
    let k = c.loop-record.record-index in
    let x = c.record-item.result in
    let e = c.known-entity.result in
    let named : entity_name s e ≡ (get_or rs k x).keyword.now = subst (λ (y : Record). entity_name s e ≡ y.keyword.now) c.record-item.is c.known-entity.ensures.1 in
    above_more s c.one_id.ensures.entities rs k x c.loop-record-test.true e c.known-entity.ensures.0 named c.loop-record.above c.put_all.new.marks c.put_all.ensures.length c.fits.ensures c.supertypes.result.now c.supertypes.ensures c.put_all.ensures.added c.loop-record.invariant

pub returns : goal.returns
returns c = subst (AreMarksAbove c.args.schema.now c.loop-record.above) (take_all c.loop-record.record-index c.args.records.now c.loop-record-test.false) c.loop-record.invariant
