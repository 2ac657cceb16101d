use Rattle.std.proofs.Common.{◌≡◌, ◌≤◌, Some, sym, ap, subst, ◌∙◌}
use Rattle.std.specs.Prelude.{slice_get}
use Rattle.std.proofs.lemmas.List.{length-map}
use Rattle.p21_tree.specs.Views.{plain_record}
use Rattle.p21_check.specs.Sets.{HasEntity}
use Rattle.p21_check.specs.Instances.{complex_instance}
use Rattle.p21_check.proofs.ElementLemmas.{count_all}
use Rattle.p21_check.proofs.ComplexLemmas.{set_by, record_at}
use Rattle.p21_check.proofs.RecordLemmas.{record_known, record_counted, none_in_record, first_in_record, one_more, all_before}
use Rattle.p21_check.proofs.references.records_references.Goals as goal

pub returns-in_default : goal.returns-in_default
returns-in_default g c name at =
    let s = c.args.schema.now in
    let rs = c.args.records.now in
    let d = c.index-records-rec.result in
    let e = plain_record d in
    let local = c.requires.local in
    let i = complex_instance local.0 local.1 rs in
    let there : slice_get i.records c.loop-rec.rec ≡ Some e = record_at rs c.loop-rec.rec d c.loop-rec-test.true ∙ ap (λ r. Some (plain_record r)) (sym c.index-records-rec.is) in
    absurd (record_known s i c.loop-rec.rec e local.2 there c.in_default.ensures)

pub entry-requires-clause-count : goal.entry-requires-clause-count
entry-requires-clause-count g c os are =
    let s = c.args.schema.now in
    let rs = c.args.records.now in
    let d = c.index-records-rec.result in
    let e = plain_record d in
    let local = c.requires.local in
    let i = complex_instance local.0 local.1 rs in
    let there : slice_get i.records c.loop-rec.rec ≡ Some e = record_at rs c.loop-rec.rec d c.loop-rec-test.true ∙ ap (λ r. Some (plain_record r)) (sym c.index-records-rec.is) in
    sym (count_all d.params) ∙ record_counted s i c.loop-rec.rec e local.2 there os are

pub returns-in-Err : goal.returns-in-Err
returns-in-Err g c name at =
    let s = c.args.schema.now in
    let rs = c.args.records.now in
    let d = c.index-records-rec.result in
    let e = plain_record d in
    let i = complex_instance name at rs in
    let q = c.loop-rec.rec in
    let there : slice_get i.records q ≡ Some e = record_at rs q d c.loop-rec-test.true ∙ ap (λ r. Some (plain_record r)) (sym c.index-records-rec.is) in
    let some = c.in-Err.ensures.attributes in
    first_in_record s c.fits.ensures (g.J.NameJudge.named c.args.judge.now) i (HasEntity s c.args.set.now) (set_by s name at rs c.args.set.now c.requires.of) q e there some.0 c.in-Err.kind some.1 (c.loop-rec.invariant name at) (c.in-Err.ensures.found some.0 some.1)

pub loop-rec-preserved : goal.loop-rec-preserved
loop-rec-preserved g c name at =
    let s = c.args.schema.now in
    let rs = c.args.records.now in
    let d = c.index-records-rec.result in
    let e = plain_record d in
    let i = complex_instance name at rs in
    let q = c.loop-rec.rec in
    let named = g.J.NameJudge.named c.args.judge.now in
    let there : slice_get i.records q ≡ Some e = record_at rs q d c.loop-rec-test.true ∙ ap (λ r. Some (plain_record r)) (sym c.index-records-rec.is) in
    one_more s named i q (c.loop-rec.invariant name at) (none_in_record s c.fits.ensures named i (HasEntity s c.args.set.now) (set_by s name at rs c.args.set.now c.requires.of) q e there c.in_default-entry.ensures.found)

pub returns : goal.returns
returns g c name at =
    let rs = c.args.records.now in
    all_before c.args.schema.now (g.J.NameJudge.named c.args.judge.now) (complex_instance name at rs) c.loop-rec.rec (subst (λ n. n ≤ c.loop-rec.rec) (sym (length-map rs plain_record)) c.loop-rec-test.false) (c.loop-rec.invariant name at)
