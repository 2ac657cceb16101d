use Rattle.std.proofs.Common.{◌++◌, ◌∷◌, [], List, map, ap, refl, subst}
use Rattle.std.proofs.lemmas.List.{take_all}
use Rattle.json.specs.Token as json
use Rattle.p21_tree.specs.Grammar.{Entry}
use Rattle.p21_tree.specs.Views.{plain_instance, plain_record}
use Rattle.p21_json.specs.Parts.{exactly}
use Rattle.p21_json.specs.Instances.{AreRecordsParts}
use Rattle.p21_json.proofs.InstanceLemmas.{known_at, records_more}
use Rattle.p21_json.proofs.WrittenLemmas.{adds_ok, adds_then}
use Rattle.p21_json.proofs.line.Line.records.Goals as goal

pub record-requires : goal.record-requires
record-requires c = known_at c.args.terms.now c.args.records.now c.loop-record.record-index c.record-item.result c.requires c.loop-record-test.true c.record-item.is

pub loop-record-preserved : goal.loop-record-preserved
loop-record-preserved c =
    let s = c.args.terms.now in
    let p = c.loop-record.invariant in
    let q = c.in_ok-record.ensures in
    let first = adds_ok s (exactly json.begin_object) c.in_ok-begin_object.ensures refl in
    let last = adds_ok s (exactly json.end_object) c.in_ok-end_object.ensures refl in (
      p.0 ++ exactly json.begin_object ∷ (q.0 ++ exactly json.end_object ∷ []),
      records_more s (plain_instance c.args.instance.now) c.args.records.now c.loop-record.record-index c.record-item.result p.0 q.0 c.loop-record-test.true c.record-item.is p.1 q.1,
      adds_then p.2 (adds_then first (adds_then q.2 last)),
    )

pub returns : goal.returns
returns c =
    let p = c.loop-record.invariant in
    let all = ap (map plain_record) (take_all c.loop-record.record-index c.args.records.now c.loop-record-test.false) in
    (p.0, subst (λ (es : List Entry). AreRecordsParts c.args.terms.now (plain_instance c.args.instance.now) es p.0) all p.1, p.2)
