use Rattle.std.proofs.Common.{◌≡◌, List, ℕ, string_bytes, subst, sym}
use Rattle.p21_express.specs.WellFormed.{IsEntity}
use Rattle.p21_express.specs.Schema.{Schema}
use Rattle.p21_schema.specs.Place.{entity_name}
use Rattle.p21_json.specs.Spelled.{IsSpelled}
use Rattle.p21_rows.proofs.RowLemmas.{known_record, named_all, named_more, named_none}
use Rattle.p21_rows.proofs.instances.entity_names.Goals as goal

pub loop-position-init : goal.loop-position-init
loop-position-init c = named_none c.args.records.now (string_bytes c.new-names.result) c.new-names.ensures.bytes

pub entity_of-entity-requires : goal.entity_of-entity-requires
entity_of-entity-requires c =
    let r = c.index-records-position.result in
    subst (λ s. IsEntity s r.keyword.now) (sym c.schema.ensures) (known_record c.args.terms.now c.args.records.now c.loop-position.position r c.requires c.loop-position-test.true c.index-records-position.is)

pub loop-position-preserved : goal.loop-position-preserved
loop-position-preserved c =
    let r = c.index-records-position.result in
    let e = c.entity_of-entity.result in
    let called : entity_name c.args.terms.now e ≡ r.keyword.now = subst (λ (y : Schema). entity_name y e ≡ r.keyword.now) c.schema.ensures c.entity_of-entity.ensures.1 in
    let spelled : IsSpelled c.entity.result.now r.keyword.now = subst (λ (n : List ℕ). IsSpelled c.entity.result.now n) called c.entity.ensures in
    named_more c.args.records.now (string_bytes c.loop-position.names) (string_bytes c.push_name.new.names) c.entity.result.now c.loop-position.position r
    c.loop-position-test.true c.index-records-position.is spelled c.in_ok-push_name.ensures.first c.in_ok-push_name.ensures.next c.loop-position.invariant

pub returns : goal.returns
returns c = named_all c.args.records.now (string_bytes c.loop-position.names) c.loop-position.position c.loop-position-test.false c.loop-position.invariant
