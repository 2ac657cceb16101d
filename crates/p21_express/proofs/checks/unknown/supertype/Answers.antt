use Rattle.p21_express.specs.WellFormed.{IsEntity}
use Rattle.p21_express.proofs.ChecksLemmas.{finds_none, finds_some}
use Rattle.p21_express.proofs.UnknownLemmas.{at_entity, at_select, at_type, is_entity, select_no_entity, type_no_entity}
use Rattle.p21_express.proofs.checks.unknown.supertype.Goals as goal

pub returns-in-Some-Entity : goal.returns-in-Some-Entity
returns-in-Some-Entity c = λ s exact.
    let n = c.args.name.now in
    let there = at_entity s n c.declared_by.result c.in-Some-Entity.field-0 c.in-Some-Entity.field-0-0 c.in-Some-Entity.is c.in-Some-Entity.field-0-is (c.declared_by.ensures s exact.index_is) in
    finds_none (IsEntity s n) c.args.first.now.found (is_entity s c.in-Some-Entity.field-0-0 n there)

pub returns-in-Some-Select : goal.returns-in-Some-Select
returns-in-Some-Select c = λ s exact.
    let n = c.args.name.now in
    let there = at_select s n c.declared_by.result c.in-Some-Select.field-0 c.in-Some-Select.field-0-0 c.in-Some-Select.is c.in-Some-Select.field-0-is (c.declared_by.ensures s exact.index_is) in
    finds_some (IsEntity s n) c.args.first.now.found c.meet.new.self.found (select_no_entity s c.in-Some-Select.field-0-0 n exact.distinct there) c.meet.ensures

pub returns-in-Some-Type : goal.returns-in-Some-Type
returns-in-Some-Type c = λ s exact.
    let n = c.args.name.now in
    let there = at_type s n c.declared_by.result c.in-Some-Type.field-0 c.in-Some-Type.field-0-0 c.in-Some-Type.is c.in-Some-Type.field-0-is (c.declared_by.ensures s exact.index_is) in
    finds_some (IsEntity s n) c.args.first.now.found c.meet-in-Some-Type.new.self.found (type_no_entity s c.in-Some-Type.field-0-0 n exact.distinct there) c.meet-in-Some-Type.ensures
