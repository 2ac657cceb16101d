use Rattle.std.proofs.Common.{subst}
use Rattle.p21_express.specs.Index.{Declares}
use Rattle.p21_express.specs.WellFormed.{IsSelect}
use Rattle.p21_express.proofs.ChecksLemmas.{finds_none, finds_some}
use Rattle.p21_express.proofs.UnknownLemmas.{at_entity, at_select, at_type, is_select, entity_no_select, type_no_select, none_no_select}
use Rattle.p21_express.proofs.checks.unknown.no_select.Goals as goal

pub returns-in-Some-Entity : goal.returns-in-Some-Entity
returns-in-Some-Entity c = λ s exact.
    let n = c.args.name.now in
    let there = at_entity s n c.declared_by.result c.in-Some-Entity.field-0 c.in-Some-Entity.field-0-0 c.in-Some-Entity.is c.in-Some-Entity.field-0-is (c.declared_by.ensures s exact.index_is) in
    finds_none (¬ (IsSelect s n)) c.args.first.now.found (entity_no_select s c.in-Some-Entity.field-0-0 n exact.distinct there)

pub returns-in-Some-Select : goal.returns-in-Some-Select
returns-in-Some-Select c = λ s exact.
    let n = c.args.name.now in
    let there = at_select s n c.declared_by.result c.in-Some-Select.field-0 c.in-Some-Select.field-0-0 c.in-Some-Select.is c.in-Some-Select.field-0-is (c.declared_by.ensures s exact.index_is) in
    finds_some (¬ (IsSelect s n)) c.args.first.now.found c.meet.new.self.found (λ h. h (is_select s c.in-Some-Select.field-0-0 n there)) c.meet.ensures

pub returns-in-Some-Type : goal.returns-in-Some-Type
returns-in-Some-Type c = λ s exact.
    let n = c.args.name.now in
    let there = at_type s n c.declared_by.result c.in-Some-Type.field-0 c.in-Some-Type.field-0-0 c.in-Some-Type.is c.in-Some-Type.field-0-is (c.declared_by.ensures s exact.index_is) in
    finds_none (¬ (IsSelect s n)) c.args.first.now.found (type_no_select s c.in-Some-Type.field-0-0 n exact.distinct there)

pub returns-in-None : goal.returns-in-None
returns-in-None c = λ s exact.
    let n = c.args.name.now in
    let none = subst (Declares s n) c.in-None.is (c.declared_by.ensures s exact.index_is) in
    finds_none (¬ (IsSelect s n)) c.args.first.now.found (none_no_select s n none.1)
