use Rattle.std.proofs.Common.{◌⊎◌, subst}
use Rattle.p21_express.specs.Index.{Declares}
use Rattle.p21_express.specs.WellFormed.{IsEntity, IsType}
use Rattle.p21_express.proofs.ChecksLemmas.{finds_none, finds_some}
use Rattle.p21_express.proofs.UnknownLemmas.{is_known, not_known}
use Rattle.p21_express.proofs.checks.unknown.known.Goals as goal

pub returns-in-Some : goal.returns-in-Some
returns-in-Some c = λ s exact.
    let n = c.args.name.now in
    finds_none (IsEntity s n ⊎ IsType s n) c.args.first.now.found (is_known s n c.in-Some.field-0 (subst (Declares s n) c.in-Some.is (c.declared_by.ensures s exact.index_is)))

pub returns-in-None : goal.returns-in-None
returns-in-None c = λ s exact.
    let n = c.args.name.now in
    finds_some (IsEntity s n ⊎ IsType s n) c.args.first.now.found c.meet.new.self.found (not_known s n (subst (Declares s n) c.in-None.is (c.declared_by.ensures s exact.index_is))) c.meet.ensures
