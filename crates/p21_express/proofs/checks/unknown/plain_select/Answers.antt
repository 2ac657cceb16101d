use Rattle.std.proofs.Common.{◌≡◌, Some, sym}
use Rattle.p21_express.specs.Checks.{lone_name}
use Rattle.p21_express.specs.Plain.{plain_expr}
use Rattle.p21_express.specs.SchemaFault.{IsNoSelectAlone}
use Rattle.p21_express.specs.WellFormed.{IsSelect}
use Rattle.p21_express.proofs.ChecksLemmas.{finds_same}
use Rattle.p21_express.proofs.UnknownLemmas.{lone_select, select_lone}
use Rattle.p21_express.proofs.checks.unknown.plain_select.Goals as goal

pub returns-in-Some : goal.returns-in-Some
returns-in-Some c = λ s exact.
    let e = plain_expr c.args.texpr.now in
    let n = c.in-Some.name.now.items in
    let is : lone_name e ≡ Some n = sym c.in-Some.ensures in
    finds_same (¬ (IsSelect s n)) (IsNoSelectAlone s e) c.args.first.now.found c.no_select.new.first.found (lone_select s e n is) (select_lone s e n is) (rw c.deref.ensures.value at (c.no_select.ensures s exact))
