use Rattle.std.proofs.Common.{sym}
use Rattle.p21_express.proofs.checks.cycles.types_under.Goals as goal

pub returns-in-Select : goal.returns-in-Select
returns-in-Select c = rw (c.in-Select.is, sym c.deref.ensures.value) c.selects_among.ensures

pub returns-in-Plain : goal.returns-in-Plain
returns-in-Plain c = rw c.in-Plain.is c.type_alone.ensures
