use Rattle.std.proofs.Common.{sym, ap}
use Rattle.p21_check.specs.Repeats.{name_in}
use Rattle.p21_check.proofs.PlainLemmas.{plain_reference}
use Rattle.p21_check.proofs.RepeatedNameLemmas.{no_name}
use Rattle.p21_check.proofs.repeated_names.name_of.Goals as goal

pub returns-in-Ref : goal.returns-in-Ref
returns-in-Ref c = sym (ap name_in (plain_reference c.in-Ref.name c.in-Ref.is))

pub returns-in_default : goal.returns-in_default
returns-in_default c = no_name c.args.element.now c.in_default.not-Ref
