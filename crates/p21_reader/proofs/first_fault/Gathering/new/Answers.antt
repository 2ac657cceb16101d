use Rattle.std.proofs.Common.{[], sym, subst}
use Rattle.p21_join.specs.Model.{plain_instances}
use Rattle.p21_reader.specs.Values.{HaveInstances}
use Rattle.p21_reader.proofs.FirstFaultLemmas.{none_gathered}
use Rattle.p21_reader.proofs.first_fault.Gathering.new.Goals as goal

pub returns : goal.returns
returns c = (subst (λ is. HaveInstances [] (plain_instances is)) (sym c.with_key.ensures) none_gathered.0, c.new.ensures.items)
