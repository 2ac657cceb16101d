use Rattle.std.proofs.Common.{sym, subst, ◌∙◌}
use Rattle.p21_express.specs.Index.{Declares}
use Rattle.p21_express.proofs.checks.names.declared_by.Goals as goal

pub returns : goal.returns
returns c = λ s index. subst (Declares s c.args.name.now) (sym (c.copied.ensures ∙ c.get.ensures.value)) (index c.args.name)
