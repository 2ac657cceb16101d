use Rattle.std.proofs.Common.{⊎_elim, sym, ◌∙◌}
use Rattle.std.proofs.lemmas.Bool.{false≢true}
use Rattle.p21_express.specs.Schema as type
use Rattle.p21_tree.specs.Plain.{plain}
use Rattle.p21_check.specs.Conforms.{Conforms}
use Rattle.p21_check.proofs.SimpleLemmas.{number_integer, number_real, number_parts}
use Rattle.p21_check.proofs.simple.is_number.Goals as goal

pub returns-then-is_integer : goal.returns-then-is_integer
returns-then-is_integer c = λ s. (λ _. number_integer ((c.is_integer.ensures s).0 c.if-is_integer.true), λ _. c.if-is_integer.true)

pub returns-else-is_integer : goal.returns-else-is_integer
returns-else-is_integer c = λ s. (
  λ h. number_real ((c.is_real.ensures s).0 h),
  λ h. ⊎_elim
      (λ (a : Conforms s type.integer (plain c.args.param.now)). absurd (false≢true (sym c.if-is_integer.false ∙ (c.is_integer.ensures s).1 a)))
      (λ (b : Conforms s type.real (plain c.args.param.now)). (c.is_real.ensures s).1 b)
      (number_parts h),
)
