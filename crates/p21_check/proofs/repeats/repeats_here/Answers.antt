use Rattle.std.proofs.Common.{◌≡◌, ◌↔◌, Bool, true, sym, IsTrue, ◌∙◌}
use Rattle.p21_check.proofs.Tests.{each_true, each_false}
use Rattle.p21_check.proofs.repeats.repeats_here.Goals as goal

-- a test that has the value of another
told : {a b : Bool} → a ≡ b → IsTrue a ↔ (b ≡ true)
told e = (λ h. sym e ∙ h, λ h. e ∙ h)

pub returns-then-is_unique : goal.returns-then-is_unique
returns-then-is_unique c = each_true c.if-is_unique.true (told c.is_unique.ensures) c.repeats_name.ensures

pub returns-else-is_unique : goal.returns-else-is_unique
returns-else-is_unique c = each_false c.if-is_unique.false (told c.is_unique.ensures)
