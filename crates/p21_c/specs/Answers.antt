-- What a call answers of a model.
use Rattle.std.specs.Prelude.{◌≡◌, ℤ}
use Rattle.p21_c.specs.declared.held.Held.{Held}
use Rattle.p21_c.specs.declared.held.Held.TheVariants.{Model}
use Rattle.p21_c.specs.declared.held.HeldModel.{HeldModel}

-- where a call answers this code, this holds of the model that the handle leads to
abbrev pub OnModel : ℤ → ℤ → Held → (HeldModel → Type 0) → Type 0
OnModel code answer held P = answer ≡ code → (m : HeldModel) → held ≡ Model m → P m
