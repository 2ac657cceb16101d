-- The model that a handle leads to.
use Rattle.std.proofs.Common.{◌≡◌, ap, sym, ◌∙◌}
use Rattle.p21_c.specs.declared.held.Held.{Held}
use Rattle.p21_c.specs.declared.held.Held.TheVariants.{Schema, Model, Rules, Mended, Nothing}
use Rattle.p21_c.specs.declared.held.HeldModel.{HeldModel}

abbrev model_or : HeldModel → Held → HeldModel
model_or d (Schema s) = d
model_or d (Model m) = m
model_or d (Rules r) = d
model_or d (Mended t) = d
model_or d Nothing = d

-- there is one at most
pub one_model : (h : Held) (a b : HeldModel) → h ≡ Model a → h ≡ Model b → a ≡ b
one_model h a b e f = ap (λ (x : Held). model_or a x) (sym e ∙ f)
