-- The form of a declaration, and that which the code has.
use Rattle.std.proofs.Common.{◌≡◌, Bool, true, refl}
use Rattle.p21_express.specs.Schema.{Schema}
use Rattle.p21_schema.specs.Declaration.{Form, IsResolvedForm, derived, explicit, is_explicit}
use Rattle.p21_schema.specs.declared.declarations.Form.TheVariants as coded
use Rattle.p21_schema.specs.declared.resolved.ResolvedExpr.{ResolvedExpr}

pub derived_form : (s : Schema) (f : Form) → IsResolvedForm s coded.Derived f → f ≡ derived
derived_form s derived h = refl
derived_form s (explicit o e) h = absurd h

pub explicit_form : (s : Schema) (o : Bool) (x : ResolvedExpr) (f : Form) → IsResolvedForm s (coded.Explicit o x) f → ¬ (f ≡ derived)
explicit_form s o x derived h e = h
explicit_form s o x (explicit p y) h e = absurd (cc)

pub explicit_is : (s : Schema) (o : Bool) (x : ResolvedExpr) (f : Form) → IsResolvedForm s (coded.Explicit o x) f → is_explicit f ≡ true
explicit_is s o x derived h = absurd h
explicit_is s o x (explicit p y) h = refl
