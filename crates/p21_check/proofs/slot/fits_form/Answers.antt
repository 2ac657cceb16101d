use Rattle.std.proofs.Common.{subst}
use Rattle.p21_schema.specs.declared.declarations.Form.{Form as Coded}
use Rattle.p21_schema.specs.Declaration.{IsResolvedForm}
use Rattle.p21_check.proofs.SlotLemmas.{explicit_form}
use Rattle.p21_check.proofs.slot.fits_form.Goals as goal

pub is_element-requires-clause-known : goal.is_element-requires-clause-known
is_element-requires-clause-known c =
    let f = c.requires.form in
    let x = explicit_form c.args.schema.now c.in-Explicit.optional c.in-Explicit.texpr f.0 (subst (λ (g : Coded). IsResolvedForm c.args.schema.now g f.0) c.in-Explicit.is f.1) in
    (x.0, x.2)
