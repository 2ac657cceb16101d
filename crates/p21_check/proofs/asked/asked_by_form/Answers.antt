use Rattle.std.proofs.Common.{subst}
use Rattle.p21_schema.specs.declared.declarations.Form.{Form as Coded}
use Rattle.p21_schema.specs.Declaration.{IsResolvedForm}
use Rattle.p21_check.proofs.SlotLemmas.{explicit_form}
use Rattle.p21_check.proofs.AskedLemmas.{explicit_asks}
use Rattle.p21_check.proofs.asked.asked_by_form.Goals as goal

pub wanted_by-requires : goal.wanted_by-requires
wanted_by-requires c =
    let s = c.args.schema.now in
    let known = c.requires.form in
    let found = explicit_form s c.in-Explicit.optional c.in-Explicit.texpr known.0 (subst (λ (f : Coded). IsResolvedForm s f known.0) c.in-Explicit.is known.1) in
    (found.0, found.2)

pub returns-in-Explicit : goal.returns-in-Explicit
returns-in-Explicit c f is =
    let s = c.args.schema.now in
    let found = explicit_form s c.in-Explicit.optional c.in-Explicit.texpr f (subst (λ (g : Coded). IsResolvedForm s g f) c.in-Explicit.is is) in
    explicit_asks s f c.in-Explicit.optional found.0 c.wanted_by.result found.1 (c.wanted_by.ensures found.0 found.2)
