use Rattle.std.proofs.Common.{ℕ, get_or, sym, subst}
use Rattle.p21_schema.specs.Declaration.{IsResolvedDeclaration}
use Rattle.p21_schema.specs.declared.declarations.Declaration.{Declaration as Coded}
use Rattle.p21_tree.specs.Plain.{plain}
use Rattle.p21_rules.specs.Slots.{MeansCounting, no_declaration, set_of}
use Rattle.p21_rules.proofs.DeclarationLemmas.{resolved_at}
use Rattle.p21_rules.proofs.slots.agrees_at.Goals as goal

pub agrees-requires-clause-declaration : goal.agrees-requires-clause-declaration
agrees-requires-clause-declaration c =
    let s = c.args.slot.schema.now in
    let r = c.requires.slot in
    let d = get_or r.declarations c.args.place no_declaration in
    (d, subst (λ (u : Coded). IsResolvedDeclaration s u d) c.index-slot-place.is (resolved_at s c.args.slot.declarations.now r.declarations r.resolved c.args.place c.index-slot-place.result c.requires.place c.index-slot-place.is))

pub returns-then-place-known : goal.returns-then-place-known
returns-then-place-known c = λ ds v z e m. subst (λ (k : ℕ). MeansCounting c.args.slot.schema.now (set_of c.args.slot) ds (plain c.args.param.now) v (get_or ds k no_declaration)) (sym c.if-place-known.true) m

pub returns : goal.returns
returns c = λ ds v z e m.
    let s = c.args.slot.schema.now in
    let d = get_or ds c.args.place no_declaration in
    c.agrees.ensures ds d v z (subst (λ (u : Coded). IsResolvedDeclaration s u d) c.index-slot-place.is (resolved_at s c.args.slot.declarations.now ds z c.args.place c.index-slot-place.result c.requires.place c.index-slot-place.is)) e
