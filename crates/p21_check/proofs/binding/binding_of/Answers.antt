use Rattle.std.proofs.Common.{List, get_or, sym, subst, take}
use Rattle.std.proofs.lemmas.List.{take_more}
use Rattle.p21_schema.specs.Declaration.{Declaration}
use Rattle.p21_check.specs.Bound.{IsBound}
use Rattle.p21_check.specs.Sets.{HasEntity}
use Rattle.p21_check.proofs.SlotLemmas.{no_declaration, resolved_at, below, whole}
use Rattle.p21_check.proofs.binding.binding_of.Goals as goal

pub with_next-so_far-requires-clause-so_far : goal.with_next-so_far-requires-clause-so_far
with_next-so_far-requires-clause-so_far c = let r = c.requires.declarations in (take c.loop-declaration.declaration-index r.0, c.loop-declaration.invariant r.0 r.1)

pub with_next-so_far-requires-clause-next : goal.with_next-so_far-requires-clause-next
with_next-so_far-requires-clause-next c =
    let r = c.requires.declarations in
    let i = c.loop-declaration.declaration-index in
    (get_or r.0 i no_declaration, resolved_at c.args.schema.now c.args.declarations.now r.0 r.1 i c.declaration-item.result c.loop-declaration-test.true c.declaration-item.is)

pub loop-declaration-preserved : goal.loop-declaration-preserved
loop-declaration-preserved c ds all =
    let s = c.args.schema.now in
    let cs = c.args.declarations.now in
    let i = c.loop-declaration.declaration-index in
    let x = c.declaration-item.result in
    let at = resolved_at s cs ds all i x c.loop-declaration-test.true c.declaration-item.is in
    subst (λ (l : List Declaration). IsBound s (HasEntity s c.args.set.now) l c.with_next-so_far.result) (sym (take_more ds i no_declaration (below s cs ds all i x c.loop-declaration-test.true c.declaration-item.is)))
    (c.with_next-so_far.ensures (take i ds) (get_or ds i no_declaration) (c.loop-declaration.invariant ds all) at)

pub returns : goal.returns
returns c ds all =
    let s = c.args.schema.now in
    subst (λ (l : List Declaration). IsBound s (HasEntity s c.args.set.now) l c.loop-declaration.so_far) (whole s c.args.declarations.now ds all c.loop-declaration.declaration-index c.loop-declaration-test.false) (c.loop-declaration.invariant ds all)
