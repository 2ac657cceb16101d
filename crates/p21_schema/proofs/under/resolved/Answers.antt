use Rattle.std.proofs.Common.{◌<◌, length, ◌≡◌, get_or, map, sym, ap, subst, ◌∙◌}
use Rattle.std.proofs.lemmas.List.{length-map, get_or-map}
use Rattle.p21_express.specs.Schema.{Defined}
use Rattle.p21_express.specs.Plain.{plain_type}
use Rattle.p21_express.specs.WellFormed.{IsIn}
use Rattle.p21_graph.specs.MemberLaws.{at_place, in_map}
use Rattle.p21_schema.specs.Place.{no_type}
use Rattle.p21_schema.specs.Under.{IsResolved}
use Rattle.p21_schema.proofs.UnderLemmas.{resolved_push}
use Rattle.p21_schema.proofs.under.resolved.Goals as goal

pub resolve_under-requires : goal.resolve_under-requires
resolve_under-requires c =
    let all = map plain_type c.args.decls.now in
    let k = c.loop-decl.decl-index in
    let less : k < length all = rw (length-map c.args.decls.now plain_type) c.loop-decl-test.true in
    let e : get_or all k no_type ≡ plain_type c.decl-item.result = get_or-map plain_type c.args.decls.now k c.decl-item.result no_type c.loop-decl-test.true ∙ ap plain_type (sym c.decl-item.is) in
    c.requires (plain_type c.decl-item.result).under (in_map (λ (t : Defined). t.under) all (plain_type c.decl-item.result) (subst (λ (u : Defined). IsIn all u) e (at_place all k no_type less)))

pub loop-decl-preserved : goal.loop-decl-preserved
loop-decl-preserved c =
    let all = map plain_type c.args.decls.now in
    let k = c.loop-decl.decl-index in
    let one = c.in_ok-resolve_under.field-0 in
    let less : k < length all = rw (length-map c.args.decls.now plain_type) c.loop-decl-test.true in
    let e : get_or all k no_type ≡ plain_type c.decl-item.result = get_or-map plain_type c.args.decls.now k c.decl-item.result no_type c.loop-decl-test.true ∙ ap plain_type (sym c.decl-item.is) in
    let this : IsResolved c.args.entities.now c.args.types.now one (get_or all k no_type).under = subst (λ (u : Defined). IsResolved c.args.entities.now c.args.types.now one u.under) (sym e) c.in_ok-resolve_under.ensures in
    rw c.in_ok-push.ensures.items (resolved_push c.args.entities.now c.args.types.now c.loop-decl.found.items all one k less c.loop-decl.invariant this)
