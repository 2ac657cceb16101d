use Rattle.std.proofs.Common.{◌<◌, length, ◌≡◌, get_or, map, sym, ap, subst, ◌∙◌}
use Rattle.std.proofs.lemmas.List.{length-map, get_or-map}
use Rattle.p21_express.specs.Schema.{Defined}
use Rattle.p21_express.specs.Plain.{plain_type}
use Rattle.p21_express.specs.WellFormed.{IsIn}
use Rattle.p21_graph.specs.Graph.{plain_graph}
use Rattle.p21_graph.specs.MemberLaws.{at_place, in_map}
use Rattle.p21_graph.specs.GraphLaws.{rows_push}
use Rattle.p21_schema.specs.Place.{no_type}
use Rattle.p21_schema.specs.Under.{IsOtherRow}
use Rattle.p21_schema.proofs.UnderLemmas.{others_push}
use Rattle.p21_schema.proofs.under.others.Goals as goal

pub other_row-requires : goal.other_row-requires
other_row-requires c =
    let all = map plain_type c.args.decls.now in
    let k = c.loop-decl.decl-index in
    let less : k < length all = rw (length-map c.args.decls.now plain_type) c.loop-decl-test.true in
    let e : get_or all k no_type ≡ plain_type c.decl-item.result = get_or-map plain_type c.args.decls.now k c.decl-item.result no_type c.loop-decl-test.true ∙ ap plain_type (sym c.decl-item.is) in
    λ n. c.requires (plain_type c.decl-item.result).under n (in_map (λ (t : Defined). t.under) all (plain_type c.decl-item.result) (subst (λ (u : Defined). IsIn all u) e (at_place all k no_type less)))

pub loop-decl-preserved : goal.loop-decl-preserved
loop-decl-preserved c =
    let all = map plain_type c.args.decls.now in
    let k = c.loop-decl.decl-index in
    let one = c.in_ok-other_row.field-0 in
    let less : k < length all = rw (length-map c.args.decls.now plain_type) c.loop-decl-test.true in
    let e : get_or all k no_type ≡ plain_type c.decl-item.result = get_or-map plain_type c.args.decls.now k c.decl-item.result no_type c.loop-decl-test.true ∙ ap plain_type (sym c.decl-item.is) in
    let this : IsOtherRow c.args.types.now one.items (get_or all k no_type).under = subst (λ (u : Defined). IsOtherRow c.args.types.now one.items u.under) (sym e) c.in_ok-other_row.ensures in
    rw (rows_push c.loop-decl.graph c.push.new.self one c.in_ok-push.ensures.items) (others_push c.args.types.now (plain_graph c.loop-decl.graph) all one.items k less c.loop-decl.invariant this)
