use Rattle.std.proofs.Common.{◌≡◌, ◌∙◌, ◌+◌, [], refl, sym, ap, arith, map, take, drop}
use Rattle.std.specs.Prelude.{vec_len}
use Rattle.std.proofs.lemmas.Bool.Decides.{nat_tests}
use Rattle.std.proofs.lemmas.List.{take_all}
use Rattle.std.proofs.lemmas.Option.{slice_get_within}
use Rattle.p21_express.specs.Again.{plain_again}
use Rattle.p21_express.specs.Plain.{plain_schema, plain_entity}
use Rattle.p21_express.specs.WellFormed.{redeclarations}
use Rattle.p21_express.proofs.AgainLemmas.{any_default}
use Rattle.p21_express.proofs.NewNameLemmas.{origins_none}
use Rattle.p21_express.proofs.SearchLemmas.{none_given, is_empty}
use Rattle.p21_express.proofs.RedeclarationLemmas.{redeclares_none, redeclares, not_again, again_twice, origins_step, origins_start, split_at}
use Rattle.p21_express.proofs.checks.redeclared.entity.Goals as goal

pub returns-then-is_empty : goal.returns-then-is_empty
returns-then-is_empty c =
    let n : vec_len c.in_ok-all.all ≡ 0 = grind (arith, nat_tests, c.if-is_empty.ensures) in
    let none : c.in_ok-all.all.items ≡ [] = is_empty c.in_ok-all.all.items (sym c.in_ok-all.all.ok.0 ∙ n) in
    redeclares_none (plain_schema c.args.known.now.declarations.now) (plain_entity c.args.decl.now) (sym c.in_ok-all.ensures ∙ ap (map plain_again) none)

pub origin_of-requires-clause-position : goal.origin_of-requires-clause-position
origin_of-requires-clause-position c = slice_get_within (plain_schema c.args.known.now.declarations.now).entities c.args.position (plain_entity c.args.decl.now) c.requires.decl

pub loop-again-init : goal.loop-again-init
loop-again-init c = ([], origins_start (plain_schema c.args.known.now.declarations.now) c.args.decl.now.name.items, origins_none (plain_schema c.args.known.now.declarations.now) c.new-origins.result c.new-origins.ensures.empty)

pub returns-in_default : goal.returns-in_default
returns-in_default c = (refl, not_again (plain_schema c.args.known.now.declarations.now) (plain_entity c.args.decl.now) (map plain_again (take c.loop-again.again-index c.deref-again-items.result.now)) _ (map plain_again (drop (c.loop-again.again-index + 1) c.deref-again-items.result.now)) (let e0 : map plain_again c.deref-again-items.result.now ≡ redeclarations (plain_entity c.args.decl.now) = rw c.deref-again-items.ensures.value c.in_ok-all.ensures in sym e0 ∙ split_at plain_again c.deref-again-items.result.now c.loop-again.again-index _ c.loop-again-test.true (any_default c.deref-again-items.result.now c.loop-again.again-index _ _ c.loop-again-test.true)) (none_given c.origin_of.result _ _ c.in_default.not-Some (c.origin_of.ensures c.args.decl.now.name.items (record { entity = plain_entity c.args.decl.now; there = c.requires.decl; name_is = refl }))))

pub returns-then-is_again : goal.returns-then-is_again
returns-then-is_again c =
    let found = (c.in-Some.ensures c.args.decl.now.name.items (record { entity = plain_entity c.args.decl.now; there = c.requires.decl; name_is = refl })) in
    let among = rw c.if-is_again.true at (c.in_ok-is_again.ensures (plain_schema c.args.known.now.declarations.now) c.loop-again.invariant.0 found.name c.requires.index.distinct found.at c.loop-again.invariant.2) in
    (refl, again_twice (plain_schema c.args.known.now.declarations.now) (plain_entity c.args.decl.now) (map plain_again (take c.loop-again.again-index c.deref-again-items.result.now)) _ (map plain_again (drop (c.loop-again.again-index + 1) c.deref-again-items.result.now)) c.loop-again.invariant.0 found.name (let e0 : map plain_again c.deref-again-items.result.now ≡ redeclarations (plain_entity c.args.decl.now) = rw c.deref-again-items.ensures.value c.in_ok-all.ensures in sym e0 ∙ split_at plain_again c.deref-again-items.result.now c.loop-again.again-index _ c.loop-again-test.true (any_default c.deref-again-items.result.now c.loop-again.again-index _ _ c.loop-again-test.true)) c.loop-again.invariant.1 found.again among)

pub loop-again-preserved : goal.loop-again-preserved
loop-again-preserved c =
    let found = (c.in-Some.ensures c.args.decl.now.name.items (record { entity = plain_entity c.args.decl.now; there = c.requires.decl; name_is = refl })) in
    let fresh = rw c.if-is_again.false at (c.in_ok-is_again.ensures (plain_schema c.args.known.now.declarations.now) c.loop-again.invariant.0 found.name c.requires.index.distinct found.at c.loop-again.invariant.2) in
    (_, origins_step (plain_schema c.args.known.now.declarations.now) c.args.decl.now.name.items c.deref-again-items.result.now c.loop-again.again-index _ c.loop-again.invariant.0 found.name c.loop-again-test.true (any_default c.deref-again-items.result.now c.loop-again.again-index _ _ c.loop-again-test.true) c.loop-again.invariant.1 found.again fresh.0, fresh.1)

pub returns : goal.returns
returns c = redeclares (plain_schema c.args.known.now.declarations.now) (plain_entity c.args.decl.now) (map plain_again c.deref-again-items.result.now) c.loop-again.invariant.0 (rw c.deref-again-items.ensures.value c.in_ok-all.ensures) (rw (take_all c.loop-again.again-index c.deref-again-items.result.now c.loop-again-test.false) at c.loop-again.invariant.1)
