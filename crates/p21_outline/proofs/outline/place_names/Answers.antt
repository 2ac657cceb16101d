use Rattle.std.proofs.Common.{rules, ◌≡◌, ◌+◌, ◌++◌, ◌<◌, ◌≤◌, Ok, true, false, length, get_or, ap, subst, ◌∙◌, arith}
use Rattle.std.proofs.lemmas.List.{length-map, take_all}
use Rattle.p21_join.specs.InstancePlaces.{InsertsPlace}
use Rattle.p21_outline.specs.declared.outline_list.PlacedName.{PlacedName}
use Rattle.p21_outline.specs.Placed.{IsPlaced}
use Rattle.p21_outline.specs.PlacedName.{placed_name}
use Rattle.p21_outline.proofs.NameLemmas.{found_repeated, named_at, placed_next}
use Rattle.p21_outline.proofs.outline.place_names.Goals as goal

pub returns-then-not-branch : goal.returns-then-not-branch
returns-then-not-branch c is js from same before =
    let t = c.loop-index.places in
    let u = c.insert.new.self in
    let k = c.loop-index.index in
    let place = c.in_ok-place.place in
    let none : PlacedName = record { name = 0; at = 0 } in
    let less : k < length js = omega (arith, c.loop-index-test.true, ap length same, length-map js placed_name) in
    let at = named_at c.args.names.now js k none same less in
    let found = subst (λ r. InsertsPlace t (get_or c.args.names.now k none).name place r u) (c.in_ok-insert.was ∙ ap Ok c.if-not-branch.true) c.insert.ensures in
    found_repeated t u is js k place at.0 (c.loop-index.invariant is js from same before) less at.1 (subst (λ n. InsertsPlace t n place (Ok false) u) at.2 found)

pub loop-index-preserved : goal.loop-index-preserved
loop-index-preserved c is js from same before =
    let t = c.loop-index.places in
    let u = c.insert.new.self in
    let k = c.loop-index.index in
    let place = c.in_ok-place.place in
    let none : PlacedName = record { name = 0; at = 0 } in
    let less : k < length js = omega (arith, c.loop-index-test.true, ap length same, length-map js placed_name) in
    let behind : place ≡ c.args.from + k = search rules in
    let at = named_at c.args.names.now js k none same less in
    let added = subst (λ r. InsertsPlace t (get_or c.args.names.now k none).name place r u) (c.in_ok-insert.was ∙ ap Ok c.if-not-branch.false) c.insert.ensures in
    placed_next t u is js k place at.0 (c.loop-index.invariant is js from same before) (behind ∙ ap (λ n. n + k) from) less at.1 (subst (λ n. InsertsPlace t n place (Ok true) u) at.2 added)

pub returns : goal.returns
returns c is js from same before =
    let all : length js ≤ c.loop-index.index = omega (arith, c.loop-index-test.false, ap length same, length-map js placed_name) in
    subst (λ l. IsPlaced c.loop-index.places (is ++ l)) (take_all c.loop-index.index js all) (c.loop-index.invariant is js from same before)
