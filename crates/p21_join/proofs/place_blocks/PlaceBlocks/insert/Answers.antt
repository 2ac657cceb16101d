use Rattle.std.proofs.Common.{◌≡◌, ℕ, ◌/◌, ◌%◌, List, length, Some, ap, set, sym, ◌∙◌, rules}
use Rattle.std.specs.Prelude.{slice_get}
use Rattle.std.specs.Cmp.{nat_eq_equiv}
use Rattle.std.specs.Option.{is_some}
use Rattle.indexmap.specs.IndexMap.{with_value_at}
use Rattle.indexmap.proofs.CallerLemmas.{updates-with_value_at}
use Rattle.p21_join.specs.declared.place_blocks.PlaceBlocks.{PlaceBlocks}
use Rattle.p21_join.proofs.PlaceBlockLemmas.{block_at, block_kept, nothing_for_zero, others_kept, place_by_block, place_written, same_block, something_else}
use Rattle.p21_join.proofs.place_blocks.PlaceBlocks.insert.Goals as goal

-- the numbers of the name's block
there_is : (t : PlaceBlocks) (name at key : ℕ) (numbers : List ℕ) → (found : List ℕ) × (slice_get t.blocks.entries at ≡ Some (name / 16, found)) → slice_get t.blocks.entries at ≡ Some (key, numbers)
    → slice_get t.blocks.entries at ≡ Some (name / 16, numbers)
there_is t name at key numbers found there = there ∙ ap (λ k. Some (k, numbers)) (same_block t (name / 16) at key numbers found there)

pub returns-then-block-within-ne0 : goal.returns-then-block-within-ne0
returns-then-block-within-ne0 c =
    let t = c.block.new.self in
    let name = c.args.name in
    let at = c.in_ok-at.at in
    let numbers = c.pair_mut-block.result.1.now in
    let unique = c.pair_mut-block.ensures.unique in
    let there = there_is t name at _ numbers c.in_ok-at.ensures.found c.pair_mut-block.ensures.value in
    let was = block_at t (name / 16) at numbers unique there in
    let u : PlaceBlocks = record { blocks = with_value_at t.blocks at numbers; latest = t.latest } in
    let updates = updates-with_value_at t.blocks at numbers nat_eq_equiv unique (name / 16) numbers there in
    let some = something_else _ c.if-block-within-ne0.true in
    let old = sym (c.in_ok-at.ensures.places name) ∙ (place_by_block t name numbers was ∙ some.1) in
    (ap is_some old, λ n. block_kept t u (name / 16) numbers was updates n ∙ c.in_ok-at.ensures.places n)

pub returns-in_default : goal.returns-in_default
returns-in_default c =
    let t = c.block.new.self in
    let name = c.args.name in
    let at = c.in_ok-at.at in
    let numbers = c.pair_mut-block.result.1.now in
    let unique = c.pair_mut-block.ensures.unique in
    let there = there_is t name at _ numbers c.in_ok-at.ensures.found c.pair_mut-block.ensures.value in
    let was = block_at t (name / 16) at numbers unique there in
    let u : PlaceBlocks = record { blocks = with_value_at t.blocks at numbers; latest = t.latest } in
    let updates = updates-with_value_at t.blocks at numbers nat_eq_equiv unique (name / 16) numbers there in
    let none = nothing_for_zero _ c.if-block-within-ne0.false in
    let old = sym (c.in_ok-at.ensures.places name) ∙ (place_by_block t name numbers was ∙ none) in
    (old, λ n. block_kept t u (name / 16) numbers was updates n ∙ c.in_ok-at.ensures.places n)

pub returns : goal.returns
returns c =
    let t = c.block.new.self in
    let name = c.args.name in
    let at = c.in_ok-at.at in
    let numbers = c.pair_mut-block.result.1.now in
    let number = c.in-Some.number in
    let unique = c.pair_mut-block.ensures.unique in
    let there = there_is t name at _ numbers c.in_ok-at.ensures.found c.pair_mut-block.ensures.value in
    let was = block_at t (name / 16) at numbers unique there in
    let more = set numbers (name % 16) number in
    let u : PlaceBlocks = record { blocks = with_value_at t.blocks at more; latest = t.latest } in
    let updates = updates-with_value_at t.blocks at more nat_eq_equiv unique (name / 16) numbers there in
    let long : length numbers ≡ 16 = search rules in
    let none = nothing_for_zero _ c.if-block-within-ne0.false in
    let old = sym (c.in_ok-at.ensures.places name) ∙ (place_by_block t name numbers was ∙ none) in
    (old, place_written t u name number numbers long updates ∙ c.in-Some.ensures, λ n other. others_kept t u name number numbers was updates n other ∙ c.in_ok-at.ensures.places n)
