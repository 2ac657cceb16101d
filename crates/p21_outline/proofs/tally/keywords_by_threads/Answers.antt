use denote.Param.Send.{sendable}
use Rattle.std.proofs.Common.{◌≡◌, ◌*◌, ◌<◌, ◌≤◌, IfOk, Ok, ap, length, subst, sym, take, ◌∙◌, arith}
use Rattle.std.specs.Prelude.{slice_index_or}
use Rattle.std.proofs.Crossing.{crosses}
use Rattle.std.specs.Fork.{slice_chunk}
use Rattle.std.proofs.lemmas.List.{take_all}
use Rattle.p21_counts.specs.Counts.{keywords_of}
use Rattle.p21_counts.specs.Tally.{CountsOf}
use Rattle.p21_join.specs.Model.{plain_instances}
use Rattle.p21_schema.proofs.Crossing.{Schema-sync}
use Rattle.p21_outline.specs.Outline.{outlined_instances}
use Rattle.p21_outline.proofs.Crossing.{Outline-sync}
use Rattle.p21_outline.proofs.TallyLemmas.{all_parts, before_first, part_more}
use Rattle.p21_outline.proofs.tally.keywords_by_threads.Goals as goal

pub map_indices-requires-sync-F : goal.map_indices-requires-sync-F
map_indices-requires-sync-F g c κs within = search (sendable, crosses, Schema-sync, Outline-sync) depth 40

pub loop-part-init : goal.loop-part-init
loop-part-init g c = subst (λ is. CountsOf c.no_keywords-keywords.result (keywords_of (plain_instances is))) (before_first (outlined_instances c.args.counted.outline.now) c.max-size.result) c.no_keywords-keywords.ensures

pub loop-part-preserved : goal.loop-part-preserved
loop-part-preserved g c =
    let is = outlined_instances c.args.counted.outline.now in
    let k = c.loop-part.part-index in
    let size = c.max-size.result in
    let r = c.part-item.result in
    let long : length c.as_slice-part-items.result.now ≡ c.div_ceil-2.result = c.as_slice-part-items.ensures.len ∙ c.in_ok-parts.ensures.len in
    let inside : k < c.div_ceil-2.result = subst (λ n. k < n) long c.loop-part-test.true in
    let each = (c.in_ok-parts.ensures.each k r inside).1 in
    let met : slice_index_or c.in_ok-parts.parts.items k r ≡ Ok c.in-Ok.part = ap (λ l. slice_index_or l k r) (sym c.as_slice-part-items.ensures.value) ∙ (sym c.part-item.is ∙ c.in-Ok.is) in
    let counted : CountsOf c.in-Ok.part (keywords_of (plain_instances (slice_chunk is size k))) = subst (λ x. IfOk x (λ keywords. CountsOf keywords (keywords_of (plain_instances (slice_chunk is size k))))) met each.met in
    subst (CountsOf c.add_keywords.new.keywords) (part_more is k size)
    (c.in_ok-add_keywords-in-Ok.ensures (keywords_of (plain_instances (take (k * size) is))) (keywords_of (plain_instances (slice_chunk is size k))) c.loop-part.invariant counted)

pub returns : goal.returns
returns g c =
    let is = outlined_instances c.args.counted.outline.now in
    let k = c.loop-part.part-index in
    let size = c.max-size.result in
    let long : length c.as_slice-part-items.result.now ≡ c.div_ceil-2.result = c.as_slice-part-items.ensures.len ∙ c.in_ok-parts.ensures.len in
    let count : k ≡ c.div_ceil-2.result = omega arith in
    let positive : 0 < size = omega arith in
    let whole : c.len-len.result ≤ k * size = all_parts c.len-len.result size c.div_ceil-2.result k positive c.div_ceil-2.ensures count in
    let all : length is ≤ k * size = subst (λ n. n ≤ k * size) c.len-len.ensures whole in
    subst (λ l. CountsOf c.loop-part.keywords (keywords_of (plain_instances l))) (take_all (k * size) is all) c.loop-part.invariant
