use Rattle.std.proofs.Common.{◌-◌}
use Rattle.p21_schema.specs.RowTable.{kept, all_kept, ids_from}
use Rattle.p21_schema.proofs.DraftLemmas.{made_next, own_more}
use Rattle.p21_schema.proofs.draft.Draft.keep_own.Goals as goal

pub loop-index-preserved : goal.loop-index-preserved
loop-index-preserved c =
    let from = c.args.own.from in
    let i = c.loop-index.index in
    let row = c.args.self.now.ids.items in
    made_next _ _ (all_kept row (ids_from from (i - from))) _ (λ r. kept r (record { index = i })) c.loop-index.self c.keep.new.self c.loop-index.invariant c.in_ok-keep.ensures (own_more row from i c.loop-index.auto.index)
