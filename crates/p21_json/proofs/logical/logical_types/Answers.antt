use Rattle.std.proofs.Common.{◌∙◌}
use Rattle.p21_json.proofs.FlagLemmas.{are_logical}
use Rattle.p21_json.proofs.logical.logical_types.Goals as goal

pub returns : goal.returns
returns c =
    let done = c.flag_next.ensures in
    are_logical c.args.schema.now c.flag_next.new.flags.items c.one_id.ensures.types (done.count ∙ c.loop-types.invariant.0) done.sound (done.closed c.loop-types-test.false)
