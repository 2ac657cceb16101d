use Rattle.std.proofs.Common.{[], ◌∷◌}
use Rattle.std.specs.Prelude.{codes, decimal}
use Rattle.p21_rule_run.specs.FaultLine.{behind_entity}
use Rattle.p21_rule_run.proofs.TextLemmas.{all_behind}
use Rattle.p21_rule_run.proofs.fault_text.push_inverse_count.Goals as goal

pub returns : goal.returns
returns c =
    let fault = c.args.fault.now in
    all_behind c.args.text.now.items (codes "fault 17 InverseCount at ") (decimal fault.at) (codes " inverse ") (behind_entity c.args.schema.now c.args.entity c.args.name.now) (codes " count ") (decimal fault.count) (10 ∷ []) _ _ _ _ _ _ c.push.new.self.items
    c.in_ok-extend_from_slice.ensures.items c.in_ok-push_number.ensures c.in_ok-extend_from_slice-2.ensures.items c.in_ok-push_name.ensures c.in_ok-extend_from_slice-3.ensures.items c.in_ok-push_number-2.ensures c.in_ok-push.ensures.items
