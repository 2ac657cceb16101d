use Rattle.std.proofs.Common.{[], ◌∷◌, ◌++◌, ◌∙◌, ap}
use Rattle.std.specs.Prelude.{codes, decimal, get_or, map}
use Rattle.p21_rule_run.specs.BrokenLine.{rule_broken_text}
use Rattle.p21_rule_run.proofs.TextLemmas.{lines_behind}
use Rattle.p21_rule_run.proofs.broken_text.push_broken_rule.Goals as goal

pub returns : goal.returns
unfolding rule_broken_text
returns c =
    let fault = c.args.broken.now in
    lines_behind c.args.text.now.items (codes "fault 18 RuleBroken at ") (decimal fault.at) (codes " rule ") (get_or (map (λ rule. rule.name.items) c.args.rules.now) fault.rule []) (10 ∷ []) _ _ _ _ c.push.new.self.items
    c.in_ok-extend_from_slice.ensures.items c.in_ok-push_number.ensures c.in_ok-extend_from_slice-2.ensures.items (c.in_ok-extend_from_slice-3.ensures.items ∙ ap (λ n. c.extend_from_slice-2.new.self.items ++ n) c.name_of.ensures) c.in_ok-push.ensures.items
