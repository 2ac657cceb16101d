use Rattle.std.proofs.Common.{◌≡◌, None, Some, map, ap, sym, subst, ◌∙◌}
use Rattle.std.specs.Prelude.{option_map}
use Rattle.p21_rule_text.specs.Clauses.{plain_unique}
use Rattle.p21_rule_text.specs.Rules.{HasLabel}
use Rattle.p21_rule_text.proofs.ResolveLemmas.{same_test}
use Rattle.p21_rule_text.proofs.labels.repeats.Goals as goal

pub returns-in-Some : goal.returns-in-Some
returns-in-Some c =
    let own : (plain_unique c.args.rule.now).label ≡ Some c.in-Some.label.now = ap (option_map (λ n. n.now)) c.in-Some.is in
    same_test c.has_label.result
    (λ h. (c.in-Some.label.now, own, h))
    (λ h. let same : h.0 ≡ c.in-Some.label.now = (let e = sym h.1 ∙ own in cc) in subst (HasLabel (map plain_unique c.args.earlier.now)) same h.2)
    c.has_label.ensures

pub returns-in-None : goal.returns-in-None
returns-in-None c = λ h. let none : (plain_unique c.args.rule.now).label ≡ None = ap (option_map (λ n. n.now)) c.in-None.is in absurd (let e = sym none ∙ h.1 in cc)
