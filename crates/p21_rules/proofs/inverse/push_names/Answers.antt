use Rattle.std.proofs.Common.{◌++◌, ◌∙◌, ap}
use Rattle.std.proofs.lemmas.Result.{on_ok_weaker}
use Rattle.p21_tree.specs.Plain.{plain}
use Rattle.p21_rules.specs.InverseCount as inverse
use Rattle.p21_rules.specs.Mentions.{mentions}
use Rattle.p21_rules.proofs.inverse.push_names.Goals as goal

pub returns-in-Some : goal.returns-in-Some
returns-in-Some c =
    on_ok_weaker c.push_mentions.result
    (λ e. inverse.by (record { of = c.requires.of; parameter = c.in-Some.ensures.value }) (e ∙ ap (λ l. l ++ mentions (plain c.in-Some.param.now)) c.clear.ensures.items))
    c.push_mentions.ensures

pub returns-in-None : goal.returns-in-None
returns-in-None c = inverse.none (λ t h. c.in-None.ensures.value t h.parameter) c.clear.ensures.items
