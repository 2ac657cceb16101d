use Rattle.std.proofs.Common.{subst}
use Rattle.p21_tree.specs.Views.{plain_instance}
use Rattle.p21_rules.specs.Firsts.{IsKey}
use Rattle.p21_rules.proofs.FirstLemmas.{breach_with, breach_without}
use Rattle.p21_rules.proofs.PushLemmas.{on_ok}
use Rattle.p21_rules.proofs.unique.breach.Goals as goal

pub returns-in-Some : goal.returns-in-Some
returns-in-Some c = λ rules before there held.
    let s = c.args.schema.now in
    let i = plain_instance c.args.instance.now in
    let found = subst (IsKey s c.args.number c.args.rule.now i) c.in-Some.is c.in_ok-key.ensures in
    on_ok c.first_of.result (λ x kept. breach_with s rules before i c.args.number c.args.rule.now there c.items_are_unique.ensures c.fits.ensures found.0 found.1 c.in-Some.key found.2 c.args.firsts.now c.first_of.new.firsts x kept held) c.first_of.ensures

pub returns-in-None : goal.returns-in-None
returns-in-None c = λ rules before there held.
    let s = c.args.schema.now in
    let i = plain_instance c.args.instance.now in
    let none = subst (IsKey s c.args.number c.args.rule.now i) c.in-None.is c.in_ok-key.ensures in
    breach_without s rules before i c.args.number c.args.rule.now there c.args.firsts.now none held
