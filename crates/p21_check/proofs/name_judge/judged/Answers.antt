use Rattle.std.proofs.Common.{sym, subst, ◌∙◌}
use Rattle.std.proofs.lemmas.Bool.{false≢true}
use Rattle.p21_check.specs.EntityOf.{IsKnownAs}
use Rattle.p21_check.proofs.NameJudgeLemmas.{wrong_first, wrong_second, answered, known_one}
use Rattle.p21_check.proofs.name_judge.judged.Goals as goal

pub returns-in-Missing : goal.returns-in-Missing
returns-in-Missing c named is = c.missing.ensures c.args.schema.now named (subst (IsKnownAs c.args.schema.now (named c.args.name)) c.in-Missing.is is)

pub admits-requires-clause-known : goal.admits-requires-clause-known
admits-requires-clause-known c = let one = known_one c.args.schema.now c.requires.known.0 c.args.named c.requires.known.1 c.in_default.not-Missing in (one.0, one.2)

pub admits-requires-2-clause-known : goal.admits-requires-2-clause-known
admits-requires-2-clause-known c = let one = known_one c.args.schema.now c.requires.known.0 c.args.named c.requires.known.1 c.in_default.not-Missing in (one.0, one.2)

pub returns-then-not-admits : goal.returns-then-not-admits
returns-then-not-admits c named is =
    let s = c.args.schema.now in
    let one = known_one s (named c.args.name) c.args.named is c.in_default.not-Missing in
    wrong_first s named c.args.first c.args.second c.args.name one.0 one.1
    (λ a. false≢true (sym c.if-not-admits.true ∙ (c.admits.ensures one.0 one.2).1 a))

pub returns-then-not-admits-2 : goal.returns-then-not-admits-2
returns-then-not-admits-2 c named is =
    let s = c.args.schema.now in
    let one = known_one s (named c.args.name) c.args.named is c.in_default.not-Missing in
    wrong_second s named c.args.first c.args.second c.args.name one.0 one.1
    (λ a. false≢true (sym c.if-not-admits-2.true ∙ (c.admits-2.ensures one.0 one.2).1 a))

pub returns : goal.returns
returns c named is =
    let s = c.args.schema.now in
    let one = known_one s (named c.args.name) c.args.named is c.in_default.not-Missing in
    (answered s named c.args.first c.args.name one.0 one.1 ((c.admits.ensures one.0 one.2).0 c.if-not-admits.false), answered s named c.args.second c.args.name one.0 one.1 ((c.admits-2.ensures one.0 one.2).0 c.if-not-admits-2.false))
