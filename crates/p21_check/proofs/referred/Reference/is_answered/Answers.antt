use Rattle.std.proofs.Common.{subst}
use Rattle.std.proofs.lemmas.Bool.{false≢true}
use Rattle.p21_check.specs.EntityOf.{IsKnownAs}
use Rattle.p21_check.proofs.NameJudgeLemmas.{known_one}
use Rattle.p21_check.proofs.ReferredLemmas.{admitted}
use Rattle.p21_check.proofs.referred.Reference.is_answered.Goals as goal

pub returns-in-Missing : goal.returns-in-Missing
returns-in-Missing c named is =
    let none = subst (IsKnownAs c.args.schema.now (named c.args.self.name)) c.in-Missing.is is in
    ((λ h. absurd (false≢true h)), λ a. let has = a.has in absurd cc)

pub admits-requires-clause-known : goal.admits-requires-clause-known
admits-requires-clause-known c = let one = known_one c.args.schema.now c.requires.known.0 c.args.named c.requires.known.1 c.in_default.not-Missing in (one.0, one.2)

pub returns : goal.returns
returns c named is =
    let s = c.args.schema.now in
    let one = known_one s (named c.args.self.name) c.args.named is c.in_default.not-Missing in
    admitted s c.wanted.result c.args.self named one.0 c.admits.result c.wanted.ensures.asked c.wanted.ensures.number one.1 (c.admits.ensures one.0 one.2)
