use Rattle.std.proofs.Common.{subst}
use Rattle.p21_express.specs.WellFormed.{IsWellFormed}
use Rattle.p21_json.proofs.AttributeLemmas.{own_alone, of_row}
use Rattle.p21_json.proofs.terms.Terms.is_repeated.Goals as goal

pub returns-then-complex : goal.returns-then-complex
returns-then-complex c = λ os o a h. own_alone c.args.self.now c.args.entity c.args.complex os c.args.position o (subst IsWellFormed c.self.view_is c.fits.ensures) c.requires.entity c.if-complex.true a h

pub is_taken-requires : goal.is_taken-requires
is_taken-requires c = record { entity = c.requires.entity; position = (c.requires.position.0, (of_row c.args.self.now c.args.entity c.args.complex c.requires.position.0 c.if-complex.false c.requires.position.1.0, c.requires.position.1.1)) }

pub returns : goal.returns
returns c = λ os o a h. c.is_taken.ensures os o (of_row c.args.self.now c.args.entity c.args.complex os c.if-complex.false a) h
