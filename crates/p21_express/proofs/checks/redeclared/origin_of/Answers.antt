use Rattle.std.proofs.Common.{◌<◌, sym, subst, ◌∙◌}
use Rattle.std.proofs.lemmas.Bool.{false≢true}
use Rattle.std.proofs.lemmas.Option.{slice_get_within}
use Rattle.p21_express.specs.Again.{plain_again}
use Rattle.p21_express.specs.Plain.{plain_schema}
use Rattle.p21_express.proofs.AncestryLemmas.{again_only, entity_within, no_ancestor, no_entity, not_allowed, not_itself, only_again}
use Rattle.p21_express.proofs.checks.redeclared.origin_of.Goals as goal

pub has-requires-clause-column : goal.has-requires-clause-column
has-requires-clause-column c =
    let s = plain_schema c.args.known.now.declarations.now in
    subst (λ u. c.in_ok-of.of < u) (sym c.requires.ancestry.columns) (entity_within s c.in_ok-of.of c.args.again.of.now (c.in_ok-of.ensures s c.requires.index).0)

pub only_owner-requires-clause-of : goal.only_owner-requires-clause-of
only_owner-requires-clause-of c =
    let s = plain_schema c.args.known.now.declarations.now in
    entity_within s c.in_ok-of.of c.args.again.of.now (c.in_ok-of.ensures s c.requires.index).0

pub is_allowed-requires : goal.is_allowed-requires
is_allowed-requires c = let new = c.in_ok-owner.ensures.owner.newly in slice_get_within (plain_schema c.args.known.now.declarations.now).entities c.in_ok-owner.owner new.entity new.there

pub returns-in_err-of : goal.returns-in_err-of
returns-in_err-of c = λ e here.
    let s = plain_schema c.args.known.now.declarations.now in
    rw c.from_residual.ensures (no_entity s c.requires.index.distinct c.requires.unknown c.requires.cycles.entities c.args.known.now.ancestry c.requires.ancestry c.args.position e here (plain_again c.args.again) (c.in_err-of.ensures s c.requires.index))

pub returns-then-of-position : goal.returns-then-of-position
returns-then-of-position c = λ e here.
    let s = plain_schema c.args.known.now.declarations.now in
    not_itself s c.requires.index.distinct c.requires.unknown c.requires.cycles.entities c.args.known.now.ancestry c.requires.ancestry c.args.position e here (plain_again c.args.again) c.in_ok-of.of (c.in_ok-of.ensures s c.requires.index) c.if-of-position.true

pub returns-then-not-has : goal.returns-then-not-has
returns-then-not-has c = λ e here.
    let s = plain_schema c.args.known.now.declarations.now in
    no_ancestor s c.requires.index.distinct c.requires.unknown c.requires.cycles.entities c.args.known.now.ancestry c.requires.ancestry c.args.position e here (plain_again c.args.again) c.in_ok-of.of (c.in_ok-of.ensures s c.requires.index) (λ h. false≢true (sym c.if-not-has.true ∙ c.has.ensures.1 h))

pub returns-in_err-owner : goal.returns-in_err-owner
returns-in_err-owner c = λ e here.
    let s = plain_schema c.args.known.now.declarations.now in
    rw c.from_residual-in_err-owner.ensures (λ i h. c.in_err-owner.ensures i (again_only s c.requires.index.distinct c.requires.unknown c.requires.cycles.entities c.args.known.now.ancestry c.requires.ancestry c.args.position e here (plain_again c.args.again) c.in_ok-of.of (c.in_ok-of.ensures s c.requires.index) i h))

pub returns-then-is_allowed : goal.returns-then-is_allowed
returns-then-is_allowed c = λ e here.
    let s = plain_schema c.args.known.now.declarations.now in
    only_again s c.requires.index.distinct c.requires.unknown c.requires.cycles.entities c.args.known.now.ancestry c.requires.ancestry c.args.position e here (plain_again c.args.again) c.in_ok-of.of (c.in_ok-of.ensures s c.requires.index) c.in_ok-owner.owner c.if-of-position.false (c.has.ensures.0 c.if-not-has.false) c.in_ok-owner.ensures c.if-is_allowed.ensures

pub returns-else-is_allowed : goal.returns-else-is_allowed
returns-else-is_allowed c = λ e here.
    let s = plain_schema c.args.known.now.declarations.now in
    not_allowed s c.requires.index.distinct c.requires.unknown c.requires.cycles.entities c.args.known.now.ancestry c.requires.ancestry c.args.position e here (plain_again c.args.again) c.in_ok-of.of (c.in_ok-of.ensures s c.requires.index) c.in_ok-owner.owner c.in_ok-owner.ensures c.if-is_allowed.ensures
