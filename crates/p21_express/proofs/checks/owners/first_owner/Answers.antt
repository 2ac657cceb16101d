use Rattle.std.proofs.Common.{◌≡◌, subst, ⊎_elim, arith}
use Rattle.std.proofs.lemmas.Bool.{cases_eq}
use Rattle.p21_express.specs.Owners.{IsOwner}
use Rattle.p21_express.specs.Plain.{plain_schema}
use Rattle.p21_express.proofs.AncestryLemmas.{owner_within}
use Rattle.p21_express.proofs.checks.owners.first_owner.Goals as goal

pub returns-then-is_owner : goal.returns-then-is_owner
returns-then-is_owner c = record { owner = c.if-is_owner.ensures; from = c.loop-position.auto.position; before = c.loop-position.invariant }

pub loop-position-preserved : goal.loop-position-preserved
loop-position-preserved c = λ i from less h. ⊎_elim
    (λ (e : i ≡ c.loop-position.position). c.if-is_owner.ensures (subst (λ u. IsOwner (plain_schema c.args.declarations.now) c.args.ancestry.now c.args.of c.args.name.now u) e h))
    (λ (ne : (i ≡ c.loop-position.position) → ⊥). c.loop-position.invariant i from (omega arith) h)
    (cases_eq i c.loop-position.position)

pub returns : goal.returns
returns c = λ i from h.
    let within = owner_within c.args.declarations.now c.args.ancestry.now c.args.of c.args.name.now i h in
    c.loop-position.invariant i from (omega (arith, within)) h
