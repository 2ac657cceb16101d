use Rattle.std.proofs.Common.{arith}
use Rattle.p21_express.specs.Plain.{plain_schema}
use Rattle.p21_express.proofs.AncestryLemmas.{no_owner, not_only, only_first, owner_within}
use Rattle.p21_express.proofs.checks.owners.only_owner.Goals as goal

pub overflow_add-owner : goal.overflow_add-owner
overflow_add-owner c =
    let within = owner_within c.args.declarations.now c.args.ancestry.now c.args.of c.args.name.now c.in_ok-owner.owner c.in_ok-owner.ensures.owner in
    omega (arith, within, c.args.declarations.now.entities.small)

pub returns-in-Some : goal.returns-in-Some
returns-in-Some c = λ i. not_only (plain_schema c.args.declarations.now) c.args.ancestry.now c.args.of c.args.name.now c.in_ok-owner.owner c.in-Some.field-0 i c.in_ok-owner.ensures c.in-Some.ensures

pub returns-in-None : goal.returns-in-None
returns-in-None c = only_first (plain_schema c.args.declarations.now) c.args.ancestry.now c.args.of c.args.name.now c.in_ok-owner.owner c.in_ok-owner.ensures c.in-None.ensures

pub returns-in_err-owner : goal.returns-in_err-owner
returns-in_err-owner c = rw c.from_residual.ensures (no_owner (plain_schema c.args.declarations.now) c.args.ancestry.now c.args.of c.args.name.now c.in_err-owner.ensures)
