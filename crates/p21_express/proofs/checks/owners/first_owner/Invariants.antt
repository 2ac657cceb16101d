use Rattle.std.proofs.Common.{ℕ, ◌<◌, ◌≤◌}
use Rattle.p21_express.specs.Owners.{IsOwner}
use Rattle.p21_express.specs.Plain.{plain_schema}
use Rattle.p21_express.proofs.checks.owners.first_owner.Given as goal

abbrev pub invariant-loop-position : goal.invariant-loop-position
invariant-loop-position l = (i : ℕ) → l.fn.from ≤ i → i < l.position → ¬ (IsOwner (plain_schema l.declarations) l.ancestry l.of l.name i)
