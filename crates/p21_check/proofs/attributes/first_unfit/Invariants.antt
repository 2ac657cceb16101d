use Rattle.std.proofs.Common.{ℕ, List, ◌<◌}
use Rattle.p21_express.specs.WellFormed.{Origin}
use Rattle.p21_tree.specs.Plain.{plain_all}
use Rattle.p21_schema.specs.Place.{entity_name}
use Rattle.p21_check.specs.Attributes.{AreAttributes}
use Rattle.p21_check.specs.Instances.{IsUnfitAt}
use Rattle.p21_check.specs.Sets.{HasEntity}
use Rattle.p21_check.proofs.attributes.first_unfit.Given as goal

-- each parameter so far fits
abbrev pub invariant-loop-position : goal.invariant-loop-position
invariant-loop-position l = (os : List Origin) → AreAttributes l.schema l.complex (entity_name l.schema l.entity) os → (b : ℕ) → b < l.position → ¬ (IsUnfitAt l.schema (HasEntity l.schema l.set) os (plain_all l.params) b)
