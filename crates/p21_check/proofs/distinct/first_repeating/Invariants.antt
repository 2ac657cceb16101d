use Rattle.std.proofs.Common.{ℕ, List, ◌<◌}
use Rattle.p21_express.specs.WellFormed.{Origin}
use Rattle.p21_tree.specs.Plain.{plain_all}
use Rattle.p21_schema.specs.Place.{entity_name}
use Rattle.p21_check.specs.Attributes.{AreAttributes}
use Rattle.p21_check.specs.Instances.{IsRepeatingAt}
use Rattle.p21_check.specs.Sets.{HasEntity}
use Rattle.p21_check.proofs.distinct.first_repeating.Given as goal

-- no parameter so far repeats a name
abbrev pub invariant-loop-position : goal.invariant-loop-position
invariant-loop-position l = (os : List Origin) → AreAttributes l.schema l.complex (entity_name l.schema l.entity) os → (b : ℕ) → b < l.position → ¬ (IsRepeatingAt l.schema (HasEntity l.schema l.set) os (plain_all l.params) b)
