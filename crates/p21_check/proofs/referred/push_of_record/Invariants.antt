use Rattle.std.proofs.Common.{ℕ}
use Rattle.p21_tree.specs.Views.{plain_record}
use Rattle.p21_check.specs.Instances.{simple_instance}
use Rattle.p21_check.specs.Referred.{Adds}
use Rattle.p21_check.proofs.ReferredLemmas.{HasBelow}
use Rattle.p21_check.proofs.referred.push_of_record.Given as goal

-- the references in the parameters before this one are added
abbrev pub invariant-loop-attr : goal.invariant-loop-attr
invariant-loop-attr l = (name at : ℕ) → Adds l.schema (HasBelow l.schema (simple_instance name at (plain_record l.one)) l.attr) l.initial.into.items l.into.items
