use Rattle.std.proofs.Common.{◌≡◌, true, false, refl, ⊎_elim}
use Rattle.p21_express.specs.Graph.{lists}
use Rattle.p21_express.specs.Plain.{plain_schema}
use Rattle.p21_express.proofs.CycleLemmas.{graphs_to_schema, schema_to_types, entities_to_graph}
use Rattle.p21_express.proofs.checks.cycles.check.Goals as goal

pub returns-then-is_own_ancestor : goal.returns-then-is_own_ancestor
returns-then-is_own_ancestor c =
    let s = plain_schema c.args.checked.declarations.now in (
      refl,
      λ h. ⊎_elim
          (λ (t : c.in_ok-is_own_ancestor.is_own_ancestor ≡ true). let n = rw t at c.in_ok-is_own_ancestor.ensures in n (entities_to_graph s (lists c.in_ok-supertypes.supertypes.items) c.in_ok-supertypes.ensures h.entities))
          (λ (p : (c.in_ok-is_own_ancestor.is_own_ancestor ≡ false) × (c.in_ok-is_own_type.is_own_type ≡ true)). let n = rw p.1 at c.in_ok-is_own_type.ensures in n (schema_to_types s c.requires.index.distinct c.requires.unknown (lists c.in_ok-types.types.items) c.in_ok-types.ensures h))
          c.then-is_own_ancestor.either,
    )

pub returns : goal.returns
returns c = graphs_to_schema (plain_schema c.args.checked.declarations.now) c.requires.index.distinct c.requires.unknown (lists c.in_ok-supertypes.supertypes.items) (lists c.in_ok-types.types.items) c.in_ok-supertypes.ensures c.in_ok-types.ensures (rw c.if-is_own_ancestor.false at c.in_ok-is_own_ancestor.ensures) (rw c.if-is_own_type.false at c.in_ok-is_own_type.ensures)
