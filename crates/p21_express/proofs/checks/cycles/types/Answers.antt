use Rattle.p21_express.specs.Positions.{AreTypesUnder}
use Rattle.p21_express.specs.Plain.{plain_schema, plain_type}
use Rattle.p21_express.proofs.PositionLemmas.{one_list_more}
use Rattle.p21_express.proofs.checks.cycles.types.Goals as goal

pub loop-decl-preserved : goal.loop-decl-preserved
loop-decl-preserved c =
    rw c.in_ok-push.ensures.items
    (one_list_more (λ t edges. AreTypesUnder (plain_schema c.args.checked.declarations.now) t.under edges) plain_type c.args.checked.declarations.now.types.items c.loop-decl.decl-index c.decl-item.result c.loop-decl.graph.items c.in_ok-types_under.field-0 (rw c.deref-decl-items.ensures.value at c.loop-decl-test.true) (rw c.deref-decl-items.ensures.value at c.decl-item.is) c.loop-decl.invariant (c.in_ok-types_under.ensures (plain_schema c.args.checked.declarations.now) c.requires))
