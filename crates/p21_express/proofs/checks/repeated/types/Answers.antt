use Rattle.p21_express.specs.Schema.{Defined}
use Rattle.p21_express.specs.WellFormed.{HasDistinctItems}
use Rattle.p21_express.specs.Plain.{plain_type}
use Rattle.p21_express.proofs.ChecksLemmas.{finds_more}
use Rattle.p21_express.proofs.checks.repeated.types.Goals as goal

pub loop-i-preserved : goal.loop-i-preserved
loop-i-preserved c =
    finds_more (λ (t : Defined). HasDistinctItems t.under) plain_type c.args.checked.declarations.now.types.items c.loop-i.i c.decl-item.result c.args.first.now.found c.loop-i.first.found c.items.new.first.found (rw c.deref-decl-items.ensures.value at c.loop-i-test.true) (rw c.deref-decl-items.ensures.value at c.decl-item.is) c.loop-i.invariant c.in_ok-items.ensures
