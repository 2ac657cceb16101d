use Rattle.std.proofs.Common.{[], None, refl, arith}
use Rattle.p21_express.specs.declared.names.AttrName as source
use Rattle.p21_express.specs.Plain.{plain_expr}
use Rattle.p21_express.proofs.AttributeLemmas.{declared_more}
use Rattle.p21_express.proofs.attributes.declared.Goals as goal

pub loop-naming-preserved : goal.loop-naming-preserved
loop-naming-preserved c =
    let blank : source.AttrName = record { name = record { ref_ptr = (0, 0); now = [] }; of = None; place = 0 } in
    rw c.in_ok-push.ensures.items (declared_more c.args.optional (plain_expr c.args.texpr.now) c.loop-naming.list.items _ c.args.namings.now c.loop-naming.naming-index blank (omega arith) c.loop-naming.invariant (rw (c.in_ok-from_slice.ensures.items, c.in_ok-owned.ensures, c.in_ok-copied.ensures) refl))
