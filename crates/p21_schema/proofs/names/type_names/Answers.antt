use Rattle.p21_express.specs.Schema.{Defined}
use Rattle.p21_express.specs.Plain.{plain_type}
use Rattle.p21_schema.proofs.NameLemmas.{new_name, more_names}
use Rattle.p21_schema.proofs.names.type_names.Goals as goal

pub push-requires : goal.push-requires
push-requires c = new_name (λ (d : Defined). d.name) plain_type c.args.types.now c.loop-decl.decl-index c.decl-item.result c.deref.result.now c.loop-decl-test.true c.decl-item.is c.deref.ensures.value c.loop-decl.names c.requires c.loop-decl.invariant

pub loop-decl-preserved : goal.loop-decl-preserved
loop-decl-preserved c = more_names (λ (d : Defined). d.name) plain_type c.args.types.now c.loop-decl.decl-index c.decl-item.result c.deref.result.now c.loop-decl-test.true c.decl-item.is c.deref.ensures.value c.loop-decl.names c.push.new.self c.loop-decl.invariant c.in_ok-push.ensures
