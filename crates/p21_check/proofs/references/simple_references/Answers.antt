use Rattle.std.proofs.Common.{refl, sym, ◌∙◌, arith}
use Rattle.p21_tree.specs.Views.{plain_record}
use Rattle.p21_check.specs.declared.entity_set.EntitySet.TheVariants as set
use Rattle.p21_check.specs.Sets.{HasEntity}
use Rattle.p21_check.specs.Instances.{simple_instance}
use Rattle.p21_check.proofs.ElementLemmas.{count_all}
use Rattle.p21_check.proofs.InstanceLemmas.{simple_set}
use Rattle.p21_check.proofs.RecordLemmas.{record_counted, last_answer}
use Rattle.p21_check.proofs.references.simple_references.Goals as goal

pub entry-requires-clause-count : goal.entry-requires-clause-count
entry-requires-clause-count g c os are =
    let local = c.requires.local in
    let e = plain_record c.args.one.now in
    sym (count_all c.args.one.now.params) ∙ record_counted c.args.schema.now (simple_instance local.0 local.1 e) 0 e local.2 refl os are

pub returns : goal.returns
returns g c name at =
    let s = c.args.schema.now in
    let e = plain_record c.args.one.now in
    let own = c.args.own in
    last_answer s c.fits.ensures (g.J.NameJudge.named c.args.judge.now) (simple_instance name at e) (HasEntity s (set.Simple own)) (simple_set s name at e own c.requires.entity c.requires.named) 0 e refl (omega arith) (λ r a p f less. absurd (omega (arith, less))) c.entry.result c.entry.ensures.attributes c.entry.ensures.found
