use Rattle.std.proofs.Common.{◌∙◌, length, refl, sym}
use Rattle.std.proofs.lemmas.Bool.{false≢true}
use Rattle.std.proofs.lemmas.Option.{slice_get_read}
use Rattle.p21_tree.specs.declared.instances.RawInstance.{RawInstance}
use Rattle.p21_tree.specs.Views.{plain_instance}
use Rattle.p21_query.specs.Names.{AnyHasName}
use Rattle.p21_query.proofs.FirstLemmas.{found_first, passed_further, passed_all}
use Rattle.p21_query.proofs.references.next_naming.Goals as goal

pub returns-then-is_naming : goal.returns-then-is_naming
returns-then-is_naming c =
    let P = λ (i : RawInstance). AnyHasName c.args.name (plain_instance i).records in
    let xs = c.args.instances.now in
    let x = c.index-instances-place.result in
    let here = slice_get_read xs (length xs) c.loop-place.place x refl c.loop-place-test.true c.index-instances-place.is in
    found_first P (λ i. ¬ (P i)) xs c.args.from c.loop-place.place x c.loop-place.auto.place here (c.is_naming.ensures.0 c.if-is_naming.true) c.loop-place.invariant

pub loop-place-preserved : goal.loop-place-preserved
loop-place-preserved c =
    let P = λ (i : RawInstance). AnyHasName c.args.name (plain_instance i).records in
    let xs = c.args.instances.now in
    let x = c.index-instances-place.result in
    let here = slice_get_read xs (length xs) c.loop-place.place x refl c.loop-place-test.true c.index-instances-place.is in
    passed_further (λ i. ¬ (P i)) xs c.args.from c.loop-place.place x here (λ w. false≢true (sym c.if-is_naming.false ∙ c.is_naming.ensures.1 w)) c.loop-place.invariant

pub returns : goal.returns
returns c =
    let P = λ (i : RawInstance). AnyHasName c.args.name (plain_instance i).records in
    passed_all P (λ i. ¬ (P i)) c.args.instances.now c.args.from c.loop-place.place c.loop-place-test.false c.loop-place.invariant
